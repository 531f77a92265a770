-- `vector_text::number` meets its contract: the digits passed make the value. Assumes nothing.
use Rattle.vector_text.proofs.Numbers.{counted-all, counted-more, counted_none, not_digit, number-empty, over}
use borrow.Author.Tests.{eq-eqb, eqb-true}
use mathlib.Core.Bool.{true≢false}
use mathlib.Core.Path.{◌∙◌, sym}
use native.Mathlib.Omega.{arith}
use Rattle.vector_text.proofs.number.Goals as goal

pub returns-then-is_empty : goal.returns-then-is_empty
returns-then-is_empty c =
    number-empty _ (eqb-true _ _ (sym c.is_empty.ensures ∙ c.if-is_empty.true))

pub loop-b-init : goal.loop-b-init
loop-b-init c =
    counted_none _ (λ h. true≢false (sym (eq-eqb _ _ h) ∙ sym c.is_empty.ensures ∙ c.if-is_empty.false))

pub returns-in_err-d : goal.returns-in_err-d
returns-in_err-d c =
    c.from_residual.ensures ∙ not_digit _ _ _ 16 c.loop-b.invariant c.loop-b-test.true (sym c.in_err-d.ensures) (omega arith)

pub returns-then-d-gt9 : goal.returns-then-d-gt9
returns-then-d-gt9 c =
    not_digit _ _ _ _ c.loop-b.invariant c.loop-b-test.true c.in_ok-d.ensures.0 c.if-d-gt9.true

pub returns-then-value-gt99999999 : goal.returns-then-value-gt99999999
returns-then-value-gt99999999 c =
    over _ _ _ _ c.loop-b.invariant c.loop-b-test.true c.in_ok-d.ensures.0 c.if-d-gt9.false c.if-value-gt99999999.true

pub loop-b-preserved : goal.loop-b-preserved
loop-b-preserved c =
    counted-more _ _ _ _ c.loop-b.invariant c.loop-b-test.true (c.from.ensures ∙ c.in_ok-d.ensures.0) (omega arith) c.if-value-gt99999999.false

pub returns : goal.returns
returns c =
    counted-all _ _ _ c.loop-b.invariant c.loop-b-test.false
