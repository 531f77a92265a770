-- `vector_text::bytes` meets its contract: the bytes passed are stored. Assumes nothing.
use Rattle.std.proofs.Common.{◌*◌, ◌+◌, ◌/◌, length, rules, slice_set}
use Rattle.vector_text.proofs.Stores.{bytes-all, bytes-bad, bytes-dash, bytes-empty, bytes-full, bytes-more, bytes-none, bytes-odd, Bytes}
use borrow.Author.Tests.{eq-eqb, eqb-true}
use mathlib.Core.Bool.{true≢false}
use mathlib.Core.Path.{◌∙◌, sym, subst, ◌≡◌}
use native.Mathlib.Omega.{arith}
use Rattle.vector_text.proofs.bytes.Goals as goal

pub returns-then-eq : goal.returns-then-eq
returns-then-eq c =
    bytes-dash _ _ (search rules)

pub returns-then-is_empty : goal.returns-then-is_empty
returns-then-is_empty c =
    bytes-empty _ _ _ (eqb-true _ _ (sym c.is_empty.ensures ∙ c.if-is_empty.true))

pub loop-i-init : goal.loop-i-init
loop-i-init c =
    bytes-none _ _ (λ h. search rules) (λ h. true≢false (sym (eq-eqb _ _ h) ∙ sym c.is_empty.ensures ∙ c.if-is_empty.false))

pub returns-in_err-x : goal.returns-in_err-x
returns-in_err-x c =
    rw (c.from_residual.ensures) (bytes-bad _ _ _ _ _ c.loop-i.invariant (omega arith) _ c.in_err-x.ensures)

pub returns-then-out-i : goal.returns-then-out-i
returns-then-out-i c =
    bytes-full _ _ _ _ _ c.loop-i.invariant (omega arith) _ c.in_ok-x.ensures _ c.if-out-i.true

pub loop-i-preserved : goal.loop-i-preserved
loop-i-preserved c =
    let two : 2 * c.loop-i.i + 2 ≡ 2 * (c.loop-i.i + 1) = omega arith in
    subst (λ j. Bytes c.args.text.now c.args.out.now (slice_set c.loop-i.out c.loop-i.i c.in_ok-x.x) (c.loop-i.i + 1) j) two (bytes-more _ _ _ _ _ c.loop-i.invariant (omega arith) _ c.in_ok-x.ensures c.if-out-i.false)

pub returns-then-text-eq1 : goal.returns-then-text-eq1
returns-then-text-eq1 c =
    bytes-odd _ _ _ _ _ c.loop-i.invariant _ (omega arith)

pub returns-else-text-eq1 : goal.returns-else-text-eq1
returns-else-text-eq1 c =
    let all : c.loop-i.i ≡ length c.args.text.now / 2 = omega arith in
    rw (← all) (bytes-all _ _ _ _ _ c.loop-i.invariant (omega arith))
