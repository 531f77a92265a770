-- `lookup::clash_from` meets its contract: the fields passed do not clash, and their names are marked. Assumes nothing.
use Prim.Native.Nat.{ℕ}
use Rattle.cpl.specs.Accept.{clash, conflict}
use Rattle.cpl.specs.Plan.{Pair}
use Rattle.cpl.specs.Tests.{any_b}
use Rattle.lookup.proofs.Clash.{clash_hit, clear-more}
use Rattle.lookup.proofs.Marks.{marked_more}
use Rattle.lookup.specs.Fields.{row_at}
use mathlib.Core.Path.{◌∙◌, ◌≡◌, ap, refl, sym}
use native.Mathlib.Omega.{arith}
use Rattle.lookup.proofs.clash_from.Goals as goal

pub returns-then-start-width : goal.returns-then-start-width
returns-then-start-width c =
    sym c.requires.start_le_width.1 ∙ ap (λ (n : ℕ). clash (row_at c.args.fields.now c.args.first n)) c.if-start-width.true

pub mark_row-requires : goal.mark_row-requires
mark_row-requires c =
    (refl, omega (arith, c.requires.row_in, c.requires.start_le_width.0))

pub loop-i-init : goal.loop-i-init
loop-i-init c =
    (c.requires.start_le_width.0, c.requires.start_le_width.1, c.mark_row.ensures)

pub returns-then-conflicts_marked : goal.returns-then-conflicts_marked
returns-then-conflicts_marked c =
    clash_hit c.args.fields.now c.args.first c.args.width c.loop-i.i (sym c.if-conflicts_marked.true ∙ c.conflicts_marked.ensures ∙ ap (λ (p : Pair). any_b (conflict p) (row_at c.args.fields.now c.args.first c.loop-i.i)) c.field_at-f.ensures) c.loop-i.invariant.1 c.loop-i-test.true

pub loop-i-preserved : goal.loop-i-preserved
loop-i-preserved c = (
  omega arith,
  clear-more c.args.fields.now c.args.first c.args.width c.loop-i.i (sym c.if-conflicts_marked.false ∙ c.conflicts_marked.ensures ∙ ap (λ (p : Pair). any_b (conflict p) (row_at c.args.fields.now c.args.first c.loop-i.i)) c.field_at-f.ensures) c.loop-i.invariant.1,
  marked_more c.args.fields.now c.args.first c.loop-i.i c.loop-i.invariant.2 c.field_at-f.ensures c.mark.ensures,
)

pub returns : goal.returns
returns c =
    let e : c.loop-i.i ≡ c.args.width = omega (arith, c.loop-i.invariant.0) in
    sym c.loop-i.invariant.1 ∙ ap (λ (n : ℕ). clash (row_at c.args.fields.now c.args.first n)) e
