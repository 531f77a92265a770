-- `lookup::sides_clash` meets its contract: no field of the right side that was passed is in conflict with the left side. Assumes nothing.
use Rattle.cpl.specs.Accept.{conflict}
use Rattle.cpl.specs.Plan.{Pair}
use Rattle.cpl.specs.Tests.{any_b}
use Rattle.lookup.proofs.Clash.{across, sides_clear}
use Rattle.lookup.proofs.Lists.{missed_all, missed_hit, missed_more}
use Rattle.lookup.specs.Fields.{left_row}
use mathlib.Core.Path.{◌∙◌, ap, sym}
use Rattle.lookup.proofs.sides_clash.Goals as goal

pub returns-then-conflicts_marked : goal.returns-then-conflicts_marked
unfolding across
returns-then-conflicts_marked c =
    missed_hit _ _ _ _ _ c.loop-i.invariant c.loop-i-test.true (sym c.if-conflicts_marked.true ∙ c.conflicts_marked.ensures ∙ ap (λ (p : Pair). any_b (conflict p) (left_row c.args.fields.now c.args.sides)) c.field_at-f.ensures) ∙ sides_clear _ _ c.requires.sides_value.0 c.requires.sides_value.1

pub loop-i-preserved : goal.loop-i-preserved
loop-i-preserved c =
    missed_more _ _ _ _ _ c.loop-i.invariant c.loop-i-test.true (sym c.if-conflicts_marked.false ∙ c.conflicts_marked.ensures ∙ ap (λ (p : Pair). any_b (conflict p) (left_row c.args.fields.now c.args.sides)) c.field_at-f.ensures)

pub returns : goal.returns
unfolding across
returns c =
    missed_all _ _ _ _ _ c.loop-i.invariant c.loop-i-test.false ∙ sides_clear _ _ c.requires.sides_value.0 c.requires.sides_value.1
