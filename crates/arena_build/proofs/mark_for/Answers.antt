-- `arena_build::mark_for` meets its contract. Assumes nothing.
use mathlib.Core.Path.{◌≡◌}
use mathlib.Core.Bool.{false, not, ◌&&◌}
use lib.Dec.{eqb}
use native.Mathlib.Omega.{arith}
use Rattle.std.proofs.lemmas.Bool.Decides.{nat_tests}
use Rattle.arena_build.proofs.Items.{marked_by, mark_stays}
use Rattle.arena_build.proofs.mark_for.Goals as goal

pub returns-then-q-ne0 : goal.returns-then-q-ne0
returns-then-q-ne0 c =
    mark_stays _ _ _ _ (grind (arith, nat_tests))

pub returns : goal.returns
returns c =
    let e : not (eqb c.args.mark 0) && not (eqb c.args.q 0) ≡ false = grind (arith, nat_tests) in
    rw c.from.ensures (marked_by _ _ _ _ e _ c.is_column.ensures)
