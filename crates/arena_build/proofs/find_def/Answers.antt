-- `arena_build::find_def` meets its contract: the answer is that of the rows that are left. Assumes nothing.
use mathlib.Core.Path.{◌≡◌}
use mathlib.Core.Bool.{true, false, ◌&&◌, ◌||◌}
use lib.Dec.{eqb}
use native.Mathlib.Omega.{arith}
use Rattle.std.proofs.lemmas.Bool.Decides.{nat_tests}
use Rattle.arena_build.proofs.Defs.{passed_all, passed_found, passed_more}
use Rattle.arena_build.proofs.find_def.Goals as goal

pub returns-then-q-row : goal.returns-then-q-row
returns-then-q-row c =
    let e : eqb c.args.n c.row_at-row.result.name && (eqb c.args.q 0 || eqb c.args.q c.row_at-row.result.qualifier) ≡ true = grind (arith, nat_tests) in
    passed_found _ _ _ _ _ _ _ _ _ _ c.loop-i.invariant c.loop-i-test.true c.row_at-row.ensures e

pub loop-i-preserved : goal.loop-i-preserved
loop-i-preserved c =
    let e : eqb c.args.n c.row_at-row.result.name && (eqb c.args.q 0 || eqb c.args.q c.row_at-row.result.qualifier) ≡ false = grind (arith, nat_tests) in
    passed_more _ _ _ _ _ _ _ _ _ _ c.loop-i.invariant c.loop-i-test.true c.row_at-row.ensures e

pub returns : goal.returns
returns c =
    passed_all _ _ _ _ _ c.loop-i.invariant c.loop-i-test.false
