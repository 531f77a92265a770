-- `arena_build::find_def` meets its contract: the answer is that of the rows that are left. Assumes nothing.
use Rattle.cpl.specs.Plan.{pair}
use Rattle.arena_build.proofs.Defs.{Passed}
use Rattle.arena_build.proofs.find_def.Given as goal

abbrev pub invariant-loop-i : goal.invariant-loop-i
invariant-loop-i l = Passed l.list.rows.now l.list.first l.list.count (pair l.q l.n) l.i
