-- `join_key_set::JoinKeySet::contains` meets its contract: the pairs passed are others. Assumes nothing.
use Rattle.arena.specs.Cells.{expr_at}
use Rattle.join_key_set.proofs.Sets.{Sought}
use Rattle.join_key_set.proofs.JoinKeySet.contains.Given as goal

abbrev pub invariant-loop-i : goal.invariant-loop-i
invariant-loop-i l = Sought l.cells l.pairs l.self.start l.self.size (expr_at l.cells l.left) (expr_at l.cells l.right) l.i
