-- `join_key_set::JoinKeySet::insert_intersection` meets its contract: the pairs are worked in one after the other. Assumes nothing.
use Rattle.join_key_set.proofs.Fold.{Work}
use Rattle.join_key_set.specs.Pairs.{keys_at}
use Rattle.join_keys.specs.Keys.{insert_intersection}
use Rattle.join_key_set.proofs.JoinKeySet.insert_intersection.Given as goal

abbrev pub invariant-loop-i : goal.invariant-loop-i
invariant-loop-i l =
    Work (insert_intersection (keys_at l.cells l.initial.pairs l.s1.start l.s1.size) (keys_at l.cells l.initial.pairs l.s2.start l.s2.size) (keys_at l.cells l.initial.pairs l.initial.set.start l.initial.set.size))
    (λ ps s. insert_intersection ps (keys_at l.cells l.initial.pairs l.s2.start l.s2.size) s) l.cells l.initial.pairs l.initial.set.start l.initial.set.size l.s1.start l.s1.size l.i l.set l.pairs
