-- `join_key_set::JoinKeySet::insert_all` meets its contract: the pairs are worked in one after the other. Assumes nothing.
use Prim.Native.Nat.{ℕ}
use Rattle.join_key_set.proofs.Fold.{Work}
use Rattle.join_key_set.specs.Pairs.{KeysIn, keys_at}
use Rattle.join_keys.specs.Keys.{insert_all}
use Rattle.join_key_set.proofs.JoinKeySet.insert_all.Given as goal

abbrev pub invariant-loop-i : goal.invariant-loop-i
invariant-loop-i l =
    Work (insert_all (keys_at l.cells l.initial.pairs l.keys.start l.keys.size) (keys_at l.cells l.initial.pairs l.initial.set.start l.initial.set.size)) insert_all l.cells l.initial.pairs l.initial.set.start l.initial.set.size l.keys.start l.keys.size l.i l.set l.pairs
    × ((n : ℕ) → KeysIn n l.initial.pairs l.initial.set.start l.initial.set.size → KeysIn n l.initial.pairs l.keys.start l.keys.size → KeysIn n l.pairs l.set.start l.set.size)
