-- `required_indices::next_in` meets its contract.
use lib.ListN.{take}
use Rattle.required_indices.proofs.Search.{Searched}
use Rattle.required_indices.proofs.next_in.Given as goal

abbrev pub invariant-loop-k : goal.invariant-loop-k
invariant-loop-k l = Searched (take l.used l.words) l.from l.k l.at
