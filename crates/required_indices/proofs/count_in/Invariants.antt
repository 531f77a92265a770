-- `required_indices::count_in` meets its contract.
use Prim.Native.Nat.{◌+◌}
use mathlib.Core.Path.{◌≡◌}
use lib.ListN.{drop, take}
use Rattle.required_indices.proofs.Words.{ones_w}
use Rattle.required_indices.proofs.count_in.Given as goal

abbrev pub invariant-loop-k : goal.invariant-loop-k
invariant-loop-k l = l.n + ones_w (drop l.k (take l.used l.words)) ≡ ones_w (take l.used l.words)
