-- `node_keys::found_columns` meets its contract: after i columns what was found is of these. Assumes nothing.
use Prim.Native.Nat.{◌≤◌}
use Rattle.node_keys.specs.Found.{Finds}
use Rattle.tree.specs.Rows.{list_at, number_at, one}
use mathlib.Core.Option.{some}
use Rattle.node_keys.proofs.found_columns.Given as goal

abbrev pub invariant-loop-i : goal.invariant-loop-i
invariant-loop-i l = (l.i ≤ l.count) × Finds l.key (list_at (λ k. some (number_at l.rows k)) one l.first l.i) l.found
