-- `node_keys::found_items` meets its contract: after i items what was found is of these. Assumes nothing.
use Prim.Native.Nat.{◌≤◌}
use Rattle.node_keys.proofs.Steps.{item_place}
use Rattle.node_keys.specs.Found.{Finds}
use Rattle.tree.specs.Rows.{list_at, one}
use Rattle.node_keys.proofs.found_items.Given as goal

abbrev pub invariant-loop-i : goal.invariant-loop-i
invariant-loop-i l = (l.i ≤ l.list.count) × Finds l.key (list_at (item_place l.list.rows.now l.list.cells.now l.input.fields.now l.input.first l.input.width) one l.list.first l.i) l.found
