-- `requests::with_items` meets its contract. The invariant: what is left to be added are the picked items of the rest. Assumes nothing.
use mathlib.Core.List.{map}
use Rattle.cpl.specs.Plan.{item_expr}
use Rattle.rules.specs.Mask.{select}
use Rattle.required_indices.specs.Request.{request_mask, set_of}
use Rattle.arena.specs.Rows.{item_at, items_at}
use Rattle.lookup.specs.Fields.{fields_of}
use Rattle.lookup.proofs.Lists.{rest}
use Rattle.requests.proofs.Lists.{Picked, item_only}
use Rattle.requests.proofs.with_items.Given as goal

abbrev pub invariant-loop-i : goal.invariant-loop-i
invariant-loop-i l =
    Picked (map item_expr (select (request_mask l.list.count l.kept) (items_at l.list.rows.now l.list.cells.now l.list.first l.list.count))) item_only l.list.count (set_of l.kept) (fields_of l.schema) l.initial.out l.i (rest (item_at l.list.rows.now l.list.cells.now) l.list.first l.list.count l.i) l.out
