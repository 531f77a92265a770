-- Lists of items in lent arrays.
use Rattle.std.specs.Prelude.{List}
use Rattle.cpl.specs.Plan.{Item}
use Rattle.arena.specs.Rows.{items_at, RowsOk}
use Rattle.arena.specs.declared.Items.{Items}

-- the items of a list
abbrev pub listed : Items → List Item
listed l = items_at l.rows.now l.cells.now l.first l.count

-- its rows lie in the array, and are well formed
abbrev pub ListOk : Items → Type 0
ListOk l = RowsOk l.rows.now l.cells.now l.first l.count
