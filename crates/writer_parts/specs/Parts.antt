-- The bytes and the tags of one row, by what it holds.
use Rattle.std.specs.Prelude.{List, ℕ, ◌+◌, ◌*◌, ◌<◌, length}
use Rattle.cpl.specs.Bytes.{agg_bytes, bytes, expr_bytes, item_bytes, key_bytes, on_bytes, pair_bytes}
use Rattle.cpl.specs.Exprs.{agg_tags, expr_tags, item_tags, key_tags, on_tags}
use Rattle.cpl.specs.Plan.{bare}
use Rattle.arena.specs.Cells.{expr_at}
use Rattle.arena.specs.Rows.{RowOk, item_at, pair_at, root_at}
use Rattle.tree.specs.Rows.{AggOk, ExprOk, Inside, KeyOk, OnOk, agg_at, key_at, number_at, on_at}
use Rattle.lookup.specs.Fields.{field_at}
use Rattle.writer_parts.specs.declared.Part.{Part}
use Rattle.writer_parts.specs.declared.Part.TheVariants.{Agg, Column, Expr, Field, Index, Item, Key, On, Pair}

-- row i of an array of rows; of an array of fields, field i; of none, the number i. A column and a number in k bytes
abbrev pub part_bytes : Part → (rows cells : List ℕ) → ℕ → List ℕ
part_bytes Item s cells i = item_bytes (item_at s cells i)
part_bytes Key s cells i = key_bytes (key_at s cells i)
part_bytes Agg s cells i = agg_bytes (agg_at s cells i)
part_bytes Expr s cells i = expr_bytes (expr_at cells (root_at s i))
part_bytes On s cells i = on_bytes (on_at s cells i)
part_bytes Pair s cells i = pair_bytes (pair_at s i)
part_bytes (Column k) s cells i = bytes k (number_at s i)
part_bytes (Index k) s cells i = bytes k i
part_bytes Field s cells i = item_bytes (bare (field_at s i))

abbrev pub part_tags : Part → (rows cells : List ℕ) → ℕ → ℕ
part_tags Item s cells i = item_tags (item_at s cells i)
part_tags Key s cells i = key_tags (key_at s cells i)
part_tags Agg s cells i = agg_tags (agg_at s cells i)
part_tags Expr s cells i = expr_tags (expr_at cells (root_at s i))
part_tags On s cells i = on_tags (on_at s cells i)
part_tags Pair s cells i = 0
part_tags (Column k) s cells i = 0
part_tags (Index k) s cells i = 0
part_tags Field s cells i = item_tags (bare (field_at s i))

-- it lies in its array, and its roots are those of well formed expressions
abbrev pub PartOk : Part → (rows cells : List ℕ) → ℕ → Type 0
PartOk Item s cells i = RowOk s cells i
PartOk Key s cells i = KeyOk s cells i
PartOk Agg s cells i = AggOk s cells i
PartOk Expr s cells i = ExprOk s cells i
PartOk On s cells i = OnOk s cells i
PartOk Pair s cells i = Inside s i
PartOk (Column k) s cells i = Inside s i
PartOk (Index k) s cells i = Unit {0}
PartOk Field s cells i = i * 2 + 1 < length s
