-- `writer_parts::write_part` meets its contract. Assumes nothing.
use native.Mathlib.Omega.{arith}
use Rattle.writer_parts.proofs.Rows.{field-length, field-wrote, number-wrote, pair-length, pair-wrote}
use Rattle.writer_parts.proofs.Over.{length-bytes}
use mathlib.Core.Path.{refl}
use lib.ListN.{get_or}
use Prim.Native.Nat.{◌+◌, ◌*◌}
use Rattle.lookup.specs.Fields.{field_at}
use Rattle.writer_parts.proofs.write_part.Goals as goal

pub write_item-requires : goal.write_item-requires
write_item-requires c = record { row_ok = rw c.in-Item.is at c.requires.part_ok; i_in_bounds = rw c.in-Item.is at c.requires.i_in_bounds }

pub write_key-requires : goal.write_key-requires
write_key-requires c = record { key_ok = rw c.in-Key.is at c.requires.part_ok; i_in_bounds = rw c.in-Key.is at c.requires.i_in_bounds }

pub write_agg-requires : goal.write_agg-requires
write_agg-requires c = record { agg_ok = rw c.in-Agg.is at c.requires.part_ok; i_in_bounds = rw c.in-Agg.is at c.requires.i_in_bounds }

pub row_at-row-requires : goal.row_at-row-requires
row_at-row-requires c =
    (rw c.in-Expr.is at c.requires.part_ok).inside

pub write_expr-requires : goal.write_expr-requires
write_expr-requires c =
    let p = rw c.in-Expr.is at c.requires.part_ok in
    let q = rw c.in-Expr.is at c.requires.i_in_bounds in record { wf = rw c.row_at-row.ensures.root_is p.node; i_in_bounds = rw c.row_at-row.ensures.root_is q }

pub write_on-requires : goal.write_on-requires
write_on-requires c = record { ok = rw c.in-On.is at c.requires.part_ok; i_in_bounds = rw c.in-On.is at c.requires.i_in_bounds }

pub pair_at-row-requires : goal.pair_at-row-requires
pair_at-row-requires c =
    rw c.in-Pair.is at c.requires.part_ok

pub put_pair-requires : goal.put_pair-requires
put_pair-requires c =
    let q = rw c.in-Pair.is at c.requires.i_in_bounds in omega (arith, q, pair-length (get_or c.args.rows.now (c.args.i * 4) 0) (get_or c.args.rows.now (c.args.i * 4 + 1) 0))

pub column_at-requires : goal.column_at-requires
column_at-requires c =
    rw c.in-Column.is at c.requires.part_ok

pub put_at-requires : goal.put_at-requires
put_at-requires c =
    let q = rw c.in-Column.is at c.requires.i_in_bounds in omega (arith, q, length-bytes c.in-Column.k (get_or c.args.rows.now (c.args.i * 4) 0))

pub put_at-requires-in-Index : goal.put_at-requires-in-Index
put_at-requires-in-Index c =
    let q = rw c.in-Index.is at c.requires.i_in_bounds in omega (arith, q, length-bytes c.in-Index.k c.args.i)

pub field_at-f-requires : goal.field_at-f-requires
field_at-f-requires c =
    rw c.in-Field.is at c.requires.part_ok

pub put_at-a-requires : goal.put_at-a-requires
put_at-a-requires c =
    let q = rw c.in-Field.is at c.requires.i_in_bounds in omega (arith, q, field-length (field_at c.args.rows.now c.args.i))

pub put_pair-requires-in-Field : goal.put_pair-requires-in-Field
put_pair-requires-in-Field c =
    let q = rw c.in-Field.is at c.requires.i_in_bounds in omega (arith, q, field-length (field_at c.args.rows.now c.args.i))

pub returns-in-Item : goal.returns-in-Item
returns-in-Item c =
    rw c.in-Item.is c.write_item.ensures

pub returns-in-Key : goal.returns-in-Key
returns-in-Key c =
    rw c.in-Key.is c.write_key.ensures

pub returns-in-Agg : goal.returns-in-Agg
returns-in-Agg c =
    rw c.in-Agg.is c.write_agg.ensures

pub returns-in-Expr : goal.returns-in-Expr
returns-in-Expr c =
    rw (c.in-Expr.is, ← c.row_at-row.ensures.root_is) c.write_expr.ensures

pub returns-in-On : goal.returns-in-On
returns-in-On c =
    rw c.in-On.is c.write_on.ensures

pub returns-in-Pair : goal.returns-in-Pair
returns-in-Pair c =
    rw c.in-Pair.is (pair-wrote c.pair_at-row.ensures c.put_pair.ensures)

pub returns-in-Column : goal.returns-in-Column
returns-in-Column c =
    rw c.in-Column.is (number-wrote c.column_at.ensures c.put_at.ensures)

pub returns-in-Index : goal.returns-in-Index
returns-in-Index c =
    rw c.in-Index.is (number-wrote refl c.put_at-in-Index.ensures)

pub returns-in-Field : goal.returns-in-Field
returns-in-Field c =
    rw c.in-Field.is (field-wrote c.field_at-f.ensures c.put_at-a.ensures c.put_pair-in-Field.ensures)
