-- `writer_parts::part_size` meets its contract. Assumes nothing.
use Rattle.writer_parts.proofs.Rows.{field-length, field-tags, pair-length}
use Rattle.writer_parts.proofs.Over.{length-bytes}
use mathlib.Core.Path.{refl, sym}
use Rattle.writer_parts.proofs.part_size.Goals as goal

pub item_size-requires : goal.item_size-requires
item_size-requires c = record { row_ok = rw c.in-Item.is at c.requires.part_ok; countable = rw c.in-Item.is at c.requires.countable }

pub key_size-requires : goal.key_size-requires
key_size-requires c = record { key_ok = rw c.in-Key.is at c.requires.part_ok; countable = rw c.in-Key.is at c.requires.countable }

pub agg_size-requires : goal.agg_size-requires
agg_size-requires c = record { agg_ok = rw c.in-Agg.is at c.requires.part_ok; countable = rw c.in-Agg.is at c.requires.countable }

pub row_at-row-requires : goal.row_at-row-requires
row_at-row-requires c =
    (rw c.in-Expr.is at c.requires.part_ok).inside

pub expr_size-requires : goal.expr_size-requires
expr_size-requires c =
    let p = rw c.in-Expr.is at c.requires.part_ok in
    let q = rw c.in-Expr.is at c.requires.countable in record { wf = rw c.row_at-row.ensures.root_is p.node; countable = rw c.row_at-row.ensures.root_is q }

pub on_size-requires : goal.on_size-requires
on_size-requires c = record { ok = rw c.in-On.is at c.requires.part_ok; countable = rw c.in-On.is at c.requires.countable }

pub returns-in-Item : goal.returns-in-Item
returns-in-Item c =
    rw c.in-Item.is c.item_size.ensures

pub returns-in-Key : goal.returns-in-Key
returns-in-Key c =
    rw c.in-Key.is c.key_size.ensures

pub returns-in-Agg : goal.returns-in-Agg
returns-in-Agg c =
    rw c.in-Agg.is c.agg_size.ensures

pub returns-in-Expr : goal.returns-in-Expr
returns-in-Expr c =
    rw (c.in-Expr.is, ← c.row_at-row.ensures.root_is) c.expr_size.ensures

pub returns-in-On : goal.returns-in-On
returns-in-On c =
    rw c.in-On.is c.on_size.ensures

pub returns-in-Pair : goal.returns-in-Pair
returns-in-Pair c =
    rw c.in-Pair.is (record { bytes_are = sym (pair-length _ _); tags_are = refl })

pub returns-in-Column : goal.returns-in-Column
returns-in-Column c =
    rw c.in-Column.is (record { bytes_are = sym (length-bytes _ _); tags_are = refl })

pub returns-in-Index : goal.returns-in-Index
returns-in-Index c =
    rw c.in-Index.is (record { bytes_are = sym (length-bytes _ _); tags_are = refl })

pub returns-in-Field : goal.returns-in-Field
returns-in-Field c =
    rw c.in-Field.is (record { bytes_are = sym (field-length _); tags_are = sym (field-tags _) })
