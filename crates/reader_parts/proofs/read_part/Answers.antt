-- `read_part` meets its contract. Assumes nothing.
use Rattle.reader_parts.proofs.read_part.Goals as goal

pub returns-in-Item : goal.returns-in-Item
returns-in-Item c =
    rw c.in-Item.is c.read_item.ensures

pub returns-in-Key : goal.returns-in-Key
returns-in-Key c =
    rw c.in-Key.is c.read_key.ensures

pub returns-in-Expr : goal.returns-in-Expr
returns-in-Expr c =
    rw c.in-Expr.is c.read_member.ensures

pub returns-in-Agg : goal.returns-in-Agg
returns-in-Agg c =
    rw c.in-Agg.is c.read_agg.ensures

pub returns-in-On : goal.returns-in-On
returns-in-On c =
    rw c.in-On.is c.read_on.ensures

pub returns-in-Pair : goal.returns-in-Pair
returns-in-Pair c =
    rw c.in-Pair.is (c.read_field.ensures _)

pub returns-in-Column : goal.returns-in-Column
returns-in-Column c =
    rw c.in-Column.is (c.read_index.ensures _)
