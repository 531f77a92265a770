-- `writer::shape_at` meets its contract. Assumes nothing.
use mathlib.Core.Path.{◌∙◌, sym}
use Rattle.writer.proofs.shape_at.Goals as goal

pub node_at-requires : goal.node_at-requires
node_at-requires c =
    (rw (sym c.record_at.ensures, c.in-Kept.is) at c.requires.taken).0

pub shape_of-requires-in-Kept : goal.shape_of-requires-in-Kept
shape_of-requires-in-Kept c =
    rw c.node_at.ensures.is (rw (sym c.record_at.ensures, c.in-Kept.is) at c.requires.taken).1

pub returns-in-Kept : goal.returns-in-Kept
returns-in-Kept c =
    c.shape_of.ensures ∙ rw (c.node_at.ensures.is, c.width_at.ensures, sym c.record_at.ensures, c.in-Kept.is)

pub returns-in-Columns : goal.returns-in-Columns
returns-in-Columns c =
    c.plain.ensures ∙ rw (c.at_set.ensures, c.width_at-in-Columns.ensures, c.first_at.ensures, sym c.record_at.ensures, c.in-Columns.is)

pub returns-in-Items : goal.returns-in-Items
returns-in-Items c =
    c.plain-in-Items.ensures ∙ rw (c.all_of.ensures, sym c.record_at.ensures, c.in-Items.is)

pub returns-in-Nothing : goal.returns-in-Nothing
returns-in-Nothing c =
    c.empty_shape.ensures ∙ rw (sym c.record_at.ensures, c.in-Nothing.is)
