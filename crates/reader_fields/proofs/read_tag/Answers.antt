-- `read_tag` meets its contract. Assumes nothing.
use native.Mathlib.Omega.{arith}
use Rattle.reader_fields.proofs.Laws.{tag_cut, tag_many, tag-ok}
use Rattle.reader_fields.proofs.read_tag.Goals as goal

pub returns-then-file-at : goal.returns-then-file-at
returns-then-file-at c =
    rw (c.new.ensures.0, c.new.ensures.1) (tag_cut _ _ _ c.if-file-at.true)

pub returns-then-tags-ge4096 : goal.returns-then-tags-ge4096
returns-then-tags-ge4096 c =
    rw (c.new-then-tags-ge4096.ensures.0, c.new-then-tags-ge4096.ensures.1) (tag_many _ _ _ c.if-file-at.false (omega (arith, c.if-tags-ge4096.true)))

pub returns : goal.returns
returns c =
    (tag-ok _ _ _ c.if-file-at.false c.if-tags-ge4096.false c.byte-value.ensures.0, c.byte-value.ensures.1, c.if-tags-ge4096.false)
