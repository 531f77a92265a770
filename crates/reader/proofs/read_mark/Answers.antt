-- `read_mark` meets its contract. Assumes nothing.
use Rattle.reader.proofs.Files.{marked_1, marked_2, marked-none}
use Rattle.reader.proofs.read_mark.Goals as goal

pub returns-then-has_mark : goal.returns-then-has_mark
returns-then-has_mark c =
    marked_1 _ c.version1.result c.version1.ensures c.if-has_mark.true c.has_mark.ensures

pub returns-then-has_mark-2 : goal.returns-then-has_mark-2
returns-then-has_mark-2 c =
    marked_2 _ c.if-has_mark.false c.has_mark.ensures c.version2.result c.version2.ensures c.if-has_mark-2.true c.has_mark-2.ensures

pub returns : goal.returns
returns c =
    marked-none _ c.if-has_mark.false c.has_mark.ensures c.if-has_mark-2.false c.has_mark-2.ensures
