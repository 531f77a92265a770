-- `shapes::scan_shape` meets its contract. Assumes nothing.
use Rattle.shapes.proofs.scan_shape.Goals as goal
use Rattle.shapes.proofs.scan_shape.Goals.{then-s, else-s}

pub returns : goal.returns
returns c =
    elim c.if-s.branch [
      | then-s w ↦ rw (c.at_set.ensures, c.all_of.ensures, c.from.ensures, w.part-is, w.if-s.true)
      | else-s w ↦ rw (c.at_set.ensures, c.all_of.ensures, c.from.ensures, w.part-is, w.if-s.false)
    ]
