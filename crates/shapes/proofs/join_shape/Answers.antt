-- `shapes::join_shape` meets its contract. Assumes nothing.
use Rattle.std.proofs.Common.{arith}
use Rattle.shapes.proofs.Segments.{join-small}
use Rattle.shapes.proofs.join_shape.Goals as goal
use Rattle.shapes.proofs.join_shape.Goals.{then-j, else-j}

pub overflow_mul-result : goal.overflow_mul-result
overflow_mul-result c =
    omega (arith, c.from.ensures, join-small c.args.j.join_type)

pub overflow_add-result : goal.overflow_add-result
overflow_add-result c =
    omega (arith, c.from.ensures, join-small c.args.j.join_type)

pub returns : goal.returns
returns c =
    elim c.if-j.branch [
      | then-j w ↦ rw (w.second-is, w.if-j.true, c.from.ensures, c.all_of.ensures)
      | else-j w ↦ rw (w.second-is, w.if-j.false, c.from.ensures, c.all_of.ensures)
    ]
