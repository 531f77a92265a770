-- `shapes::shape_size` meets its contract. Assumes nothing.
use native.Mathlib.Omega.{arith}
use Rattle.required_indices.specs.Request.{set_of}
use Rattle.shapes.proofs.Segments.{three_length}
use Rattle.shapes.specs.Shapes.{seg_bytes}
use Rattle.shapes.proofs.shape_size.Goals as goal

pub segment_size-a-requires : goal.segment_size-a-requires
segment_size-a-requires c = record { seg_ok = c.requires.shape_ok.one; countable = omega (arith, c.requires.countable, three_length c.args.shape.k c.args.shape.x (seg_bytes c.args.shape.first c.args.rows.now c.args.cells.now (set_of c.args.set.now)) (seg_bytes c.args.shape.second c.args.rows.now c.args.cells.now (set_of c.args.set.now))) }

pub segment_size-b-requires : goal.segment_size-b-requires
segment_size-b-requires c = record { seg_ok = c.requires.shape_ok.two; countable = omega (arith, c.requires.countable, three_length c.args.shape.k c.args.shape.x (seg_bytes c.args.shape.first c.args.rows.now c.args.cells.now (set_of c.args.set.now)) (seg_bytes c.args.shape.second c.args.rows.now c.args.cells.now (set_of c.args.set.now))) }

pub add-requires : goal.add-requires
add-requires c =
    omega (arith, c.requires.countable, three_length c.args.shape.k c.args.shape.x (seg_bytes c.args.shape.first c.args.rows.now c.args.cells.now (set_of c.args.set.now)) (seg_bytes c.args.shape.second c.args.rows.now c.args.cells.now (set_of c.args.set.now)), c.segment_size-a.ensures, c.segment_size-b.ensures)

pub add-requires-2 : goal.add-requires-2
add-requires-2 c =
    omega (arith, c.requires.countable, three_length c.args.shape.k c.args.shape.x (seg_bytes c.args.shape.first c.args.rows.now c.args.cells.now (set_of c.args.set.now)) (seg_bytes c.args.shape.second c.args.rows.now c.args.cells.now (set_of c.args.set.now)), c.segment_size-a.ensures, c.segment_size-b.ensures, c.add.ensures)

pub returns : goal.returns
returns c =
    omega (arith, c.requires.countable, three_length c.args.shape.k c.args.shape.x (seg_bytes c.args.shape.first c.args.rows.now c.args.cells.now (set_of c.args.set.now)) (seg_bytes c.args.shape.second c.args.rows.now c.args.cells.now (set_of c.args.set.now)), c.segment_size-a.ensures, c.segment_size-b.ensures, c.add.ensures, c.add-2.ensures)
