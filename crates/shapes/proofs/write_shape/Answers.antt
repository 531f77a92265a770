-- `shapes::write_shape` meets its contract. Assumes nothing.
use native.Mathlib.Omega.{arith}
use Rattle.required_indices.specs.Request.{set_of}
use mathlib.Core.Path.{refl}
use Rattle.shapes.proofs.Segments.{three_length, three_wrote}
use Rattle.shapes.specs.Shapes.{seg_bytes}
use Rattle.shapes.proofs.write_shape.Goals as goal

pub put_at-a-requires : goal.put_at-a-requires
put_at-a-requires c =
    omega (arith, c.requires.used_in_bounds, three_length c.args.shape.k c.args.shape.x (seg_bytes c.args.shape.first c.args.rows.now c.args.cells.now (set_of c.args.set.now)) (seg_bytes c.args.shape.second c.args.rows.now c.args.cells.now (set_of c.args.set.now)))

pub slice_bounds-write_segment-count : goal.slice_bounds-write_segment-count
slice_bounds-write_segment-count c =
    omega (arith, c.requires.used_in_bounds, three_length c.args.shape.k c.args.shape.x (seg_bytes c.args.shape.first c.args.rows.now c.args.cells.now (set_of c.args.set.now)) (seg_bytes c.args.shape.second c.args.rows.now c.args.cells.now (set_of c.args.set.now)), c.put_at-a.ensures.long)

pub slice_bounds-write_segment-start : goal.slice_bounds-write_segment-start
slice_bounds-write_segment-start c =
    omega (arith, c.requires.used_in_bounds, three_length c.args.shape.k c.args.shape.x (seg_bytes c.args.shape.first c.args.rows.now c.args.cells.now (set_of c.args.set.now)) (seg_bytes c.args.shape.second c.args.rows.now c.args.cells.now (set_of c.args.set.now)), c.put_at-a.ensures.long)

pub write_segment-m-requires : goal.write_segment-m-requires
write_segment-m-requires c = record { seg_ok = c.requires.shape_ok.one; used_in_bounds = omega (arith, c.requires.used_in_bounds, three_length c.args.shape.k c.args.shape.x (seg_bytes c.args.shape.first c.args.rows.now c.args.cells.now (set_of c.args.set.now)) (seg_bytes c.args.shape.second c.args.rows.now c.args.cells.now (set_of c.args.set.now))) }

pub overflow_add-b : goal.overflow_add-b
overflow_add-b c =
    omega (arith, c.requires.used_in_bounds, three_length c.args.shape.k c.args.shape.x (seg_bytes c.args.shape.first c.args.rows.now c.args.cells.now (set_of c.args.set.now)) (seg_bytes c.args.shape.second c.args.rows.now c.args.cells.now (set_of c.args.set.now)), c.put_at-a.ensures.long, c.write_segment-m.ensures.long)

pub slice_bounds-write_segment-count-2 : goal.slice_bounds-write_segment-count-2
slice_bounds-write_segment-count-2 c =
    omega (arith, c.requires.used_in_bounds, three_length c.args.shape.k c.args.shape.x (seg_bytes c.args.shape.first c.args.rows.now c.args.cells.now (set_of c.args.set.now)) (seg_bytes c.args.shape.second c.args.rows.now c.args.cells.now (set_of c.args.set.now)), c.put_at-a.ensures.long, c.write_segment-m.ensures.long)

pub slice_bounds-write_segment-start-2 : goal.slice_bounds-write_segment-start-2
slice_bounds-write_segment-start-2 c =
    omega (arith, c.requires.used_in_bounds, three_length c.args.shape.k c.args.shape.x (seg_bytes c.args.shape.first c.args.rows.now c.args.cells.now (set_of c.args.set.now)) (seg_bytes c.args.shape.second c.args.rows.now c.args.cells.now (set_of c.args.set.now)), c.put_at-a.ensures.long, c.write_segment-m.ensures.long)

pub write_segment-n-requires : goal.write_segment-n-requires
write_segment-n-requires c = record { seg_ok = c.requires.shape_ok.two; used_in_bounds = omega (arith, c.requires.used_in_bounds, three_length c.args.shape.k c.args.shape.x (seg_bytes c.args.shape.first c.args.rows.now c.args.cells.now (set_of c.args.set.now)) (seg_bytes c.args.shape.second c.args.rows.now c.args.cells.now (set_of c.args.set.now)), c.write_segment-m.ensures.long) }

pub overflow_add-result : goal.overflow_add-result
overflow_add-result c =
    omega (arith, c.requires.used_in_bounds, three_length c.args.shape.k c.args.shape.x (seg_bytes c.args.shape.first c.args.rows.now c.args.cells.now (set_of c.args.set.now)) (seg_bytes c.args.shape.second c.args.rows.now c.args.cells.now (set_of c.args.set.now)), c.put_at-a.ensures.long, c.write_segment-m.ensures.long, c.write_segment-n.ensures.long)

pub returns : goal.returns
returns c =
    three_wrote _ _ _ _ c.put_at-a.ensures c.write_segment-m.ensures refl c.write_segment-n.ensures
