-- `writer::write_plan` meets its contract. Assumes nothing.
use Rattle.writer_parts.proofs.Over.{part}
use Rattle.writer.proofs.Plans.{copy_wrote}
use native.Mathlib.Omega.{arith}
use lib.Seq.{length-take-le}
use Rattle.writer.proofs.write_plan.Goals as goal

pub slice_bounds-write_node-count : goal.slice_bounds-write_node-count
slice_bounds-write_node-count c =
    omega (arith, c.requires.w_in_bounds.1, length-take-le c.args.start c.args.file.now c.requires.start_in_bounds)

pub slice_bounds-write_node-start : goal.slice_bounds-write_node-start
slice_bounds-write_node-start c =
    omega (arith, c.requires.w_in_bounds.1, length-take-le c.args.start c.args.file.now c.requires.start_in_bounds)

pub write_node-plan-requires : goal.write_node-plan-requires
write_node-plan-requires c =
    (c.requires.w_in_bounds.0, omega (arith, c.requires.w_in_bounds.1, length-take-le c.args.start c.args.file.now c.requires.start_in_bounds))

pub overflow_add-result : goal.overflow_add-result
overflow_add-result c =
    let l = length-take-le c.args.start c.args.file.now c.requires.start_in_bounds in
    omega (arith, c.requires.w_in_bounds.1, l, (c.write_node-plan.ensures c.requires.w_in_bounds.0).long)

pub returns : goal.returns
returns c =
    λ w. part (copy_wrote c.args.start c.args.file.now c.requires.start_in_bounds c.copy_from_slice.ensures.after) (c.write_node-plan.ensures w)
