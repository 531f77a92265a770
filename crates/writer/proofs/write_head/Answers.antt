-- `writer::write_head` meets its contract. Assumes nothing.
use Rattle.std.proofs.Common.{arith}
use Rattle.writer.proofs.Plans.{head_of_lem, head-room, head-wrote}
use Rattle.writer.proofs.write_head.Goals as goal

pub write_shape-requires : goal.write_shape-requires
write_shape-requires c =
    let w = head-room (head_of_lem c.requires.0 c.record_at-form.ensures c.parts_of.ensures.rows_are c.parts_of.ensures.cells_are c.set_at-set.ensures (omega arith)) c.requires.1 in
    record { shape_ok = w.0; used_in_bounds = w.1 }

pub returns : goal.returns
returns c =
    λ s. head-wrote (head_of_lem s c.record_at-form.ensures c.parts_of.ensures.rows_are c.parts_of.ensures.cells_are c.set_at-set.ensures (omega arith)) c.write_shape.ensures
