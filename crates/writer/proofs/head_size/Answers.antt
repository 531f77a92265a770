-- `writer::head_size` meets its contract. Assumes nothing.
use Rattle.std.proofs.Common.{arith}
use Rattle.writer.proofs.Plans.{head_countable, head-counts, head_of_lem, head-ready}
use Rattle.writer.proofs.head_size.Goals as goal

pub shape_size-requires : goal.shape_size-requires
shape_size-requires c =
    let w = head-ready (head_of_lem c.requires c.record_at-form.ensures c.parts_of.ensures.rows_are c.parts_of.ensures.cells_are c.set_at-set.ensures (omega arith)) (head_countable c.requires.writes) in
    record { shape_ok = w.0; countable = w.1 }

pub returns : goal.returns
returns c =
    λ s. head-counts (head_of_lem s c.record_at-form.ensures c.parts_of.ensures.rows_are c.parts_of.ensures.cells_are c.set_at-set.ensures (omega arith)) c.shape_size.ensures
