-- `calls::write_numbers` meets its contract: the first number, the others, and the end of the line. Assumes nothing.
use Rattle.calls.proofs.Numbers.{numbers-wrote}
use Rattle.listing.proofs.Digits.{short}
use Rattle.writer_parts.proofs.Over.{room}
use lib.ListN.{get_or}
use native.Mathlib.Omega.{arith}
use Rattle.calls.proofs.write_numbers.Goals as goal

pub put_number-a-requires : goal.put_number-a-requires
put_number-a-requires c =
    omega (arith, c.requires.0, c.requires.1, short (get_or c.args.numbers.now 0 0) (omega (arith, c.shared_slice_known-1.given 0)))

pub slice_bounds-write_others-count : goal.slice_bounds-write_others-count
slice_bounds-write_others-count c =
    omega (arith, c.requires.0, c.requires.1, short (get_or c.args.numbers.now 0 0) (omega (arith, c.shared_slice_known-1.given 0)), c.put_number-a.ensures.long, c.put_number-a.auto)

pub slice_bounds-write_others-start : goal.slice_bounds-write_others-start
slice_bounds-write_others-start c =
    omega (arith, c.requires.0, c.requires.1, short (get_or c.args.numbers.now 0 0) (omega (arith, c.shared_slice_known-1.given 0)), c.put_number-a.ensures.long, c.put_number-a.auto)

pub write_others-n-requires : goal.write_others-n-requires
write_others-n-requires c =
    omega (arith, c.requires.0, c.requires.1, short (get_or c.args.numbers.now 0 0) (omega (arith, c.shared_slice_known-1.given 0)), c.put_number-a.ensures.long, c.put_number-a.auto, room 1 c.args.numbers.now)

pub overflow_add-a : goal.overflow_add-a
overflow_add-a c =
    omega (arith, c.requires.0, c.requires.1, short (get_or c.args.numbers.now 0 0) (omega (arith, c.shared_slice_known-1.given 0)), c.put_number-a.ensures.long, c.put_number-a.auto, room 1 c.args.numbers.now, c.write_others-n.ensures.upper_bound, c.well_formed.0.0)

pub put_text-requires : goal.put_text-requires
put_text-requires c =
    omega (arith, c.requires.0, c.requires.1, short (get_or c.args.numbers.now 0 0) (omega (arith, c.shared_slice_known-1.given 0)), c.put_number-a.ensures.long, c.put_number-a.auto, room 1 c.args.numbers.now, c.write_others-n.ensures.upper_bound)

pub returns : goal.returns
returns c = record { wrote = numbers-wrote c.args.numbers.now c.requires.0 c.put_number-a.ensures c.write_others-n.ensures.wrote c.put_text.ensures; upper_bound = omega (arith, c.requires.0, c.requires.1, short (get_or c.args.numbers.now 0 0) (omega (arith, c.shared_slice_known-1.given 0)), c.put_number-a.ensures.long, c.put_number-a.auto, room 1 c.args.numbers.now, c.write_others-n.ensures.upper_bound, c.put_text.ensures.long) }
