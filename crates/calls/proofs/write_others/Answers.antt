-- `calls::write_others` meets its contract: the numbers passed were written, each at most 21 bytes long with its space. Assumes nothing.
use Rattle.calls.proofs.Numbers.{others-done, others-more, others-none}
use Rattle.listing.proofs.Digits.{short}
use lib.ListN.{get_or}
use mathlib.Core.Path.{refl}
use native.Mathlib.Omega.{arith}
use Rattle.calls.proofs.write_others.Goals as goal

pub loop-n-init : goal.loop-n-init
loop-n-init c =
    (omega arith, refl, others-none c.args.numbers.now)

pub put_number-at-requires : goal.put_number-at-requires
put_number-at-requires c =
    omega (arith, c.requires, c.loop-n.invariant.0, c.loop-n.invariant.1, c.loop-n-test.true, c.put_text-next.ensures.long, c.put_text-next.auto, short (get_or c.args.numbers.now c.loop-n.n-index 0) (omega (arith, c.shared_slice_known-1.given c.loop-n.n-index)))

pub loop-n-preserved : goal.loop-n-preserved
loop-n-preserved c =
    (omega (arith, c.loop-n.invariant.0, c.put_text-next.ensures.long, c.put_number-at.ensures.long, short (get_or c.args.numbers.now c.loop-n.n-index 0) (omega (arith, c.shared_slice_known-1.given c.loop-n.n-index))), omega (arith, c.put_number-at.auto, c.put_text-next.auto, c.loop-n.invariant.1), others-more c.args.numbers.now c.loop-n-test.true c.loop-n.invariant.2 c.put_text-next.ensures c.put_number-at.ensures)

pub returns : goal.returns
returns c = record { wrote = others-done c.args.numbers.now {k = c.loop-n.n-index} (omega arith) c.loop-n.invariant.2; upper_bound = omega (arith, c.loop-n.invariant.0) }
