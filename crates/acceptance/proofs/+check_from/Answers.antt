-- The proof of the cycle of calls {check_from}. The measure is the number of versions that are left. Assumes nothing.
use native.Mathlib.Omega.{arith}
use Rattle.acceptance.proofs.Marks.{first_narrow, unmarked}
use Rattle.acceptance.proofs.Rooms.{narrow_fits, wide_fits}
use Rattle.acceptance.proofs.+check_from.Goals as goal

pub returns-then-number-gt2 : goal.returns-then-number-gt2
returns-then-number-gt2 t c =
    rw c.from.ensures (unmarked _ _ c.requires c.if-number-gt2.true c.new.result c.new.ensures.0 c.new.ensures.1)

pub check_with-requires : goal.check_with-requires
check_with-requires t c = record { fits = narrow_fits _ (first_narrow _ c.if-has_mark.true c.has_mark.ensures c.if-number-eq1.true); few = omega arith }

pub check_with-requires-then-has_mark : goal.check_with-requires-then-has_mark
check_with-requires-then-has_mark t c = record { fits = wide_fits _; few = omega arith }
