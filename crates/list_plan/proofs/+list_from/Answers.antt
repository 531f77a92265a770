-- The proof of the cycle of calls {list_from}. The measure is the number of versions that are left. Assumes nothing.
use native.Mathlib.Omega.{arith}
use Rattle.acceptance.proofs.Marks.{first_narrow, none_more}
use Rattle.acceptance.proofs.Rooms.{narrow_fits, wide_fits}
use Rattle.list_plan.proofs.Ways.{unmarked}
use Rattle.list_plan.proofs.+list_from.Goals as goal

pub returns-then-number-gt2 : goal.returns-then-number-gt2
returns-then-number-gt2 t c =
    unmarked _ _ _ c.requires c.if-number-gt2.true c.new.result c.new.ensures.0 c.new.ensures.1

pub list_with-requires : goal.list_with-requires
list_with-requires t c = record { fits = narrow_fits _ (first_narrow _ c.if-has_mark.true c.has_mark.ensures c.if-number-eq1.true); few = omega arith }

pub list_with-requires-then-has_mark : goal.list_with-requires-then-has_mark
list_with-requires-then-has_mark t c = record { fits = wide_fits _; few = omega arith }

pub list_from-requires : goal.list_from-requires
list_from-requires t c =
    (omega (arith, c.decreases, c.if-number-gt2.false), none_more _ _ c.requires c.if-has_mark.false c.has_mark.ensures)
