-- `delivery::write_out` meets its contract: refused for its tags or for want of room, or written. Assumes nothing.
use Rattle.delivery.proofs.Ends.{many_tags, no_room, refuses_by, whole_length, written_out}
use Rattle.writer.proofs.Plans.{countable}
use mathlib.Core.Path.{refl}
use native.Mathlib.Omega.{arith}
use Rattle.delivery.proofs.write_out.Goals as goal

pub plan_size-size-requires : goal.plan_size-size-requires
plan_size-size-requires c =
    c.requires.writes

pub returns-then-size-gt4096 : goal.returns-then-size-gt4096
returns-then-size-gt4096 c =
    λ w. many_tags _ _ (omega (arith, c.if-size-gt4096.true, (c.plan_size-size.ensures w).tags_are)) (refuses_by c.new.ensures)

pub overflow_add-needed : goal.overflow_add-needed
overflow_add-needed c =
    omega (arith, c.requires.start_in_bounds, (c.plan_size-size.ensures c.requires.writes).bytes_are, (countable c.requires.writes).bytes_fit)

pub returns-then-needed-out : goal.returns-then-needed-out
returns-then-needed-out c =
    λ w. no_room _ _ (omega (arith, c.if-size-gt4096.false, (c.plan_size-size.ensures w).tags_are))
    (whole_length _ _ c.requires.start_in_bounds (c.plan_size-size.ensures w).bytes_are) c.if-needed-out.true (refuses_by c.new-then-needed-out.ensures)

pub write_plan-requires : goal.write_plan-requires
write_plan-requires c = record { start_in_bounds = c.requires.start_in_bounds; w_in_bounds = (c.requires.writes, omega (arith, c.if-needed-out.false, (c.plan_size-size.ensures c.requires.writes).bytes_are)) }

pub returns : goal.returns
returns c =
    λ w. written_out _ _ (omega (arith, c.if-size-gt4096.false, (c.plan_size-size.ensures w).tags_are))
    (whole_length _ _ c.requires.start_in_bounds (c.plan_size-size.ensures w).bytes_are) c.if-needed-out.false (refl, refl) (c.write_plan.ensures w)
