-- `list_plan::list_plan_in` meets its contract: the arrays are long enough for every file. Assumes nothing.
use Rattle.acceptance.proofs.Rooms.{wide_room}
use Rattle.list_plan.proofs.list_plan_in.Goals as goal

pub list_over-requires : goal.list_over-requires
list_over-requires c =
    wide_room _ c.list_over-arg-1.given.0.1 c.list_over-arg-3-1.given.0.1 c.list_over-arg-4-1.given.0.1 c.list_over-arg-6-1.given.0.1 c.list_over-arg-7-1.given.0.1 c.list_over-arg-2-1.given.0.1 c.list_over-arg-5-1.given.0.1

pub returns : goal.returns
returns c = rw c.from.ensures c.list_over.ensures
