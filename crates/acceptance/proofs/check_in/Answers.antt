-- `acceptance::check_in` meets its contract: the arrays are long enough for every file. Assumes nothing.
use Rattle.acceptance.proofs.Rooms.{wide_room}
use Rattle.acceptance.proofs.check_in.Goals as goal

pub read_and_check-requires : goal.read_and_check-requires
read_and_check-requires c =
    wide_room _ c.read_and_check-arg-1.given.0.1 c.read_and_check-arg-3-1.given.0.1 c.read_and_check-arg-4-1.given.0.1 c.read_and_check-arg-6-1.given.0.1 c.read_and_check-arg-7-1.given.0.1 c.read_and_check-arg-2-1.given.0.1 c.read_and_check-arg-5-1.given.0.1

pub returns : goal.returns
returns c = rw c.from.ensures c.read_and_check.ensures.says
