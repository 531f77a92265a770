-- `list_plan::list_plan` meets its contract: there is no version below the first. Assumes nothing.
use Rattle.acceptance.proofs.Marks.{none_first}
use Rattle.list_plan.proofs.list_plan.Goals as goal

pub list_from-requires : goal.list_from-requires
list_from-requires c = none_first _

pub returns : goal.returns
returns c = rw c.from.ensures c.list_from.ensures
