-- `text_plan::put_aggregate` meets its contract. Assumes nothing.
use Rattle.text_plan.proofs.Heads.{aggregate_put}
use Rattle.text_plan.proofs.put_aggregate.Goals as goal

pub returns : goal.returns
returns c =
    aggregate_put _ _ _ _ _ c.put_list-a.ensures c.put_list.ensures
