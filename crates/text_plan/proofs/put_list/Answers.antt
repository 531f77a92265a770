-- `text_plan::put_list` meets its contract. Assumes nothing.
use Rattle.text_put.proofs.Laws.{◌then◌}
use Rattle.text_plan.proofs.put_list.Goals as goal

pub returns : goal.returns
returns c =
    c.put_text-a.ensures then c.put_members.ensures
