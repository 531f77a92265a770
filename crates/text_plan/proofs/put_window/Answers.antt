-- `text_plan::put_window` meets its contract. Assumes nothing.
use Rattle.plan_text.specs.Write.{list_text, unary_text}
use Rattle.text_parts.proofs.Parts.{members_put}
use Rattle.text_put.proofs.Laws.{◌then◌}
use Rattle.text_plan.proofs.put_window.Goals as goal

pub returns : goal.returns
unfolding unary_text list_text
returns c =
    c.put_text-a.ensures then members_put _ _ _ _ _ c.put_wins.ensures
