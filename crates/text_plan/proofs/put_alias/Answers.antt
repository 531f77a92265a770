-- `text_plan::put_alias` meets its contract. Assumes nothing.
use Rattle.plan_text.specs.Write.{unary_text}
use Rattle.text_put.proofs.Laws.{◌then◌}
use Rattle.text_plan.proofs.put_alias.Goals as goal

pub returns : goal.returns
unfolding unary_text
returns c =
    c.put_text-a.ensures then (rw c.from.ensures at c.put_number.ensures)
