-- `text_plan::put_line` meets its contract. Assumes nothing.
use Rattle.text_put.proofs.Laws.{◌then◌}
use Rattle.text_plan.proofs.put_line.Goals as goal

pub returns : goal.returns
returns c =
    c.put_indent-a.ensures then c.put_head-b.ensures then c.put_text.ensures
