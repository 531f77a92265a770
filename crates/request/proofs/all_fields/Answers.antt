-- `request::all_fields` meets its contract. Assumes nothing.
use Rattle.request.proofs.Steps.{all_asked}
use Rattle.request.proofs.all_fields.Goals as goal

pub returns : goal.returns
returns c =
    (all_asked c.args.width c.new_for_all_exprs.ensures, c.new_for_all_exprs.ensures.flag)
