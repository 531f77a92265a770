-- `intake::ask` meets its contract: all fields, or the list's. Assumes nothing.
use Rattle.intake.proofs.All.{ask-all, ask_list}
use Rattle.intake.proofs.ask.Goals as goal

pub returns-then-all : goal.returns-then-all
returns-then-all c =
    ask-all _ _ _ _ c.if-all.true c.all_fields.ensures

pub returns : goal.returns
returns c =
    ask_list _ _ _ _ c.if-all.false c.check_request.ensures
