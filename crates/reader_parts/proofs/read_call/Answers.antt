-- `read_call` meets its contract. Assumes nothing.
use Rattle.reader_parts.proofs.Parts.{call_none, call_right}
use Rattle.reader_parts.proofs.read_call.Goals as goal

pub returns-then-f-eq0 : goal.returns-then-f-eq0
returns-then-f-eq0 c =
    call_none _ _ _ _ c.if-f-eq0.true c.requires.1

pub returns : goal.returns
returns c =
    call_right _ _ _ _ c.if-f-eq0.false _ c.read_expr.result c.read_expr.ensures
