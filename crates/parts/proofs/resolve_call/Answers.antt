-- `parts::resolve_call` meets its contract. Assumes nothing.
use Rattle.parts.proofs.Exprs.{call_none, call_some}
use native.Mathlib.Omega.{arith}
use Rattle.parts.proofs.resolve_call.Goals as goal

pub resolve_expr-requires : goal.resolve_expr-requires
resolve_expr-requires c = record { wf = c.requires.wf (omega (arith, c.if-function-eq0.false)); row_clear = c.requires.row_clear }

pub returns-then-function-eq0 : goal.returns-then-function-eq0
returns-then-function-eq0 c =
    call_none _ _ _ c.if-function-eq0.true

pub returns : goal.returns
returns c =
    call_some _ _ _ c.if-function-eq0.false c.resolve_expr.ensures
