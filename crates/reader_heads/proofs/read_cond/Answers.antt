-- `read_cond` meets its contract. Assumes nothing.
use Rattle.std.proofs.lemmas.Result.{err_from_is_err_and}
use Rattle.reader_heads.proofs.Heads.{cond-bad, cond-none, cond-right}
use Rattle.reader_heads.proofs.read_cond.Goals as goal

pub returns-then-some-eq0 : goal.returns-then-some-eq0
returns-then-some-eq0 c =
    let e = rw c.in_ok-some.was at c.read_below.ensures in
    cond-none _ _ _ e.0.0 c.if-some-eq0.true c.requires.1

pub returns-in_err-some : goal.returns-in_err-some
returns-in_err-some c =
    let p = err_from_is_err_and c.from_residual.result c.from_residual.ensures.1 in
    rw (p.1, p.2) (cond-bad _ _ _ (rw c.in_err-some.was at c.read_below.ensures).0)

pub returns : goal.returns
returns c =
    let e = rw c.in_ok-some.was at c.read_below.ensures in
    cond-right _ _ _ e.0.0 c.if-some-eq0.false _ c.read_expr.result c.read_expr.ensures
