-- `read_index` meets its contract. Assumes nothing.
use Rattle.std.proofs.lemmas.Result.{err_from_is_err_and}
use lib.Dec.{ltb}
use borrow.Author.Tests.{lt-ltb, le-ltb}
use Rattle.cpl.specs.Read.{index}
use Rattle.reader_fields.proofs.Laws.{value-bad, value_no, value-ok}
use Rattle.reader_fields.proofs.read_index.Goals as goal

pub returns-in_err-found : goal.returns-in_err-found
unfolding index
returns-in_err-found c =
    let p = err_from_is_err_and c.from_residual.result c.from_residual.ensures.1 in
    let e = value-bad _ _ _ (λ x. ltb x c.args.n) c.in_err-found.ensures in
    rw (p.1, p.2) (e, e)

pub returns-then-n-found : goal.returns-then-n-found
unfolding index
returns-then-n-found c =
    let e = value_no _ _ _ (λ x. ltb x c.args.n) c.in_ok-found.ensures.0 (le-ltb _ _ c.if-n-found.true) in
    rw (c.new.ensures.0, c.new.ensures.1) (e, e)

pub returns : goal.returns
unfolding index
returns c =
    let e = value-ok _ _ _ (λ x. ltb x c.args.n) c.in_ok-found.ensures.0 (lt-ltb _ _ c.if-n-found.false) in
    ((e, c.if-n-found.false), (e, c.in_ok-found.ensures.1))
