-- `read_name` meets its contract. Assumes nothing.
use Rattle.std.proofs.lemmas.Result.{err_from_is_err_and}
use Rattle.cpl.specs.Read.{is_not, nonzero}
use Rattle.reader_fields.proofs.Laws.{value-bad, value_no, value-ok, is_zero, is-not}
use Rattle.reader_fields.proofs.read_name.Goals as goal

pub returns-in_err-name : goal.returns-in_err-name
unfolding nonzero
returns-in_err-name c =
    let p = err_from_is_err_and c.from_residual.result c.from_residual.ensures.1 in
    rw (p.1, p.2) (value-bad 2 _ _ (is_not 0) c.in_err-name.ensures)

pub returns-then-name-eq0 : goal.returns-then-name-eq0
unfolding nonzero
returns-then-name-eq0 c =
    rw (c.new.ensures.0, c.new.ensures.1) (value_no 2 _ _ (is_not 0) c.in_ok-name.ensures.0 (is_zero _ c.if-name-eq0.true))

pub returns : goal.returns
unfolding nonzero
returns c =
    (value-ok 2 _ _ (is_not 0) c.in_ok-name.ensures.0 (is-not _ c.if-name-eq0.false), c.in_ok-name.ensures.1)
