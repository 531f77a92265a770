-- `read_literal` meets its contract. Assumes nothing.
use Rattle.std.proofs.lemmas.Result.{err_from_is_err_and}
use Rattle.reader_fields.proofs.Exprs.{literal-bad, literal-ok}
use Rattle.reader_fields.proofs.read_literal.Goals as goal

pub returns-in_err-number : goal.returns-in_err-number
returns-in_err-number c =
    let p = err_from_is_err_and c.from_residual.result c.from_residual.ensures.1 in
    rw (p.1, p.2) (literal-bad _ _ _ c.in_err-number.ensures)

pub returns : goal.returns
returns c =
    literal-ok _ _ _ c.in_ok-number.ensures.0 c.in_ok-number.ensures.1 c.put.ensures c.requires.1
