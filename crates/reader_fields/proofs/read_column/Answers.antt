-- `read_column` meets its contract. Assumes nothing.
use Rattle.std.proofs.lemmas.Result.{err_from_is_err_and}
use Rattle.reader_fields.proofs.Exprs.{column-bad, column-ok}
use Rattle.reader_fields.proofs.read_column.Goals as goal

pub returns-in_err-pair : goal.returns-in_err-pair
returns-in_err-pair c =
    let p = err_from_is_err_and c.from_residual.result c.from_residual.ensures.1 in
    rw (p.1, p.2) (column-bad _ _ _ c.in_err-pair.ensures)

pub returns : goal.returns
returns c =
    column-ok _ _ _ c.in_ok-pair.ensures.0 c.put.ensures c.requires.1
