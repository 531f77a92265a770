-- `read_pair` meets its contract. Assumes nothing.
use Rattle.std.proofs.lemmas.Result.{err_from_is_err_and}
use Rattle.reader_fields.proofs.Laws.{pair-bad, pair-bad-name, pair_ok}
use Rattle.reader_fields.proofs.read_pair.Goals as goal

pub returns-in_err-qualifier : goal.returns-in_err-qualifier
returns-in_err-qualifier c =
    let p = err_from_is_err_and c.from_residual.result c.from_residual.ensures.1 in
    rw (p.1, p.2) (pair-bad _ _ c.in_err-qualifier.ensures)

pub returns-in_err-name : goal.returns-in_err-name
returns-in_err-name c =
    let p = err_from_is_err_and c.from_residual-in_err-name.result c.from_residual-in_err-name.ensures.1 in
    rw (p.1, p.2) (pair-bad-name _ _ c.in_ok-qualifier.ensures.0 c.in_err-name.ensures)

pub returns : goal.returns
returns c =
    (pair_ok _ _ c.in_ok-qualifier.ensures.0 c.in_ok-name.ensures.0, c.in_ok-qualifier.ensures.1, c.in_ok-name.ensures.1)
