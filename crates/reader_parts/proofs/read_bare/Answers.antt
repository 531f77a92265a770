-- `read_bare` meets its contract. Assumes nothing.
use Rattle.std.proofs.lemmas.Result.{err_from_is_err_and}
use Rattle.reader_parts.proofs.Parts.{bare-bad, bare-took}
use Rattle.reader_parts.proofs.read_bare.Goals as goal

pub returns-in_err-pair : goal.returns-in_err-pair
returns-in_err-pair c =
    let p = err_from_is_err_and c.from_residual.result c.from_residual.ensures.1 in
    rw (p.1, p.2) (bare-bad _ _ _ c.in_err-pair.ensures)

pub returns : goal.returns
returns c =
    bare-took _ _ c.in_ok-pair.ensures.0 _ _ _ _ c.put.ensures c.put_row.ensures c.requires.1
