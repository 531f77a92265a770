-- `read_alias` meets its contract. Assumes nothing.
use Rattle.std.proofs.lemmas.Result.{err_from_is_err_and}
use Rattle.reader_heads.proofs.Heads.{alias-bad, alias-took}
use Rattle.reader_heads.proofs.read_alias.Goals as goal

pub returns-in_err-name : goal.returns-in_err-name
returns-in_err-name c =
    let p = err_from_is_err_and c.from_residual.result c.from_residual.ensures.1 in
    λ C cells rows place n. rw (p.1, p.2) (alias-bad _ _ _ _ _ n (rw c.in_err-name.was at c.read_name.ensures _ n))

pub returns : goal.returns
returns c =
    λ C cells rows place n. let e = rw c.in_ok-name.was at c.read_name.ensures in
    (_, alias-took _ _ _ _ c.requires _ _ n (e.0 _ n))
