-- `read_limit` meets its contract. Assumes nothing.
use Rattle.std.proofs.lemmas.Result.{err_from_is_err_and}
use Rattle.reader_heads.proofs.Heads.{limit-bad, limit-bad_fetch, limit-took}
use Rattle.reader_heads.proofs.read_limit.Goals as goal

pub returns-in_err-skip : goal.returns-in_err-skip
returns-in_err-skip c =
    let p = err_from_is_err_and c.from_residual.result c.from_residual.ensures.1 in
    λ C cells rows place n. rw (p.1, p.2) (limit-bad _ _ _ _ _ n (rw c.in_err-skip.was at c.read_number.ensures _ n))

pub returns-in_err-fetch : goal.returns-in_err-fetch
returns-in_err-fetch c =
    let p = err_from_is_err_and c.from_residual-in_err-fetch.result c.from_residual-in_err-fetch.ensures.1 in
    λ C cells rows place n. let e = rw c.in_ok-skip.was at c.read_number.ensures in
    rw (p.1, p.2) (limit-bad_fetch _ _ _ _ _ n (e.0 _ n) (rw c.in_err-fetch.was at c.read_number-2.ensures _ n))

pub returns : goal.returns
returns c =
    λ C cells rows place n. let e = rw c.in_ok-skip.was at c.read_number.ensures in
    let f = rw c.in_ok-fetch.was at c.read_number-2.ensures in
    (_, limit-took _ _ _ _ c.requires _ _ n (e.0 _ n) (f.0 _ n) f.1)
