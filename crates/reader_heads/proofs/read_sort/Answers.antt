-- `read_sort` meets its contract. Assumes nothing.
use Rattle.std.proofs.lemmas.Result.{err_from_is_err_and}
use native.Mathlib.Omega.{arith}
use mathlib.Core.Path.{refl}
use Rattle.cpl.specs.Read.{is_not}
use Rattle.reader_parts.proofs.Counts.{from_some}
use Rattle.reader_heads.proofs.Heads.{sort-bad, sort-took}
use Rattle.reader_heads.proofs.read_sort.Goals as goal

pub overflow_sub-result : goal.overflow_sub-result
overflow_sub-result c =
    let a = rw c.in_ok-list.was at (c.read_list.ensures (is_not 0) from_some) 0 in
    omega (arith, a.row_is)

pub returns-in_err-list : goal.returns-in_err-list
returns-in_err-list c =
    let p = err_from_is_err_and c.from_residual.result c.from_residual.ensures.1 in
    λ C place n. rw (p.1, p.2) (sort-bad _ _ _ _ _ n (rw c.in_err-list.was at (c.read_list.ensures (is_not 0) from_some) n))

pub returns : goal.returns
returns c =
    λ C place n. (_, sort-took _ _ _ _ _ _ _ _ n _ _ refl (rw c.in_ok-list.was at (c.read_list.ensures (is_not 0) from_some) n))
