-- `read_empty` meets its contract. Assumes nothing.
use Rattle.std.proofs.lemmas.Result.{err_from_is_err_and}
use native.Mathlib.Omega.{arith}
use mathlib.Core.Path.{refl}
use Rattle.cpl.specs.Read.{any}
use Rattle.reader_parts.proofs.Counts.{from-any}
use Rattle.tree.specs.Layout.{pair_store, list_store}
use Rattle.reader_heads.proofs.Heads.{moved, empty-bad, empty-bad-list, empty-took}
use Rattle.reader_heads.proofs.read_empty.Goals as goal

pub overflow_sub-result : goal.overflow_sub-result
overflow_sub-result c =
    let a = rw c.in_ok-list.was at (c.read_list.ensures any from-any) 0 in
    omega (arith, a.row_is)

pub returns-in_err-row : goal.returns-in_err-row
returns-in_err-row c =
    let p = err_from_is_err_and c.from_residual.result c.from_residual.ensures.1 in
    λ C place n. rw (p.1, p.2) (empty-bad _ _ _ _ _ n ((rw c.in_err-row.was at c.read_below.ensures).0 _ n))

pub returns-in_err-list : goal.returns-in_err-list
returns-in_err-list c =
    let p = err_from_is_err_and c.from_residual-in_err-list.result c.from_residual-in_err-list.ensures.1 in
    λ C place n. let e = rw c.in_ok-row.was at c.read_below.ensures in
    rw (p.1, p.2) (empty-bad-list _ _ _ _ _ n (e.0.0 _ n) (rw c.in_err-list.was at (c.read_list.ensures any from-any) n))

pub returns : goal.returns
returns c =
    λ C place n. let e = rw c.in_ok-row.was at c.read_below.ensures in
    (_, empty-took _ _ _ _ _ _ _ _ n _ (e.0.0 _ n) e.0.1 _ refl (moved (list_store pair_store) c.args.s _ _ _ _ _ n _ (rw c.in_ok-list.was at (c.read_list.ensures any from-any) n)))
