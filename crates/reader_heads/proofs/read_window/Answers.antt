-- `read_window` meets its contract. Assumes nothing.
use Rattle.std.proofs.lemmas.Result.{err_from_is_err_and}
use native.Mathlib.Omega.{arith}
use Rattle.cpl.specs.Read.{is_not}
use Rattle.reader_parts.proofs.Counts.{from_some}
use Rattle.tree.specs.Layout.{win_store, list_store}
use Rattle.reader_heads.proofs.Heads.{moved, window-bad, window-bad-list, window-took}
use Rattle.reader_heads.proofs.read_window.Goals as goal

pub read_wins-requires : goal.read_wins-requires
read_wins-requires c =
    let e = rw c.in_ok-count.was at (c.read_count.ensures (is_not 0) from_some) in
    omega (arith, e.1, c.requires)

pub returns-in_err-count : goal.returns-in_err-count
returns-in_err-count c =
    let p = err_from_is_err_and c.from_residual.result c.from_residual.ensures.1 in
    λ C place n. rw (p.1, p.2) (window-bad _ _ _ _ _ n (rw c.in_err-count.was at (c.read_count.ensures (is_not 0) from_some) _ n))

pub returns-in_err-list : goal.returns-in_err-list
returns-in_err-list c =
    let p = err_from_is_err_and c.from_residual-in_err-list.result c.from_residual-in_err-list.ensures.1 in
    λ C place n. let e = rw c.in_ok-count.was at (c.read_count.ensures (is_not 0) from_some) in
    rw (p.1, p.2) (window-bad-list _ _ _ _ _ n (e.0 _ n) (rw c.in_err-list.was at c.read_wins.ensures n))

pub returns : goal.returns
returns c =
    λ C place n. let e = rw c.in_ok-count.was at (c.read_count.ensures (is_not 0) from_some) in
    (_, window-took _ _ _ _ _ _ _ _ n _ (e.0 _ n) e.1 (moved (list_store win_store) c.args.s _ _ _ _ _ n _ (rw c.in_ok-list.was at c.read_wins.ensures n)))
