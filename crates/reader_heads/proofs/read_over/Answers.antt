-- `read_over` meets its contract. Assumes nothing.
use Rattle.std.proofs.lemmas.Result.{err_from_is_err_and}
use Rattle.cpl.specs.Read.{any}
use Rattle.reader_heads.proofs.Heads.{few-columns, moved, over-bad, over-bad-columns, over-bad-filters, over-took}
use Rattle.reader_heads.specs.Heads.{columns_store}
use Rattle.reader_parts.proofs.Counts.{from-any}
use Rattle.versions.specs.Versions.{version_of}
use mathlib.Core.Path.{refl}
use native.Mathlib.Omega.{arith}
use Rattle.reader_heads.proofs.read_over.Goals as goal

pub read_list-requires : goal.read_list-requires
read_list-requires c =
    let g = rw c.in_ok-list.was at c.read_columns.ensures 0 in
    omega (arith, g.made_is, g.row_is, g.grown, g.few, few-columns (version_of c.args.version) c.args.columns c.in_ok-some.some.value _ _ _ _ g.is, c.requires)

pub overflow_sub-result : goal.overflow_sub-result
overflow_sub-result c =
    let g = rw c.in_ok-list.was at c.read_columns.ensures 0 in
    omega (arith, g.row_is)

pub overflow_sub-result-2 : goal.overflow_sub-result-2
overflow_sub-result-2 c =
    let g = rw c.in_ok-filters.was at (c.read_list.ensures any from-any) 0 in
    omega (arith, g.row_is)

pub returns-in_err-some : goal.returns-in_err-some
returns-in_err-some c =
    let p = err_from_is_err_and c.from_residual.result c.from_residual.ensures.1 in
    λ n. rw (p.1, p.2) (over-bad (version_of c.args.version) _ _ _ _ _ _ n ((rw c.in_err-some.was at c.read_below.ensures).0 _ n))

pub returns-in_err-list : goal.returns-in_err-list
returns-in_err-list c =
    let p = err_from_is_err_and c.from_residual-in_err-list.result c.from_residual-in_err-list.ensures.1 in
    λ n. let e = rw c.in_ok-some.was at c.read_below.ensures in
    rw (p.1, p.2) (over-bad-columns (version_of c.args.version) _ _ c.args.columns _ _ _ n (e.0.0 _ n) (rw c.in_err-list.was at c.read_columns.ensures n))

pub returns-in_err-filters : goal.returns-in_err-filters
returns-in_err-filters c =
    let p = err_from_is_err_and c.from_residual-in_err-filters.result c.from_residual-in_err-filters.ensures.1 in
    λ n. let e = rw c.in_ok-some.was at c.read_below.ensures in
    let a = rw c.in_ok-list.was at c.read_columns.ensures n in
    rw (p.1, p.2) (over-bad-filters (version_of c.args.version) _ _ c.args.columns _ _ _ n (e.0.0 _ n) a.is (rw c.in_err-filters.was at (c.read_list.ensures any from-any) n))

pub returns : goal.returns
returns c =
    λ n. let e = rw c.in_ok-some.was at c.read_below.ensures in
    let a = rw c.in_ok-list.was at c.read_columns.ensures n in
    let b = rw c.in_ok-filters.was at (c.read_list.ensures any from-any) n in
    (_, over-took (version_of c.args.version) _ c.args.s _ _ _ _ _ _ n _ _ _ _ c.args.columns (e.0.0 _ n) e.0.1 (omega (arith, c.requires)) _ _ refl refl (moved columns_store c.args.s _ _ _ _ _ n _ a) b)
