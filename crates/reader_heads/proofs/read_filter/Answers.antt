-- `read_filter` meets its contract. Assumes nothing.
use Rattle.std.proofs.lemmas.Result.{err_from_is_err_and}
use native.Mathlib.Omega.{arith}
use mathlib.Core.Path.{refl}
use Rattle.reader_fields.proofs.Exprs.{reads-grown}
use Rattle.reader_parts.proofs.Parts.{expr_took}
use Rattle.reader_heads.proofs.Heads.{filter-bad, filter-took}
use Rattle.reader_heads.proofs.read_filter.Goals as goal

pub overflow_sub-result : goal.overflow_sub-result
overflow_sub-result c =
    let g = reads-grown _ _ _ _ _ (rw c.in_ok-e.was at c.read_expr.ensures) in
    omega (arith, g)

pub returns-in_err-e : goal.returns-in_err-e
returns-in_err-e c =
    let p = err_from_is_err_and c.from_residual.result c.from_residual.ensures.1 in
    λ C rows place n. rw (p.1, p.2) (filter-bad _ _ _ _ _ n (rw c.in_err-e.was at c.read_expr.ensures))

pub returns : goal.returns
returns c =
    λ C rows place n. (_, filter-took _ _ _ _ _ _ _ _ n _ _ refl (expr_took _ _ _ _ _ (rw c.in_ok-e.was at c.read_expr.ensures) rows n))
