-- `read_alias` meets its contract. Assumes nothing.
use native.Mathlib.Omega.{arith}
use Rattle.std.proofs.lemmas.Result.{err_from_is_err_and}
use Rattle.reader_fields.proofs.Exprs.{reads-grown}
use Rattle.reader_parts.proofs.Parts.{alias-bad, alias_expr_bad, alias-took}
use Rattle.reader_parts.proofs.read_alias.Goals as goal

pub returns-in_err-pair : goal.returns-in_err-pair
returns-in_err-pair c =
    let p = err_from_is_err_and c.from_residual.result c.from_residual.ensures.1 in
    rw (p.1, p.2) (alias-bad _ _ _ c.in_err-pair.ensures)

pub returns-in_err-t : goal.returns-in_err-t
returns-in_err-t c =
    let p = err_from_is_err_and c.from_residual-in_err-t.result c.from_residual-in_err-t.ensures.1 in
    rw (p.1, p.2) (alias_expr_bad _ _ _ c.in_ok-pair.ensures.0 c.in_err-t.ensures)

pub overflow_sub-t : goal.overflow_sub-t
overflow_sub-t c =
    let g = reads-grown _ _ _ _ _ c.in_ok-t.ensures in
    omega (arith, g)

pub put_row-requires : goal.put_row-requires
put_row-requires c =
    let g = reads-grown _ _ _ _ _ c.in_ok-t.ensures in
    omega (arith, g, c.in_ok-pair.ensures.1, c.in_ok-pair.ensures.2, c.requires)

pub overflow_add-result : goal.overflow_add-result
overflow_add-result c =
    let g = reads-grown _ _ _ _ _ c.in_ok-t.ensures in
    omega (arith, g, c.requires, c.well_formed)

pub returns : goal.returns
returns c =
    alias-took _ _ c.in_ok-pair.ensures.0 _ _ _ _ _ c.in_ok-t.ensures c.put_row.ensures
