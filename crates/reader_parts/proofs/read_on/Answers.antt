-- `read_on` meets its contract. Assumes nothing.
use native.Mathlib.Omega.{arith}
use Rattle.std.proofs.lemmas.Result.{err_from_is_err_and}
use Rattle.reader_fields.proofs.Exprs.{reads-grown}
use Rattle.reader_parts.proofs.Parts.{on-bad, on-second-bad, on-took}
use Rattle.reader_parts.proofs.read_on.Goals as goal

pub returns-in_err-a : goal.returns-in_err-a
returns-in_err-a c =
    let p = err_from_is_err_and c.from_residual.result c.from_residual.ensures.1 in
    rw (p.1, p.2) (on-bad _ _ _ c.in_err-a.ensures)

pub read_expr-requires-2 : goal.read_expr-requires-2
read_expr-requires-2 c =
    let g = reads-grown _ _ _ _ _ c.in_ok-a.ensures in
    omega (arith, g, c.requires)

pub returns-in_err-b : goal.returns-in_err-b
returns-in_err-b c =
    let p = err_from_is_err_and c.from_residual-in_err-b.result c.from_residual-in_err-b.ensures.1 in
    rw (p.1, p.2) (on-second-bad _ _ _ _ _ c.in_ok-a.ensures c.in_err-b.ensures)

pub overflow_sub-a : goal.overflow_sub-a
overflow_sub-a c =
    let g = reads-grown _ _ _ _ _ c.in_ok-a.ensures in
    omega (arith, g)

pub overflow_sub-b : goal.overflow_sub-b
overflow_sub-b c =
    let h = reads-grown _ _ _ _ _ c.in_ok-b.ensures in
    omega (arith, h)

pub put_row-requires : goal.put_row-requires
put_row-requires c =
    let g = reads-grown _ _ _ _ _ c.in_ok-a.ensures in
    let h = reads-grown _ _ _ _ _ c.in_ok-b.ensures in
    omega (arith, g, h, c.requires)

pub overflow_add-result : goal.overflow_add-result
overflow_add-result c =
    let g = reads-grown _ _ _ _ _ c.in_ok-a.ensures in
    let h = reads-grown _ _ _ _ _ c.in_ok-b.ensures in
    omega (arith, g, h, c.requires, c.well_formed)

pub returns : goal.returns
returns c =
    on-took _ _ _ _ _ c.in_ok-a.ensures _ _ _ _ c.in_ok-b.ensures c.put_row.ensures
