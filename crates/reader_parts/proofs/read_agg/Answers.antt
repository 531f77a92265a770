-- `read_agg` meets its contract. Assumes nothing.
use native.Mathlib.Omega.{arith}
use Rattle.std.proofs.lemmas.Result.{err_from_is_err_and}
use Rattle.std.specs.Prelude.{◌+◌, [], Ok, Err}
use Rattle.reader_fields.specs.Answers.{spot}
use Rattle.reader_parts.proofs.Parts.{value-bad, value_call_bad, value-took, agg-bad, agg-right}
use Rattle.reader_parts.proofs.read_agg.Goals as goal

pub returns-in_err-pair : goal.returns-in_err-pair
returns-in_err-pair c =
    let p = err_from_is_err_and c.from_residual.result c.from_residual.ensures.1 in
    rw (p.1, p.2) (agg-bad _ _ _ c.in_err-pair.ensures)

pub returns-in_err-function : goal.returns-in_err-function
returns-in_err-function c =
    let p = err_from_is_err_and c.from_residual-in_err-function.result c.from_residual-in_err-function.ensures.1 in
    rw (p.1, p.2) (agg-right _ c.args.s c.in_ok-pair.ensures.0 [] [] [] [] (Err c.in_err-function.field-0.0) (value-bad _ _ _ _ c.in_err-function.ensures.0))

pub returns-in_err-t : goal.returns-in_err-t
returns-in_err-t c =
    let p = err_from_is_err_and c.from_residual-in_err-t.result c.from_residual-in_err-t.ensures.1 in
    rw (p.1, p.2) (agg-right _ c.args.s c.in_ok-pair.ensures.0 [] [] [] [] (Err c.in_err-t.field-0.0) (value_call_bad _ _ _ _ c.in_ok-function.ensures.0.0 c.in_err-t.ensures))

pub root-e-requires : goal.root-e-requires
root-e-requires c =
    let g = c.in_ok-t.ensures 0 in
    omega (arith, g.made_is)

pub put_row-requires : goal.put_row-requires
put_row-requires c =
    let g = c.in_ok-t.ensures 0 in
    omega (arith, g.made_is, g.row_is, g.grown, g.few, c.in_ok-function.ensures.0.1, c.root-e.ensures.2, c.in_ok-pair.ensures.1, c.in_ok-pair.ensures.2, c.requires)

pub overflow_add-result : goal.overflow_add-result
overflow_add-result c =
    let g = c.in_ok-t.ensures 0 in
    omega (arith, g.row_is, c.requires, c.well_formed)

pub returns : goal.returns
returns c =
    agg-right _ _ c.in_ok-pair.ensures.0 _ _ _ _ (Ok (spot c.in_ok-t.t.at c.in_ok-t.t.tags c.in_ok-t.t.made (c.in_ok-t.t.row + 1)))
    (value-took _ (spot c.in_ok-pair.pair.next c.args.s.tags c.args.s.made c.args.s.row) _ _ c.in_ok-function.ensures.0.0 c.in_ok-function.ensures.0.1 _ _ _ _ _ c.in_ok-t.ensures _ c.root-e.ensures.0 c.root-e.ensures.1 c.put_row.ensures)
