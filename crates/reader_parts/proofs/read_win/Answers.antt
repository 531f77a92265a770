-- `read_win` meets its contract. Assumes nothing.
use native.Mathlib.Omega.{arith}
use mathlib.Core.Path.{refl}
use Rattle.std.proofs.lemmas.Result.{err_from_is_err_and}
use Rattle.std.specs.Prelude.{[], Err}
use Rattle.cpl.specs.Read.{any}
use Rattle.tree.specs.Layout.{expr_store}
use Rattle.reader_fields.specs.Answers.{spot}
use Rattle.reader_parts.proofs.Compose.{all_one, times-length}
use Rattle.reader_parts.proofs.Counts.{from-any}
use Rattle.reader_parts.proofs.Wins.{over-bad, over-count-bad, over-parts-bad, over-right, win-bad, win-right}
use Rattle.reader_parts.proofs.read_win.Goals as goal

pub returns-in_err-pair : goal.returns-in_err-pair
returns-in_err-pair c =
    let p = err_from_is_err_and c.from_residual.result c.from_residual.ensures.1 in
    rw (p.1, p.2) (win-bad _ _ _ c.in_err-pair.ensures)

pub returns-in_err-function : goal.returns-in_err-function
returns-in_err-function c =
    let p = err_from_is_err_and c.from_residual-in_err-function.result c.from_residual-in_err-function.ensures.1 in
    rw (p.1, p.2) (win-right _ c.args.s c.in_ok-pair.ensures.0 [] [] [] [] (Err c.in_err-function.field-0.0) (over-bad _ _ _ _ c.in_err-function.ensures.0))

pub returns-in_err-count : goal.returns-in_err-count
returns-in_err-count c =
    let p = err_from_is_err_and c.from_residual-in_err-count.result c.from_residual-in_err-count.ensures.1 in
    rw (p.1, p.2) (win-right _ c.args.s c.in_ok-pair.ensures.0 [] [] [] [] (Err c.in_err-count.field-0.0) (over-count-bad _ _ _ _ c.in_ok-function.ensures.0.0 (c.in_err-count.ensures any from-any)))

pub put_row-requires : goal.put_row-requires
put_row-requires c =
    let e = c.in_ok-count.ensures any from-any in
    omega (arith, e.1, c.in_ok-function.ensures.0.1, c.in_ok-pair.ensures.1, c.in_ok-pair.ensures.2, c.requires)

pub read_parts-requires : goal.read_parts-requires
read_parts-requires c =
    let e = c.in_ok-count.ensures any from-any in
    omega (arith, e.1, c.requires)

pub returns-in_err-t : goal.returns-in_err-t
returns-in_err-t c =
    let p = err_from_is_err_and c.from_residual-in_err-t.result c.from_residual-in_err-t.ensures.1 in
    rw (p.1, p.2) (win-right _ c.args.s c.in_ok-pair.ensures.0 [] [] [] [] (Err c.in_err-t.field-0.0)
    (over-parts-bad _ _ _ _ c.in_ok-function.ensures.0.0 (c.in_ok-count.ensures any from-any).0 c.in_err-t.ensures))

pub read_rest-requires : goal.read_rest-requires
read_rest-requires c =
    let e = c.in_ok-count.ensures any from-any in
    let g = c.in_ok-t.ensures 0 in
    omega (arith, g.made_is, g.row_is, g.grown, g.few, all_one expr_store (λ x. refl) g.value, times-length _ _ _ _ _ _ g.is, e.1, c.requires)

pub returns : goal.returns
returns c =
    win-right _ _ c.in_ok-pair.ensures.0 _ _ _ _ c.read_rest.result
    (over-right _ (spot c.in_ok-pair.pair.next c.args.s.tags c.args.s.made c.args.s.row) _ _ c.in_ok-function.ensures.0.0 c.in_ok-function.ensures.0.1 (c.in_ok-count.ensures any from-any).0 _ _ _ _ _ _ _ _ c.put_row.ensures c.in_ok-t.ensures c.read_rest.result c.read_rest.ensures)
