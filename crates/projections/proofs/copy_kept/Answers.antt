-- `projections::copy_kept` meets its contract: the rows that are done are a `Listing`. Assumes nothing.
use Rattle.arena.proofs.Rows.{row_fits, row_ok}
use Rattle.std.proofs.lemmas.Result.{err_from_is_err_and}
use Rattle.projections.proofs.Chosen.{found}
use Rattle.projections.proofs.Copying.{copying_all, copying_full, copying_more, copying_none, copying_room}
use native.Mathlib.Omega.{arith}
use Rattle.projections.proofs.copy_kept.Goals as goal

pub loop-i-init : goal.loop-i-init
loop-i-init c =
    copying_none _ _ _ _ _ c.requires.kept_bound _ _ _ _ c.requires.room

pub overflow_add-at : goal.overflow_add-at
overflow_add-at c =
    omega (arith, row_fits c.requires.rows_ok _ (found _ _ c.requires.kept_bound _ c.next.result c.next.ensures _ c.in-Some.is).1)

pub copy_item-requires-clause-row_ok : goal.copy_item-requires-clause-row_ok
copy_item-requires-clause-row_ok c =
    row_ok _ _ _ _ c.requires.rows_ok _ (found _ _ c.requires.kept_bound _ c.next.result c.next.ensures _ c.in-Some.is).1

pub copy_item-requires-clause-k_in_bounds : goal.copy_item-requires-clause-k_in_bounds
copy_item-requires-clause-k_in_bounds c =
    copying_room _ _ _ _ _ c.requires.kept_bound _ _ _ _ c.requires.room c.loop-i.invariant

pub returns-in_err-b : goal.returns-in_err-b
returns-in_err-b c =
    let p = err_from_is_err_and c.from_residual.result c.from_residual.ensures.1 in
    rw p.1 (copying_full _ _ _ _ _ c.requires.kept_bound _ _ _ _ c.requires.room c.loop-i.invariant c.next.result c.next.ensures _ c.in-Some.is c.in_err-b.ensures)

pub overflow_add-from : goal.overflow_add-from
overflow_add-from c =
    omega (arith, row_fits c.requires.rows_ok _ (found _ _ c.requires.kept_bound _ c.next.result c.next.ensures _ c.in-Some.is).1)

pub loop-i-smaller : goal.loop-i-smaller
loop-i-smaller c =
    omega (arith, found _ _ c.requires.kept_bound _ c.next.result c.next.ensures _ c.in-Some.is)

pub loop-i-preserved : goal.loop-i-preserved
loop-i-preserved c =
    copying_more _ _ _ _ _ c.requires.kept_bound _ _ _ _ c.requires.room c.loop-i.invariant c.next.result c.next.ensures _ c.in-Some.is c.in_ok-b.ensures

pub returns : goal.returns
returns c =
    copying_all _ _ _ _ _ c.requires.kept_bound _ _ _ _ c.requires.room c.loop-i.invariant c.next.result c.next.ensures c.in_default.is
