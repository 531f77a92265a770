-- `arena_build::copy_item` meets its contract. Assumes nothing.
use native.Mathlib.Omega.{arith}
use Rattle.std.proofs.lemmas.Result.{err_from_is_err_and}
use Rattle.arena_build.proofs.Items.{copy_left, copy_placed, node-small}
use Rattle.arena_build.proofs.copy_item.Goals as goal

pub returns-in_err-b : goal.returns-in_err-b
returns-in_err-b c =
    let p = err_from_is_err_and c.from_residual.result c.from_residual.ensures.1 in
    rw p.1 (copy_left _ _ c.row_at-row.ensures c.requires.row_ok _ c.in_err-b.ensures)

pub overflow_cast-b : goal.overflow_cast-b
overflow_cast-b c =
    omega (arith, node-small c.in_ok-b.ensures c.requires.dst_len_bound.0)

pub returns : goal.returns
returns c =
    copy_placed _ _ c.row_at-row.ensures c.requires.row_ok _ _ _ c.requires.k_in_bounds c.in_ok-b.ensures c.put_row.ensures
