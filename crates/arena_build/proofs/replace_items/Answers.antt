-- `arena_build::replace_items` meets its contract: the rows that are done are a `Listing`. Assumes nothing.
use native.Mathlib.Omega.{arith}
use Rattle.arena.specs.Rows.{items_at}
use Rattle.std.proofs.lemmas.Result.{err_from_is_err_and}
use Rattle.arena_build.proofs.Items.{listing_full, listing_none, made-step}
use Rattle.arena_build.proofs.replace_items.Goals as goal

pub loop-i-init : goal.loop-i-init
unfolding items_at
loop-i-init c =
    listing_none _ _ _ _ (omega (arith, c.requires.size_in_bounds)) c.requires.dst_len_bound.1

pub returns-in_err-b : goal.returns-in_err-b
returns-in_err-b c =
    let p = err_from_is_err_and c.from_residual.result c.from_residual.ensures.1 in
    rw p.1 (listing_full _ _ _ _ _ c.loop-i-test.true c.loop-i.invariant c.in_err-b.ensures)

pub loop-i-preserved : goal.loop-i-preserved
loop-i-preserved c =
    made-step _ _ _ _ c.loop-i.invariant c.in_ok-b.ensures
