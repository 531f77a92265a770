-- `arena_show::copies` meets its contract: the rows that are done are copies of the one. Assumes nothing.
use mathlib.Core.Path.{◌≡◌}
use native.Mathlib.Omega.{arith}
use Rattle.arena.proofs.Laws.{wf-none}
use Rattle.arena_build.proofs.Items.{listing_none}
use Rattle.arena_show.proofs.Samples.{seed_ok, times, times-full, times_more}
use Rattle.arena_show.proofs.copies.Goals as goal

pub loop-i-init : goal.loop-i-init
unfolding times
loop-i-init c = listing_none 0 _ _ 0 (omega arith) (wf-none _)

pub copy_item-requires : goal.copy_item-requires
copy_item-requires c = record { row_ok = seed_ok; k_in_bounds = omega (arith, c.requires.0, c.loop-i-test.true, c.loop-i.invariant.rows_kept.long); dst_len_bound = (omega (arith, c.requires.1, c.loop-i.invariant.kept.long), c.loop-i.invariant.wf) }

pub returns-in_default : goal.returns-in_default
returns-in_default c =
    (omega arith, times-full c.loop-i.invariant (rw c.in_default.is at c.copy_item.ensures))

pub loop-i-preserved : goal.loop-i-preserved
loop-i-preserved c =
    times_more c.loop-i.invariant (rw c.in-Ok.is at c.copy_item.ensures)

pub returns : goal.returns
returns c =
    let e : c.loop-i.i ≡ 128 = omega arith in
    (omega arith, rw e at c.loop-i.invariant.ok)
