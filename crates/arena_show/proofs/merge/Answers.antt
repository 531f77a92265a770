-- `arena_show::merge` meets its contract: the samples are well formed, and so is the list that is made. Assumes nothing.
use native.Mathlib.Omega.{arith}
use Rattle.arena.proofs.Laws.{wf-fits, wf-none}
use Rattle.arena_build.proofs.Items.{listing-tags}
use Rattle.arena_show.proofs.Samples.{lower_ok}
use Rattle.arena_show.proofs.merge.Goals as goal

pub replace_items-requires : goal.replace_items-requires
replace_items-requires g c = record { rows_ok = c.requires.list_ok.1; rows_ok_2 = lower_ok; size_in_bounds = omega (arith, c.requires.list_ok.0); dst_len_bound = (c.requires.dst_len_bound, wf-none _) }

pub tags-requires : goal.tags-requires
tags-requires g c =
    let d = rw c.in-Ok.is at c.replace_items.ensures in record { rows_ok = d.ok; count_bound = omega (arith, listing-tags d, wf-fits _ _ d.wf, c.requires.list_ok.0, c.requires.dst_len_bound, d.kept.long) }
