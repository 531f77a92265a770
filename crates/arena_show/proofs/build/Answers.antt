-- `arena_show::build` meets its contract: the samples are well formed, and so is the list that is made. Assumes nothing.
use native.Mathlib.Omega.{arith}
use Rattle.arena.proofs.Laws.{wf-none}
use Rattle.arena_show.proofs.Samples.{items-ok, upper_ok}
use Rattle.arena_show.proofs.build.Goals as goal

pub replace_items-requires : goal.replace_items-requires
replace_items-requires g c = record { rows_ok = upper_ok; rows_ok_2 = items-ok; size_in_bounds = omega arith; dst_len_bound = (omega arith, wf-none _) }

pub show_nodes-requires : goal.show_nodes-requires
show_nodes-requires g c =
    (rw c.in-Ok.is at c.replace_items.ensures).wf
