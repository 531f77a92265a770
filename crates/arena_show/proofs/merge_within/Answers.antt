-- `arena_show::merge_within` meets its contract. Assumes nothing.
use native.Mathlib.Omega.{arith}
use lib.ListN.{length-take}
use Rattle.arena_show.proofs.merge_within.Goals as goal

pub slice_bounds-merge-end-2 : goal.slice_bounds-merge-end-2
slice_bounds-merge-end-2 g c = simp length-take (omega arith)

pub merge-requires : goal.merge-requires
merge-requires g c = record { list_ok = c.requires.list_ok; dst_len_bound = simp length-take (omega arith) }
