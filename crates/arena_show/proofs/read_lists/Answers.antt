-- `arena_show::read_lists` meets its contract: the samples are well formed. Assumes nothing.
use native.Mathlib.Omega.{arith}
use Rattle.arena_show.proofs.Samples.{items-ok, items-tags, part}
use Rattle.arena_show.proofs.read_lists.Goals as goal

pub uses-requires : goal.uses-requires
uses-requires g c = record { rows_ok = items-ok; count_bound = items-tags }

pub tags-requires : goal.tags-requires
tags-requires g c = record { rows_ok = items-ok; count_bound = items-tags }

pub uses_no_column-requires : goal.uses_no_column-requires
uses_no_column-requires g c = items-ok

pub uses_no_column-requires-2 : goal.uses_no_column-requires-2
uses_no_column-requires-2 g c = part 2 1 (omega arith) (omega arith) items-ok

pub all_plain-requires : goal.all_plain-requires
all_plain-requires g c = items-ok

pub all_plain-requires-2 : goal.all_plain-requires-2
all_plain-requires-2 g c = part 2 1 (omega arith) (omega arith) items-ok
