-- `arena_show::copies` meets its contract: the rows that are done are copies of the one. Assumes nothing.
use Rattle.arena.specs.Rows.{item_at}
use Rattle.arena_build.specs.Lists.{Listing}
use Rattle.arena_show.proofs.Samples.{column, seed, times}
use Rattle.arena_show.proofs.copies.Given as goal

abbrev pub invariant-loop-i : goal.invariant-loop-i
invariant-loop-i l = Listing (times (item_at seed column 0) l.i) 0 l.i l.initial.upper l.initial.above 0 l.used l.upper l.above
