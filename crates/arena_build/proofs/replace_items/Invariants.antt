-- `arena_build::replace_items` meets its contract: the rows that are done are a `Listing`. Assumes nothing.
use Rattle.rules.specs.Merge.{replace_item}
use Rattle.arena.specs.Lists.{listed}
use Rattle.arena_build.specs.Lists.{Listing}
use Rattle.arena_build.proofs.Items.{made_of}
use Rattle.arena_build.proofs.replace_items.Given as goal

abbrev pub invariant-loop-i : goal.invariant-loop-i
invariant-loop-i l =
    Listing (made_of (replace_item (listed l.list)) l.upper.rows.now l.upper.cells.now l.upper.first l.i) l.to l.i l.initial.rows l.initial.dst l.used l.most l.rows l.dst
