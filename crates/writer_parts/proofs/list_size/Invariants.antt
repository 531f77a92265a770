-- `writer_parts::list_size` meets its contract. Assumes nothing.
use Prim.Native.Nat.{◌+◌}
use lib.ListN.{length}
use Rattle.writer_parts.specs.Wrote.{Counts}
use Rattle.writer_parts.specs.Parts.{part_bytes, part_tags}
use Rattle.std.specs.Prelude.{option_copied}
use Rattle.writer_parts.specs.Lists.{chosen, chosen_sum, takes, which_of}
use Rattle.writer_parts.proofs.list_size.Given as goal

abbrev pub invariant-loop-i : goal.invariant-loop-i
invariant-loop-i l =
    Counts (length (chosen (λ j. part_bytes l.part l.rows l.cells (l.first + j)) (takes (which_of (option_copied l.taken))) 0 l.i)) (chosen_sum (λ j. part_tags l.part l.rows l.cells (l.first + j)) (takes (which_of (option_copied l.taken))) 0 l.i) l.sum
