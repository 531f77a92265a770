-- `writer_parts::write_list` meets its contract. Assumes nothing.
use Prim.Native.Nat.{◌+◌}
use Rattle.writer_parts.specs.Wrote.{Wrote}
use Rattle.writer_parts.specs.Parts.{part_bytes}
use Rattle.std.specs.Prelude.{option_copied}
use Rattle.writer_parts.specs.Lists.{chosen, takes, which_of}
use Rattle.writer_parts.proofs.write_list.Given as goal

abbrev pub invariant-loop-i : goal.invariant-loop-i
invariant-loop-i l = Wrote (chosen (λ j. part_bytes l.part l.rows l.cells (l.first + j)) (takes (which_of (option_copied l.taken))) 0 l.i) l.initial.out l.at l.out
