-- `writer_parts::write_wins` meets its contract. Assumes nothing.
use mathlib.Core.Path.{◌≡◌}
use Rattle.cpl.specs.Bytes.{win_bytes}
use Rattle.tree.specs.Rows.{win_at, win_size}
use Rattle.std.specs.Prelude.{option_copied}
use Rattle.writer_parts.specs.Lists.{chosen, row_from, takes, which_of}
use Rattle.writer_parts.specs.Wrote.{Wrote}
use Rattle.writer_parts.proofs.write_wins.Given as goal

abbrev pub invariant-loop-i : goal.invariant-loop-i
invariant-loop-i l =
    (l.row ≡ row_from (win_size l.rows) l.first l.i) × Wrote (chosen (λ j. win_bytes (win_at l.rows l.cells (row_from (win_size l.rows) l.first j))) (takes (which_of (option_copied l.taken))) 0 l.i) l.initial.out l.at l.out
