-- `writer_parts::wins_size` meets its contract. Assumes nothing.
use mathlib.Core.Path.{◌≡◌}
use lib.ListN.{length}
use Rattle.cpl.specs.Bytes.{win_bytes}
use Rattle.cpl.specs.Exprs.{win_tags}
use Rattle.tree.specs.Rows.{win_at, win_size}
use Rattle.std.specs.Prelude.{option_copied}
use Rattle.writer_parts.specs.Lists.{chosen, chosen_sum, row_from, takes, which_of}
use Rattle.writer_parts.specs.Wrote.{Counts}
use Rattle.writer_parts.proofs.wins_size.Given as goal

abbrev pub invariant-loop-i : goal.invariant-loop-i
invariant-loop-i l =
    (l.row ≡ row_from (win_size l.rows) l.first l.i)
    × Counts (length (chosen (λ j. win_bytes (win_at l.rows l.cells (row_from (win_size l.rows) l.first j))) (takes (which_of (option_copied l.taken))) 0 l.i)) (chosen_sum (λ j. win_tags (win_at l.rows l.cells (row_from (win_size l.rows) l.first j))) (takes (which_of (option_copied l.taken))) 0 l.i) l.sum
