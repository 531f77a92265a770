-- `parts::win_pairs` meets its contract: the fields so far, and those to come, are the list. Assumes nothing.
use Rattle.arena.specs.Rows.{pair_at}
use Rattle.parts.proofs.Strides.{Strode}
use Rattle.parts.specs.Parts.{WinInside}
use Rattle.tree.specs.Rows.{list_at, win_size}
use Rattle.parts.proofs.win_pairs.Given as goal

abbrev pub invariant-loop-i : goal.invariant-loop-i
invariant-loop-i l = Strode (WinInside l.rows) (pair_at l.rows) (win_size l.rows) l.n l.to l.row l.i (list_at (pair_at l.rows) (win_size l.rows) l.first l.n) l.initial.fields l.fields
