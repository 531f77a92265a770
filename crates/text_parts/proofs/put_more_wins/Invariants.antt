-- `text_parts::put_more_wins` meets its contract: the windows from `row` on are left to be put. Assumes nothing.
use Rattle.text_parts.specs.Parts.{WinsOk, more_at, win_text_at}
use Rattle.text_put.specs.Puts.{Leads}
use Rattle.tree.specs.Rows.{win_size}
use Prim.Native.Nat.{◌-◌}
use lib.ListN.{length}
use mathlib.Core.Path.{◌≡◌}
use Rattle.text_parts.proofs.put_more_wins.Given as goal

abbrev pub invariant-loop : goal.invariant-loop
invariant-loop l = record {
  long : length l.out ≡ length l.initial.out;
  left : WinsOk l.rows l.cells l.row (l.n - l.counter);
  put : Leads (more_at (win_text_at l.rows l.cells) (win_size l.rows) l.first l.n) l.at l.initial.out (more_at (win_text_at l.rows l.cells) (win_size l.rows) l.row (l.n - l.counter)) l.end l.out;
}
