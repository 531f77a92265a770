-- `text_parts::put_more` meets its contract: the rows from `row` on are left to be put. Assumes nothing.
use Rattle.text_parts.specs.Parts.{PartsOk, more_at, part_text}
use Rattle.text_put.specs.Puts.{Leads}
use Rattle.tree.specs.Rows.{one}
use Prim.Native.Nat.{◌+◌, ◌-◌}
use lib.ListN.{length}
use mathlib.Core.Path.{◌≡◌}
use Rattle.text_parts.proofs.put_more.Given as goal

abbrev pub invariant-loop-i : goal.invariant-loop-i
invariant-loop-i l = record {
  long : length l.out ≡ length l.initial.out;
  left : PartsOk l.part l.rows l.cells (l.first + l.i) (l.n - l.i);
  put : Leads (more_at (part_text l.part l.rows l.cells) one l.first l.n) l.at l.initial.out (more_at (part_text l.part l.rows l.cells) one (l.first + l.i) (l.n - l.i)) l.end l.out;
}
