-- `text_put::put_text` meets its contract: the letters from i on are left to be put. Assumes nothing.
use Prim.Native.Nat.{◌≤◌}
use Rattle.plan_text.specs.Write.{word}
use Rattle.text_put.specs.Puts.{Leads}
use lib.ListN.{drop, length}
use mathlib.Core.Path.{◌≡◌}
use Rattle.text_put.proofs.put_text.Given as goal

abbrev pub invariant-loop-b : goal.invariant-loop-b
invariant-loop-b l = (l.b-index ≤ length l.s) × (length l.out ≡ length l.initial.out) × Leads (word l.s) l.at l.initial.out (word (drop l.b-index l.s)) l.end l.out
