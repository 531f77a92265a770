-- `text_plan::put_indent` meets its contract: the spaces of `left` levels are left to be put. Assumes nothing.
use Rattle.plan_text.specs.Listing.{indent}
use Rattle.text_put.specs.Puts.{Leads}
use Prim.Native.Nat.{◌-◌}
use lib.ListN.{length}
use mathlib.Core.Path.{◌≡◌}
use Rattle.text_plan.proofs.put_indent.Given as goal

abbrev pub invariant-loop : goal.invariant-loop
invariant-loop l = (length l.out ≡ length l.initial.out) × Leads (indent l.level) l.at l.initial.out (indent (l.level - l.counter)) l.end l.out
