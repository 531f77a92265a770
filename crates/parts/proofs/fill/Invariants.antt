-- `parts::fill` meets its contract: the fields so far, and those to come, are the list. Assumes nothing.
use Prim.Native.Nat.{ℕ, ◌<◌}
use mathlib.Core.Path.{◌≡◌}
use Rattle.cpl.specs.Plan.{Pair}
use Rattle.tree.specs.declared.Field.{Field}
use Rattle.lookup.specs.Fields.{pair_of}
use Rattle.lookup.proofs.Rows.{Fills}
use Rattle.parts.proofs.fill.Given as goal

abbrev pub invariant-loop-i : goal.invariant-loop-i
invariant-loop-i g l = (at : ℕ → Pair) → ((i : ℕ) → i < l.n → (f : Field) → goal.F-post g l.read i f → pair_of f ≡ at i) → Fills at 0 l.n l.to l.i l.initial.fields l.fields
