-- `parts::resolve_each` meets its contract: what the things passed find is told. Assumes nothing.
use Prim.Native.Nat.{ℕ, ◌<◌}
use mathlib.Core.Bool.{Bool}
use mathlib.Core.Path.{◌≡◌}
use Rattle.cpl.specs.Accept.{Test}
use Rattle.lookup.specs.Answers.{Resolved, resolving}
use Rattle.parts.proofs.Strides.{Told}
use Rattle.tree.specs.Rows.{one}
use Rattle.parts.proofs.resolve_each.Given as goal

abbrev pub invariant-loop-i : goal.invariant-loop-i
invariant-loop-i g l = (at : ℕ → Test → Bool) → ((i : ℕ) → i < l.count → (r : Resolved) → goal.F-post g l.find i r → r ≡ resolving (at i)) → Told at (λ i. i) one 0 l.count l.i l.i l.all
