-- `arena::is_column` meets its contract. Assumes nothing.
use mathlib.Core.Path.{◌≡◌, refl}
use mathlib.Core.Logic.{inl, inr}
use Prim.Native.Nat.{ℕ}
use native.Mathlib.Omega.{arith}
use Rattle.arena.proofs.Same.{and-else, and-then, is_no, same_cols}
use Rattle.arena.proofs.is_column.Goals as goal

pub returns-then-a-q : goal.returns-then-a-q
returns-then-a-q c =
    and-then _ (same_cols (rw c.in-Col.is at c.node_at.ensures) refl) c.if-a-q.true

pub returns-else-a-q : goal.returns-else-a-q
returns-else-a-q c =
    and-else _ (same_cols (rw c.in-Col.is at c.node_at.ensures) refl) c.if-a-q.false

pub returns-in-Lit : goal.returns-in-Lit
returns-in-Lit c =
    is_no _ (λ g. elim c.in-Lit.is [
      | inl (v, e) ↦ let h = rw e at c.node_at.ensures in let z : ◌≡◌ {A = ℕ} 0 1 = cc (h, g) in omega arith
      | inr (inl e) ↦ let h = rw e at c.node_at.ensures in let z : ◌≡◌ {A = ℕ} 0 1 = cc (h, g) in omega arith
      | inr (inr (inl (t, x, e))) ↦ let h = rw e at c.node_at.ensures in let z : ◌≡◌ {A = ℕ} 0 1 = cc (h.means, g) in omega arith
      | inr (inr (inr (t, x, y, e))) ↦ let h = rw e at c.node_at.ensures in let z : ◌≡◌ {A = ℕ} 0 1 = cc (h.means, g) in omega arith
    ])
