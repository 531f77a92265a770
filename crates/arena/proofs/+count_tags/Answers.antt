-- The proof of the cycle of calls {count_tags}. The measure is the node's number. Assumes nothing.
use mathlib.Core.Path.{◌≡◌, sym, ap}
use Prim.Native.Nat.{ℕ, ◌+◌}
use mathlib.Core.Logic.{inl, inr}
use native.Mathlib.Omega.{arith}
use Rattle.cpl.specs.Exprs.{expr_tags}
use Rattle.cpl.specs.Plan.{Expr, Op1, Op2, bin, un}
use Rattle.arena.proofs.Laws.{small_1, small_2}
use Rattle.arena.proofs.+count_tags.Goals as goal

one-tags : {e x : Expr} {o : Op1} {a : ℕ} → e ≡ un o x → a ≡ expr_tags x → a + 1 ≡ expr_tags e
unfolding expr_tags
one-tags v e = omega (arith, ap expr_tags v)

two-tags : {e x y : Expr} {o : Op2} {a b : ℕ} → e ≡ bin o x y → a ≡ expr_tags x → b ≡ expr_tags y → a + b + 1 ≡ expr_tags e
unfolding expr_tags
two-tags v e f = omega (arith, ap expr_tags v)

pub count_tags-requires : goal.count_tags-requires
count_tags-requires t c =
    small_1 _ _ _ c.decreases (c.requires.wf, c.requires.i_bound) _ _ (rw c.in-One.is at c.node_at.ensures)

pub overflow_add-result : goal.overflow_add-result
overflow_add-result t c =
    omega (arith, one-tags (rw c.in-One.is at c.node_at.ensures).means c.count_tags.ensures, c.requires.i_bound)

pub count_tags-requires-in-Two : goal.count_tags-requires-in-Two
count_tags-requires-in-Two t c =
    (small_2 _ _ _ c.decreases (c.requires.wf, c.requires.i_bound) _ _ _ (rw c.in-Two.is at c.node_at.ensures)).0

pub count_tags-requires-in-Two-2 : goal.count_tags-requires-in-Two-2
count_tags-requires-in-Two-2 t c =
    (small_2 _ _ _ c.decreases (c.requires.wf, c.requires.i_bound) _ _ _ (rw c.in-Two.is at c.node_at.ensures)).1

pub overflow_add-result-in-Two : goal.overflow_add-result-in-Two
overflow_add-result-in-Two t c =
    omega (arith, two-tags (rw c.in-Two.is at c.node_at.ensures).means c.count_tags-in-Two.ensures c.count_tags-in-Two-2.ensures, c.requires.i_bound)

pub overflow_add-result-in-Two-2 : goal.overflow_add-result-in-Two-2
overflow_add-result-in-Two-2 t c =
    omega (arith, two-tags (rw c.in-Two.is at c.node_at.ensures).means c.count_tags-in-Two.ensures c.count_tags-in-Two-2.ensures, c.requires.i_bound)

pub returns-in-Col : goal.returns-in-Col
unfolding expr_tags
returns-in-Col t c =
    elim c.in-Col.is [
      | inl (q, n, h) ↦ sym (ap expr_tags (rw h at c.node_at.ensures))
      | inr (inl (v, h)) ↦ sym (ap expr_tags (rw h at c.node_at.ensures))
      | inr (inr h) ↦ sym (ap expr_tags (rw h at c.node_at.ensures))
    ]

pub returns-in-One : goal.returns-in-One
returns-in-One t c =
    one-tags (rw c.in-One.is at c.node_at.ensures).means c.count_tags.ensures

pub returns-in-Two : goal.returns-in-Two
returns-in-Two t c =
    two-tags (rw c.in-Two.is at c.node_at.ensures).means c.count_tags-in-Two.ensures c.count_tags-in-Two-2.ensures
