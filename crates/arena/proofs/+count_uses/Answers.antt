-- The proof of the cycle of calls {count_uses}. The measure is the node's number. Assumes nothing.
use mathlib.Core.Path.{refl, ◌≡◌, sym, ap, ap₂, ◌∙◌}
use Prim.Native.Nat.{ℕ, ◌+◌}
use mathlib.Core.Logic.{inl, inr}
use native.Mathlib.Omega.{arith}
use mathlib.Core.Bool.{Bool, true, false, ◌&&◌}
use lib.Dec.{eqb}
use Rattle.cpl.specs.Plan.{Expr, Op2, Pair, bin, col, eq_p, pair}
use Rattle.rules.specs.Merge.{occurs}
use Rattle.arena.specs.Cells.{expr_at}
use mir.Val.{bool_byte}
use Rattle.arena.proofs.Same.{and-else, and-then}
use Rattle.arena.proofs.Laws.{small_1, small_2, uses_le}
use Rattle.arena.proofs.+count_uses.Goals as goal
use Rattle.arena.proofs.+count_uses.Goals.{then-a-q, else-a-q}

two-uses : {e x y : Expr} {o : Op2} {a b : ℕ} (f : Pair) → e ≡ bin o x y → a ≡ occurs f x → b ≡ occurs f y → a + b ≡ occurs f e
unfolding occurs
two-uses f v e g = ap₂ ◌+◌ e g ∙ sym (ap (occurs f) v)

col-uses : {e : Expr} {a b : ℕ} (q n : ℕ) (t : Bool) → e ≡ col (pair a b) → eqb a q && eqb b n ≡ t → bool_byte t ≡ occurs (pair q n) e
unfolding occurs eq_p
col-uses q n true v h = sym (ap (occurs (pair q n)) v ∙ rw h)
col-uses q n false v h = sym (ap (occurs (pair q n)) v ∙ rw h)

pub count_uses-requires : goal.count_uses-requires
count_uses-requires t c =
    small_1 _ _ _ c.decreases (c.requires.wf, c.requires.i_bound) _ _ (rw c.in-One.is at c.node_at.ensures)

pub count_uses-requires-in-Two : goal.count_uses-requires-in-Two
count_uses-requires-in-Two t c =
    (small_2 _ _ _ c.decreases (c.requires.wf, c.requires.i_bound) _ _ _ (rw c.in-Two.is at c.node_at.ensures)).0

pub count_uses-requires-in-Two-2 : goal.count_uses-requires-in-Two-2
count_uses-requires-in-Two-2 t c =
    (small_2 _ _ _ c.decreases (c.requires.wf, c.requires.i_bound) _ _ _ (rw c.in-Two.is at c.node_at.ensures)).1

pub overflow_add-result : goal.overflow_add-result
overflow_add-result t c =
    omega (arith, two-uses (pair c.args.q c.args.n) (rw c.in-Two.is at c.node_at.ensures).means c.count_uses-in-Two.ensures c.count_uses-in-Two-2.ensures, c.requires.i_bound, uses_le (pair c.args.q c.args.n) (expr_at c.args.cells.now c.args.i))

pub returns-in-Lit : goal.returns-in-Lit
unfolding occurs
returns-in-Lit t c =
    elim c.in-Lit.is [
      | inl (v, h) ↦ sym (ap (occurs _) (rw h at c.node_at.ensures))
      | inr h ↦ sym (ap (occurs _) (rw h at c.node_at.ensures))
    ]

pub returns-in-One : goal.returns-in-One
unfolding occurs
returns-in-One t c =
    c.count_uses.ensures ∙ sym (ap (occurs _) (rw c.in-One.is at c.node_at.ensures).means)

pub returns-in-Two : goal.returns-in-Two
returns-in-Two t c =
    two-uses _ (rw c.in-Two.is at c.node_at.ensures).means c.count_uses-in-Two.ensures c.count_uses-in-Two-2.ensures

pub returns-after-a-q : goal.returns-after-a-q
returns-after-a-q t c =
    c.from.ensures ∙ col-uses _ _ _ (rw c.in-Col.is at c.node_at.ensures) (elim c.if-a-q.branch [
      | then-a-q w ↦ sym (w.from-is ∙ and-then _ refl w.if-a-q.true)
      | else-a-q w ↦ sym (w.from-is ∙ and-else _ refl w.if-a-q.false)
    ])
