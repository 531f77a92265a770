-- The laws of `expr_at`, by which every proof goes: its text is opened here alone. Assumes nothing.
use mathlib.Core.Path.{◌≡◌, refl, sym, ap, ap₂, subst, ◌∙◌}
use mathlib.Core.Bool.{Bool, true, false, cond}
use mathlib.Core.List.{List}
use Prim.Native.Nat.{ℕ, zero, suc, ◌+◌, ◌*◌, ◌^◌, ◌<◌, ◌≤◌}
use native.Mathlib.Decide.{ℕ_discrete}
use native.Mathlib.Omega.{arith}
use borrow.Author.Tests.{ltb-false, ltb-true, lt-ltb, le-ltb, ne_eqb}
use lib.Dec.{ltb}
use lib.ListN.{length}
use Rattle.cpl.specs.Codes.{op1_of, op1_tag, op2_of, op2_tag, signed, tag_of, unsigned}
use Rattle.cpl.specs.Exprs.{expr_tags}
use Rattle.cpl.specs.Plan.{Expr, Pair, bin, col, eq_p, lit, miss, pair, un}
use Rattle.rules.specs.Merge.{occurs}
use Rattle.arena.specs.Cells.{NodeOk, Wf, expr_at, expr_fuel, node_of, tag_at, x_at, y_at}
use Rattle.arena.specs.View.{Shows}
use Rattle.arena.specs.declared.View.TheVariants.{One, Two}

-- what stands behind a test is compared only where the test holds
pub below : (x i : ℕ) (b : Bool) (e e' : Expr) → ltb x i ≡ b → (x < i → e ≡ e') → cond b e miss ≡ cond b e' miss
below x i true e e' t h = h (ltb-true x i t)
below x i false e e' t h = refl

fuel : (f g : ℕ) (s : List ℕ) (i : ℕ) → i < f → i < g → expr_fuel f s i ≡ expr_fuel g s i
unfolding expr_fuel
fuel zero g s i h k = absurd (omega arith)
fuel (suc f) zero s i h k = absurd (omega arith)
fuel (suc f) (suc g) s i h k =
    ap₂ (node_of (tag_at s i) (x_at s i) (y_at s i))
    (below (x_at s i) i (ltb (x_at s i) i) _ _ refl (λ l. fuel f g s (x_at s i) (omega arith) (omega arith)))
    (below (y_at s i) i (ltb (y_at s i) i) _ _ refl (λ l. fuel f g s (y_at s i) (omega arith) (omega arith)))

-- one step of `expr_at`, of any numbers
node : (s : List ℕ) (i : ℕ) → expr_at s i ≡ node_of (tag_at s i) (x_at s i) (y_at s i) (cond (ltb (x_at s i) i) (expr_at s (x_at s i)) miss) (cond (ltb (y_at s i) i) (expr_at s (y_at s i)) miss)
unfolding expr_fuel expr_at
node s i =
    ap₂ (node_of (tag_at s i) (x_at s i) (y_at s i))
    (below (x_at s i) i (ltb (x_at s i) i) _ _ refl (λ l. fuel i (suc (x_at s i)) s (x_at s i) l (omega arith)))
    (below (y_at s i) i (ltb (y_at s i) i) _ _ refl (λ l. fuel i (suc (y_at s i)) s (y_at s i) l (omega arith)))

-- `expr_at` by the kinds of node that the code tells apart
module _ (s : List ℕ) (i : ℕ) where
  pub at_col : tag_at s i ≡ 0 → expr_at s i ≡ col (pair (x_at s i) (y_at s i))
  unfolding node_of
  at_col t = node s i ∙ rw t

  pub at_lit : tag_at s i ≡ 1 → expr_at s i ≡ lit (signed (x_at s i))
  unfolding node_of
  at_lit t = node s i ∙ rw t

  pub at_miss : tag_at s i ≡ 2 → expr_at s i ≡ miss
  unfolding node_of
  at_miss t = node s i ∙ rw t

  pub at_one : 3 ≤ tag_at s i → tag_at s i < 5 → x_at s i < i → expr_at s i ≡ un (op1_of (tag_at s i)) (expr_at s (x_at s i))
  unfolding node_of
  at_one h k p = node s i ∙ simp (ne_eqb (tag_at s i) 0 (omega arith), ne_eqb (tag_at s i) 1 (omega arith), ne_eqb (tag_at s i) 2 (omega arith), lt-ltb (tag_at s i) 5 k, lt-ltb (x_at s i) i p)

  pub at_two : 5 ≤ tag_at s i → x_at s i < i → y_at s i < i → expr_at s i ≡ bin (op2_of (tag_at s i)) (expr_at s (x_at s i)) (expr_at s (y_at s i))
  unfolding node_of
  at_two h p q = node s i ∙ simp (ne_eqb (tag_at s i) 0 (omega arith), ne_eqb (tag_at s i) 1 (omega arith), ne_eqb (tag_at s i) 2 (omega arith), le-ltb (tag_at s i) 5 h, lt-ltb (x_at s i) i p, lt-ltb (y_at s i) i q)

-- well formed nodes
pub here : (s : List ℕ) (i : ℕ) → Wf s (i + 1) → NodeOk s i
unfolding Wf
here s i w = w i (omega arith)

pub wf-none : (s : List ℕ) → Wf s 0
unfolding Wf
wf-none s k h = absurd (omega arith)

pub wf_less : (s : List ℕ) (n m : ℕ) → n ≤ m → Wf s m → Wf s n
unfolding Wf
wf_less s n m h w k l = w k (omega arith)

pub wf-fits : (s : List ℕ) (n : ℕ) → Wf s n → n * 3 ≤ length s
wf-fits s zero w = omega arith
wf-fits s (suc n) w = omega (arith, (here s n (wf_less s (n + 1) (suc n) (omega arith) w)).inside)

-- the numbers that stand for operators and literals
-- from a on: it is a, or from a + 1 on
from : (P : ℕ → Type 0) (t a : ℕ) → P a → (suc a ≤ t → P t) → a ≤ t → P t
from P t a p f h = elim (ℕ_discrete t a) [ yes e ↦ subst P (sym e) p | no n ↦ f (omega arith) ]

pub op1-tag : (t : ℕ) → 3 ≤ t → t < 5 → op1_tag (op1_of t) ≡ t
unfolding op1_of op1_tag
op1-tag t h k = from P t 3 refl (from P t 4 refl λ l. absurd (omega arith)) h
  where
    P : ℕ → Type 0
    P n = op1_tag (op1_of n) ≡ n

pub op2-tag : (t : ℕ) → 5 ≤ t → t < 12 → op2_tag (op2_of t) ≡ t
unfolding op2_of op2_tag
op2-tag t h k = from P t 5 refl (from P t 6 refl (from P t 7 refl (from P t 8 refl (from P t 9 refl (from P t 10 refl (from P t 11 refl λ l. absurd (omega arith))))))) h
  where
    P : ℕ → Type 0
    P n = op2_tag (op2_of n) ≡ n

pub bits : (v : ℕ) → v < 2 ^ 64 → unsigned (signed v) ≡ v
unfolding signed unsigned
bits v h = go (ltb v (2 ^ 63)) refl
  where
    go : (b : Bool) → ltb v (2 ^ 63) ≡ b → unsigned (signed v) ≡ v
    go true e = rw e
    go false e = rw e (omega (arith, ltb-false v (2 ^ 63) e))

-- the outermost tag
pub tag : (s : List ℕ) (i : ℕ) → NodeOk s i → tag_of (expr_at s i) ≡ tag_at s i
unfolding tag_of
tag s i o = from P t 0 (λ e. ap tag_of (at_col s i e) ∙ sym e) (from P t 1 (λ e. ap tag_of (at_lit s i e) ∙ sym e) (from P t 2 (λ e. ap tag_of (at_miss s i e) ∙ sym e) (λ h e. more (ltb t 5) refl h))) (omega arith) refl
  where
    t : ℕ
    t = tag_at s i

    P : ℕ → Type 0
    P n = t ≡ n → tag_of (expr_at s i) ≡ t

    more : (b : Bool) → ltb t 5 ≡ b → 3 ≤ t → tag_of (expr_at s i) ≡ t
    more true e h = ap tag_of (at_one s i h (ltb-true t 5 e) (o.first h)) ∙ op1-tag t h (ltb-true t 5 e)
    more false e h = let f = ltb-false t 5 e in ap tag_of (at_two s i f (o.first h) (o.second f)) ∙ op2-tag t f o.known

-- what a node with operands has of them
pub lower : (s : List ℕ) (i x : ℕ) → Wf s (i + 1) → x < i → Wf s (x + 1)
lower s i x w h = wf_less s (x + 1) (i + 1) (omega arith) w

-- what a counting function requires of node i, and so of its operands: t is the function's measure, the node's number
abbrev pub Small : List ℕ → ℕ → Type 0
Small s i = Wf s (i + 1) × (expr_tags (expr_at s i) < 2 ^ 32)

module _ (t i : ℕ) (s : List ℕ) (m : i ≡ t) where
  pub operand : (w : Wf s (i + 1)) (x : ℕ) → x < i → (x < t) × Wf s (x + 1)
  operand w x h = (omega arith, lower s i x w h)

  pub small_1 : (p : Small s i) (k x : ℕ) → Shows s i (One k x) → (x < t) × Small s x
  unfolding expr_tags
  small_1 p k x v = (omega (arith, v.below), (lower s i x p.0 v.below, omega (arith, p.1, ap expr_tags v.means)))

  pub small_2 : (p : Small s i) (k x y : ℕ) → Shows s i (Two k x y) → ((x < t) × Small s x) × ((y < t) × Small s y)
  unfolding expr_tags
  small_2 p k x y v =
      let e = ap expr_tags v.means in
      ((omega (arith, v.first), (lower s i x p.0 v.first, omega (arith, p.1, e))), (omega (arith, v.second), (lower s i y p.0 v.second, omega (arith, p.1, e))))

-- a column occurs at most as often as there are tags
pub uses_le : (f : Pair) (e : Expr) → occurs f e ≤ expr_tags e
unfolding occurs expr_tags
uses_le f (col c) = go (eq_p c f)
  where
    go : (b : Bool) → cond b 1 0 ≤ 1
    go true = omega arith
    go false = omega arith
uses_le f (lit z) = omega arith
uses_le f miss = omega arith
uses_le f (un o a) = omega (arith, uses_le f a)
uses_le f (bin o a b) = omega (arith, uses_le f a, uses_le f b)
