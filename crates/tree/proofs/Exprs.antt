-- An expression that stands in the cells is read back. Assumes nothing.
use mathlib.Core.Path.{◌≡◌, refl, sym, ap, ap₂, subst, ◌∙◌}
use mathlib.Core.List.{List, [], ◌∷◌}
use Prim.Native.Nat.{ℕ, suc, ◌+◌, ◌*◌, ◌<◌, ◌≤◌}
use native.Mathlib.Decide.{ℕ_discrete}
use native.Mathlib.Omega.{arith}
use lib.ListN.{length, length-append}
use Rattle.cpl.specs.Codes.{op1_of, op2_of, signed}
use Rattle.cpl.specs.Exprs.{expr_tags}
use Rattle.cpl.specs.Plan.{Expr, Op2, bin, col, lit, miss, pair, un}
use Rattle.cpl.specs.Writable.{FitExpr, FitName, FitPair}
use Rattle.cpl.proofs.CodeTrip.{number-literal, number-op1, number-op2}
use Rattle.arena.specs.Cells.{NodeOk, Wf, expr_at, tag_at, x_at, y_at}
use Rattle.arena.proofs.Laws.{at_col, at_lit, at_miss, at_one, at_two}
use Rattle.tree.specs.Layout.{expr_cells, root_of}
use Rattle.tree.proofs.Held.{Held, held-left, held-right, moved}

pub tags-pos : (e : Expr) → 0 < expr_tags e
unfolding expr_tags
tags-pos (col c) = omega arith
tags-pos (lit z) = omega arith
tags-pos miss = omega arith
tags-pos (un o a) = omega arith
tags-pos (bin o a b) = omega arith

-- three numbers for each tag
pub cells_long : (made : ℕ) (e : Expr) → length (expr_cells made e) ≡ expr_tags e * 3
unfolding expr_cells expr_tags
cells_long made (col (pair q n)) = refl
cells_long made (lit z) = refl
cells_long made miss = refl
cells_long made (un o a) = simp length-append (omega (arith, cells_long made a))
cells_long made (bin o a b) = simp length-append (omega (arith, cells_long made a, cells_long (made + expr_tags a) b))

-- one more node
more : {s : List ℕ} {n : ℕ} → Wf s n → NodeOk s n → Wf s (suc n)
unfolding Wf
more {s} {n} w o k h = elim (ℕ_discrete k n) [ yes e ↦ subst (NodeOk s) (sym e) o | no d ↦ w k (omega arith) ]

-- the numbers of node i
record Node (s : List ℕ) (i t x y : ℕ) : Type 0 where
  inside : i * 3 + 2 < length s
  tag : tag_at s i ≡ t
  first : x_at s i ≡ x
  second : y_at s i ≡ y

node : {s : List ℕ} {i t x y : ℕ} → Held s (i * 3) (t ∷ x ∷ y ∷ []) → Node s i t x y
node {s} {i} h =
    let p : i * 3 + 0 ≡ i * 3 = omega arith in
    record { inside = omega (arith, h.room); tag = rw p at (h.same 0 (omega arith)); first = h.same 1 (omega arith); second = h.same 2 (omega arith) }

-- an expression is read back, and the nodes up to its root are well formed
pub record Back (s : List ℕ) (made : ℕ) (e : Expr) : Type 0 where
  pub is : expr_at s (root_of made e) ≡ e
  pub wf : Wf s (made + expr_tags e)

ok : {s : List ℕ} {i t x y : ℕ} → Node s i t x y → t < 12 → (t ≡ 0 → (x < 65536) × (y < 65536)) → (3 ≤ t → x < i) → (5 ≤ t → y < i) → NodeOk s i
ok n a b c d = record {
  inside = n.inside;
  known = omega (arith, n.tag);
  column = λ e. let r = b (sym n.tag ∙ e) in (omega (arith, r.0, n.first), omega (arith, r.1, n.second));
  first = λ h. omega (arith, c (omega (arith, n.tag)), n.first);
  second = λ h. omega (arith, d (omega (arith, n.tag)), n.second);
}

bin_same : {o o' : Op2} {a a' b b' : Expr} → o ≡ o' → a ≡ a' → b ≡ b' → bin o a b ≡ bin o' a' b'
bin_same p q r = cc

pub expr_back : {s : List ℕ} (e : Expr) (made : ℕ) → FitExpr e → Wf s made → Held s (made * 3) (expr_cells made e) → Back s made e
unfolding expr_cells expr_tags root_of FitExpr FitPair FitName
expr_back {s} (col (pair q n)) made f w h =
    let v = node h in
    record {
      is = ap (expr_at s) (omega arith) ∙ at_col s made v.tag ∙ ap₂ (λ x y. col (pair x y)) v.first v.second;
      wf = subst (Wf s) (omega arith) (more w (ok v (omega arith) (λ e. (omega (arith, f.0), omega (arith, f.1.1))) (λ l. absurd (omega arith)) (λ l. absurd (omega arith))));
    }
expr_back {s} (lit z) made f w h =
    let v = node h in
    record {
      is = ap (expr_at s) (omega arith) ∙ at_lit s made v.tag ∙ ap lit (ap signed v.first ∙ (number-literal z f).1);
      wf = subst (Wf s) (omega arith) (more w (ok v (omega arith) (λ e. absurd (omega arith)) (λ l. absurd (omega arith)) (λ l. absurd (omega arith))));
    }
expr_back {s} miss made f w h =
    let v = node h in
    record {
      is = ap (expr_at s) (omega arith) ∙ at_miss s made v.tag;
      wf = subst (Wf s) (omega arith) (more w (ok v (omega arith) (λ e. absurd (omega arith)) (λ l. absurd (omega arith)) (λ l. absurd (omega arith))));
    }
expr_back {s} (un o a) made f w h =
    let A = expr_back a made f w (held-left (expr_cells made a) _ h) in
    let p : made * 3 + expr_tags a * 3 ≡ (made + expr_tags a) * 3 = omega arith in
    let v = node (moved p (held-right (expr_cells made a) _ (expr_tags a * 3) (cells_long made a) h)) in
    let t = number-op1 o in
    record {
      is = ap (expr_at s) (omega arith)
          ∙ at_one s (made + expr_tags a) (omega (arith, v.tag, t.0)) (omega (arith, v.tag, t.1)) (omega (arith, v.first, tags-pos a))
          ∙ ap₂ un (ap op1_of v.tag ∙ t.2) (ap (expr_at s) v.first ∙ A.is);
      wf = subst (Wf s) (omega arith)
          (more A.wf (ok v (omega (arith, t.1)) (λ e. absurd (omega (arith, t.0))) (λ l. omega (arith, tags-pos a)) (λ l. absurd (omega (arith, t.1)))));
    }
expr_back {s} (bin o a b) made f w h =
    let A = expr_back a made f.0 w (held-left (expr_cells made a) _ h) in
    let p : made * 3 + expr_tags a * 3 ≡ (made + expr_tags a) * 3 = omega arith in
    let g = moved p (held-right (expr_cells made a) _ (expr_tags a * 3) (cells_long made a) h) in
    let B = expr_back b (made + expr_tags a) f.1 A.wf (held-left (expr_cells (made + expr_tags a) b) _ g) in
    let q : (made + expr_tags a) * 3 + expr_tags b * 3 ≡ (made + expr_tags a + expr_tags b) * 3 = omega arith in
    let v = node (moved q (held-right (expr_cells (made + expr_tags a) b) _ (expr_tags b * 3) (cells_long (made + expr_tags a) b) g)) in
    let t = number-op2 o in
    record {
      is = ap (expr_at s) (omega arith)
          ∙ at_two s (made + expr_tags a + expr_tags b) (omega (arith, v.tag, t.0)) (omega (arith, v.first, tags-pos a)) (omega (arith, v.second, tags-pos b))
          ∙ bin_same (ap op2_of v.tag ∙ t.2) (ap (expr_at s) v.first ∙ A.is) (ap (expr_at s) v.second ∙ B.is);
      wf = subst (Wf s) (omega arith)
          (more B.wf (ok v (omega (arith, t.1)) (λ e. absurd (omega (arith, t.0))) (λ l. omega (arith, tags-pos a)) (λ l. omega (arith, tags-pos b))));
    }
