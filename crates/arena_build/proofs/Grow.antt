-- The laws of cells that grow: a node that is put behind the others, and one law for each way that `subst` can end. Assumes nothing.
use mathlib.Core.Path.{◌≡◌, refl, ap, ap₂, ◌∙◌}
use mathlib.Core.List.{List}
use Prim.Native.Nat.{ℕ, ◌+◌, ◌*◌, ◌<◌, ◌≤◌}
use native.Mathlib.Omega.{arith}
use borrow.Author.Count.{below_more}
use lib.ListN.{length, length-set, set}
use lib.Seq.{get_or-set_other, get_or-set_same}
use Rattle.cpl.specs.Codes.{op1_of, op2_of, signed}
use Rattle.cpl.specs.Exprs.{expr_tags}
use Rattle.cpl.specs.Plan.{Expr, bin, col, lit, miss, pair, un}
use Rattle.arena.specs.Cells.{NodeOk, Wf, expr_at, tag_at, x_at, y_at}
use Rattle.arena.specs.Kept.{Kept}
use Rattle.arena.proofs.Kept.{kept_expr, kept_refl, kept_trans, kept-wf}
use Rattle.arena.proofs.Laws.{at_col, at_lit, at_miss, at_one, at_two}
use Rattle.arena_build.specs.Build.{Answer, Made, Pushed, Refused, put_node}
use Rattle.arena_build.specs.declared.Built.{Built}
use Rattle.arena.specs.declared.Full.{Full}
use Rattle.std.proofs.Common.{Result, Ok, Err}

-- the numbers that a node may be put with, behind u nodes
pub record Fit (u t x y : ℕ) : Type 0 where
  pub known : t < 12
  pub column : t ≡ 0 → (x < 65536) × (y < 65536)
  pub first : 3 ≤ t → x < u
  pub second : 5 ≤ t → y < u

-- a node put behind the others
module _ (s : List ℕ) (u t x y : ℕ) (h : u * 3 + 2 < length s) where
  s₁ : List ℕ
  s₁ = set s (u * 3) t

  s₂ : List ℕ
  unfolding s₁
  s₂ = set s₁ (u * 3 + 1) x

  pub put_kept : Kept (u * 3) s (put_node s u t x y)
  unfolding put_node s₂
  put_kept = record {
    same = λ k l. get_or-set_other s₂ (u * 3 + 2) k y 0 (omega arith) ∙ get_or-set_other s₁ (u * 3 + 1) k x 0 (omega arith) ∙ get_or-set_other s (u * 3) k t 0 (omega arith);
    long = simp length-set;
  }

  pub put_tag : tag_at (put_node s u t x y) u ≡ t
  unfolding put_node s₂
  put_tag = get_or-set_other s₂ (u * 3 + 2) (u * 3) y 0 (omega arith) ∙ get_or-set_other s₁ (u * 3 + 1) (u * 3) x 0 (omega arith) ∙ get_or-set_same s (u * 3) t 0 (omega arith)

  pub put_x : x_at (put_node s u t x y) u ≡ x
  unfolding put_node s₂
  put_x = get_or-set_other s₂ (u * 3 + 2) (u * 3 + 1) y 0 (omega arith) ∙ get_or-set_same s₁ (u * 3 + 1) x 0 (simp length-set (omega arith))

  pub put_y : y_at (put_node s u t x y) u ≡ y
  unfolding put_node s₂
  put_y = get_or-set_same s₂ (u * 3 + 2) y 0 (simp length-set (omega arith))

  put_ok : Fit u t x y → NodeOk (put_node s u t x y) u
  put_ok f = record {
    inside = rw put_kept.long h;
    known = rw put_tag f.known;
    column = rw (put_tag, put_x, put_y) f.column;
    first = rw (put_tag, put_x) f.first;
    second = rw (put_tag, put_y) f.second;
  }

  pub put_wf : Wf s u → Fit u t x y → Wf (put_node s u t x y) (u + 1)
  unfolding Wf
  put_wf w f = below_more (NodeOk (put_node s u t x y)) u (kept-wf u put_kept u (omega arith) w) (put_ok f)

-- what a push behind kept nodes answers for e
built : (e : Expr) (s : List ℕ) (used : ℕ) (s₁ : List ℕ) (u t x y : ℕ) (r : Result Built Full) (s₂ : List ℕ)
    → Kept (used * 3) s s₁ → used ≤ u → Wf s₁ u → Fit u t x y → u + 1 ≡ used + expr_tags e
    → ((s' : List ℕ) → Kept (u * 3) s₁ s' → tag_at s' u ≡ t → x_at s' u ≡ x → y_at s' u ≡ y → expr_at s' u ≡ e)
    → Pushed s₁ u t x y r s₂ → Answer e s used r s₂
built e s used s₁ u t x y (Ok b) s₂ k l w f g m p =
    let h = p.room in
    rw (p.node_is, p.more_is, p.stored)
    (record {
      kept = kept_trans (omega arith) k (put_kept s₁ u t x y h);
      means = m (put_node s₁ u t x y) (put_kept s₁ u t x y h) (put_tag s₁ u t x y h) (put_x s₁ u t x y h) (put_y s₁ u t x y h);
      last = refl;
      grown = g;
      wf = put_wf s₁ u t x y h w f;
    })
built e s used s₁ u t x y (Err full) s₂ k l w f g m p = rw p.same (record { kept = k; tight = omega (arith, p.full, k.long, g) })

leaf : (e : Expr) (s : List ℕ) (used t x y : ℕ) (r : Result Built Full) (s₂ : List ℕ) → t < 3 → (t ≡ 0 → (x < 65536) × (y < 65536)) → expr_tags e ≡ 1 → Wf s used
    → ((s' : List ℕ) → tag_at s' used ≡ t → x_at s' used ≡ x → y_at s' used ≡ y → expr_at s' used ≡ e)
    → Pushed s used t x y r s₂ → Answer e s used r s₂
leaf e s used t x y r s₂ h c z w m p =
    built e s used s used t x y r s₂ (kept_refl _ s) (omega arith) w
    (record { known = omega arith; column = c; first = λ l. absurd (omega arith); second = λ l. absurd (omega arith) })
    (omega arith) (λ s' k. m s') p

-- each leaf
module _ (s : List ℕ) (used : ℕ) (r : Result Built Full) (s₂ : List ℕ) (w : Wf s used) where
  pub put_lit : (a : ℕ) → Pushed s used 1 a 0 r s₂ → Answer (lit (signed a)) s used r s₂
  unfolding expr_tags
  put_lit a p = leaf _ s used 1 a 0 r s₂ (omega arith) (λ l. absurd (omega arith)) refl w (λ s' t x y. at_lit s' used t ∙ ap (λ n. lit (signed n)) x) p

  pub put_miss : Pushed s used 2 0 0 r s₂ → Answer miss s used r s₂
  unfolding expr_tags
  put_miss p = leaf _ s used 2 0 0 r s₂ (omega arith) (λ l. absurd (omega arith)) refl w (λ s' t x y. at_miss s' used t) p

  pub put_col : (a b : ℕ) → a < 65536 → b < 65536 → Pushed s used 0 a b r s₂ → Answer (col (pair a b)) s used r s₂
  unfolding expr_tags
  put_col a b h k p = leaf _ s used 0 a b r s₂ (omega arith) (λ l. (h, k)) refl w (λ s' t x y. at_col s' used t ∙ ap₂ (λ m n. col (pair m n)) x y) p

pub within : {e : Expr} {s : List ℕ} {used node more : ℕ} {s' : List ℕ} → Made e s used node more s' → node < more
within d = omega (arith, d.last)

-- an operator behind its operands
pub put_one : (k : ℕ) (e : Expr) (s : List ℕ) (used node more : ℕ) (s₁ : List ℕ) (r : Result Built Full) (s₂ : List ℕ) → 3 ≤ k → k < 5
    → Made e s used node more s₁ → Pushed s₁ more k node 0 r s₂ → Answer (un (op1_of k) e) s used r s₂
unfolding expr_tags
put_one k e s used node more s₁ r s₂ h l d p =
    built _ s used s₁ more k node 0 r s₂ d.kept (omega (arith, d.grown)) d.wf
    (record { known = omega arith; column = λ z. absurd (omega arith); first = λ z. within d; second = λ z. absurd (omega arith) })
    (omega (arith, d.grown))
    (λ s' q a b c. at_one s' more (omega (arith, a)) (omega (arith, a)) (omega (arith, b, within d)) ∙ cc (a, ap (expr_at s') b, kept_expr more q node (within d), d.means))
    p

pub put_two : (k : ℕ) (e f : Expr) (s : List ℕ) (used node more : ℕ) (s₁ : List ℕ) (node₂ most : ℕ) (s₂ : List ℕ) (r : Result Built Full) (s₃ : List ℕ) → 5 ≤ k → k < 12
    → Made e s used node more s₁ → Made f s₁ more node₂ most s₂ → Pushed s₂ most k node node₂ r s₃ → Answer (bin (op2_of k) e f) s used r s₃
unfolding expr_tags
put_two k e f s used node more s₁ node₂ most s₂ r s₃ h l d g p =
    let in₁ : node < most = omega (arith, within d, g.grown) in
    built _ s used s₂ most k node node₂ r s₃
    (kept_trans (omega (arith, d.grown)) d.kept g.kept) (omega (arith, d.grown, g.grown)) g.wf
    (record { known = l; column = λ z. absurd (omega arith); first = λ z. in₁; second = λ z. within g })
    (omega (arith, d.grown, g.grown))
    (λ s' q a b c. at_two s' most (omega (arith, a)) (omega (arith, b)) (omega (arith, c, within g))
    ∙ cc (a, ap (expr_at s') b, ap (expr_at s') c, kept_expr most q node in₁, kept_expr most q node₂ (within g), kept_expr more g.kept node (within d), d.means, g.means))
    p

pub full-one : (o : Expr → Expr) (e : Expr) (s : List ℕ) (used : ℕ) (s₁ : List ℕ) → expr_tags e ≤ expr_tags (o e) → Refused e s used s₁ → Refused (o e) s used s₁
full-one o e s used s₁ l d = record { kept = d.kept; tight = omega (arith, d.tight) }

pub full-second : (k : ℕ) (e f : Expr) (s : List ℕ) (used node more : ℕ) (s₁ s₂ : List ℕ) → Made e s used node more s₁ → Refused f s₁ more s₂ → Refused (bin (op2_of k) e f) s used s₂
unfolding expr_tags
full-second k e f s used node more s₁ s₂ d g = record {
  kept = kept_trans (omega (arith, d.grown)) d.kept g.kept;
  tight = omega (arith, g.tight, d.grown, d.kept.long);
}
