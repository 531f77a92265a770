-- The laws of the tests for equality. Assumes nothing.
use mathlib.Core.Path.{◌≡◌, refl, sym, ap, ap₂, ◌∙◌}
use mathlib.Core.Bool.{Bool, true, false, cond, decide, true≢false, ◌&&◌}
use mathlib.Core.List.{List, [], ◌∷◌}
use Prim.Native.Nat.{ℕ, zero, suc, ◌+◌, ◌^◌, ◌<◌, ◌≤◌}
use native.Mathlib.Omega.{arith}
use borrow.Author.Tests.{eqb-true, eq-eqb, ne_eqb}
use lib.Dec.{eqb}
use lib.IntN.{ℤ}
use lib.ListN.{length}
use Rattle.std.specs.List.{list_all, range_with_len}
use Rattle.std.proofs.Common.{add-one, add-suc, add-zero}
use Rattle.cpl.specs.Codes.{op1_of, op2_of, signed, tag_of, unsigned}
use Rattle.cpl.specs.Plan.{Expr, Item, Op1, Op2, Pair, bare, bin, col, lit, miss, named, pair, un}
use Rattle.rules.specs.Merge.{eq_items, expr_d, item_d}
use Rattle.arena.specs.Cells.{NodeIs, NodeOk, expr_at, tag_at}
use Rattle.arena.specs.Rows.{item_at, items_at, row_item}
use Rattle.arena.specs.View.{Shows}
use Rattle.arena.specs.declared.View.TheVariants.{One, Two}
use Rattle.arena.proofs.Laws.{at_col, at_lit, at_miss, at_one, at_two, bits, op1-tag, op2-tag, tag}

-- what is decided, by what it is equivalent to
module _ {A : Type 0} (d : Dec A) where
  pub is_yes : A → true ≡ decide d
  unfolding decide
  is_yes a = elim d as (λ k. true ≡ decide k) [ yes b ↦ refl | no n ↦ absurd (n a) ]

  pub is_no : (A → ⊥) → false ≡ decide d
  unfolding decide
  is_no n = elim d as (λ k. false ≡ decide k) [ yes b ↦ absurd (n b) | no m ↦ refl ]

  pub is_test : (b : Bool) → (b ≡ true → A) → (A → b ≡ true) → b ≡ decide d
  is_test true f g = is_yes (f refl)
  is_test false f g = is_no (λ a. let z : true ≡ false = sym (g a) in absurd (true≢false z))

pub dec_true : {A : Type 0} (d : Dec A) → decide d ≡ true → A
unfolding decide
dec_true (yes a) e = a
dec_true (no n) e = absurd (true≢false (sym e))

pub and-true : (a b : Bool) → a && b ≡ true → (a ≡ true) × (b ≡ true)
and-true true true e = (refl, refl)
and-true true false e = (refl, e)
and-true false b e = absurd (true≢false (sym e))

pub both_true : {a b : Bool} → a ≡ true → b ≡ true → a && b ≡ true
both_true e f = ap₂ ◌&&◌ e f

-- `eqb x z && t`, once x and z are compared
module _ {x z : ℕ} (t : Bool) {r : Bool} (h : eqb x z && t ≡ r) where
  pub and-then : x ≡ z → t ≡ r
  and-then e = rw (eq-eqb x z e) at h

  pub and-else : (x ≡ z → ⊥) → eqb x z ≡ r
  and-else n = ne_eqb x z n ∙ (rw (ne_eqb x z n) at h)

-- two expressions of one kind
module _ {e f : Expr} where
  pub same_cols : {x y z w : ℕ} → e ≡ col (pair x y) → f ≡ col (pair z w) → eqb x z && eqb y w ≡ decide (expr_d e f)
  same_cols {x} {y} {z} {w} p q = is_test _ _ (λ t. let h = and-true (eqb x z) (eqb y w) t in cc (eqb-true x z h.0, eqb-true y w h.1)) (λ g. both_true (eq-eqb x z (cc)) (eq-eqb y w (cc)))

  pub same_lits : {x z : ℕ} → e ≡ lit (signed x) → f ≡ lit (signed z) → x < 2 ^ 64 → z < 2 ^ 64 → eqb x z ≡ decide (expr_d e f)
  same_lits {x} {z} p q h k = is_test _ _ (λ t. cc (ap signed (eqb-true x z t))) (λ g. eq-eqb x z (sym (bits x h) ∙ ap unsigned (cc) ∙ bits z k))

  pub same-miss : e ≡ miss → f ≡ miss → true ≡ decide (expr_d e f)
  same-miss p q = is_yes _ (p ∙ sym q)

  pub same-one : {o : Op1} {x y : Expr} {r : Bool} → e ≡ un o x → f ≡ un o y → r ≡ decide (expr_d x y) → r ≡ decide (expr_d e f)
  same-one {o} {x} {y} {r} p q h = is_test _ _ (λ t. let g = dec_true _ (sym h ∙ t) in cc) (λ g. h ∙ sym (is_yes _ (cc)))

  pub same-two : {o : Op2} {x y z w : Expr} {r s : Bool} → e ≡ bin o x y → f ≡ bin o z w → r ≡ decide (expr_d x z) → s ≡ decide (expr_d y w) → r && s ≡ decide (expr_d e f)
  same-two {o} {x} {y} {z} {w} {r} {s} p q h k =
      is_test _ _ (λ t. let b = and-true r s t in let g₁ = dec_true _ (sym h ∙ b.0) in let g₂ = dec_true _ (sym k ∙ b.1) in cc)
      (λ g. both_true (h ∙ sym (is_yes _ (cc))) (k ∙ sym (is_yes _ (cc))))

-- the second node, where it has the tag of the first: t and u are the tags that were read, z and w the second's numbers
module _ {a b : List ℕ} {i j : ℕ} (o : NodeOk a i) (p : NodeOk b j) {t x y u z w : ℕ}
    (v : NodeIs a i t x y) (r : NodeIs b j u z w) where
  pub tags_differ : (t ≡ u → ⊥) → false ≡ decide (expr_d (expr_at a i) (expr_at b j))
  tags_differ n = is_no _ (λ q. n (v.tag_is ∙ sym (tag a i o) ∙ ap tag_of q ∙ tag b j p ∙ sym r.tag_is))

  same_tag : {e : Expr} → t ≡ u → expr_at a i ≡ e → tag_at b j ≡ tag_of e
  same_tag h q = sym r.tag_is ∙ sym h ∙ v.tag_is ∙ sym (tag a i o) ∙ ap tag_of q

  module _ (h : t ≡ u) where
    pub other-col : {c : Pair} → expr_at a i ≡ col c → (expr_at a i ≡ col (pair x y)) × (expr_at b j ≡ col (pair z w))
    unfolding tag_of
    other-col q = rw (v.x_is, v.y_is, r.x_is, r.y_is) (at_col a i (sym (tag a i o) ∙ ap tag_of q), at_col b j (same_tag h q))

    pub other-lit : {c : ℤ} → expr_at a i ≡ lit c → (expr_at a i ≡ lit (signed x)) × (expr_at b j ≡ lit (signed z))
    unfolding tag_of
    other-lit q = rw (v.x_is, r.x_is) (at_lit a i (sym (tag a i o) ∙ ap tag_of q), at_lit b j (same_tag h q))

    pub other-miss : expr_at a i ≡ miss → expr_at b j ≡ miss
    unfolding tag_of
    other-miss q = at_miss b j (same_tag h q)

    pub other-one : {k n : ℕ} → Shows a i (One k n) → (z < j) × (expr_at b j ≡ un (op1_of k) (expr_at b z))
    unfolding tag_of
    other-one {k} q =
        let g : tag_at b j ≡ k = same_tag h q.means ∙ op1-tag k q.least q.most in
        let l = p.first (rw g q.least) in
        rw r.x_is (l, at_one b j (rw g q.least) (rw g q.most) l ∙ rw g)

    pub other-two : {k m n : ℕ} → Shows a i (Two k m n) → (z < j) × (w < j) × (expr_at b j ≡ bin (op2_of k) (expr_at b z) (expr_at b w))
    unfolding tag_of
    other-two {k} q =
        let g : tag_at b j ≡ k = same_tag h q.means ∙ op2-tag k q.least q.most in
        let five : 5 ≤ tag_at b j = rw g q.least in
        let l = p.first (omega arith) in
        let m = p.second five in
        rw (r.x_is, r.y_is) (l, m, at_two b j five l m ∙ rw g)

-- two items, each a row that was read
module _ {a b : Item} {q n : ℕ} where
  pub same-bare : (r k m : ℕ) (e : Expr) → a ≡ bare (pair q n) → b ≡ row_item m (pair r k) e → eqb m 0 && (eqb q r && eqb n k) ≡ decide (item_d a b)
  unfolding row_item
  same-bare r k m e p g = go (eqb m 0) g
    where
      go : (t : Bool) → b ≡ cond t (bare (pair r k)) (named (pair r k) e) → t && (eqb q r && eqb n k) ≡ decide (item_d a b)
      go true g = is_test _ _ (λ t. let h = and-true (eqb q r) (eqb n k) t in cc (eqb-true q r h.0, eqb-true n k h.1)) (λ l. both_true (eq-eqb q r (cc)) (eq-eqb n k (cc)))
      go false g = is_no _ (λ l. let z : ◌≡◌ {A = ℕ} 0 1 = cc in omega arith)

  pub other_mark : {r k : ℕ} {e : Expr} → a ≡ named (pair q n) e → b ≡ bare (pair r k) → false ≡ decide (item_d a b)
  other_mark p g = is_no _ (λ l. let z : ◌≡◌ {A = ℕ} 0 1 = cc in omega arith)

  pub same-named : {r k : ℕ} {e f : Expr} {w t : Bool} → a ≡ named (pair q n) e → b ≡ named (pair r k) f → eqb q r && eqb n k ≡ w → t ≡ decide (expr_d e f) → w && t ≡ decide (item_d a b)
  same-named {r} {k} {e} {f} {w} {t} p g v d =
      is_test _ _
      (λ y. let h = and-true w t y in let j = and-true (eqb q r) (eqb n k) (v ∙ h.0) in let l = dec_true _ (sym d ∙ h.1) in cc (eqb-true q r j.0, eqb-true n k j.1))
      (λ l. both_true (sym v ∙ both_true (eq-eqb q r (cc)) (eq-eqb n k (cc))) (d ∙ sym (is_yes _ (cc))))

-- two lists
pub items-length : (s cells : List ℕ) (f n : ℕ) → length (items_at s cells f n) ≡ n
unfolding items_at
items-length s cells f zero = refl
items-length s cells f (suc n) = ap suc (items-length s cells (suc f) n)

eq_length : (is js : List Item) → (length is ≡ length js → ⊥) → false ≡ eq_items is js
unfolding eq_items
eq_length [] [] h = absurd (h refl)
eq_length [] (j ∷ js) h = refl
eq_length (i ∷ is) [] h = refl
eq_length (i ∷ is) (j ∷ js) h = go (decide (item_d i j)) (eq_length is js (λ e. h (ap suc e)))
  where
    go : (b : Bool) → false ≡ eq_items is js → false ≡ b && eq_items is js
    go true e = e
    go false e = refl

module _ (s cells : List ℕ) (f n : ℕ) (s₂ cells₂ : List ℕ) (f₂ n₂ : ℕ) where
  pub unlike : (n ≡ n₂ → ⊥) → false ≡ eq_items (items_at s cells f n) (items_at s₂ cells₂ f₂ n₂)
  unlike h = eq_length _ _ (λ e. h (sym (items-length s cells f n) ∙ e ∙ items-length s₂ cells₂ f₂ n₂))

-- two lists of n rows, by their rows' numbers
same_on : (s cells : List ℕ) (f : ℕ) (s₂ cells₂ : List ℕ) (f₂ i n : ℕ) → list_all (λ k. decide (item_d (item_at s cells (f + k)) (item_at s₂ cells₂ (f₂ + k)))) (range_with_len i n) ≡ eq_items (items_at s cells (f + i) n) (items_at s₂ cells₂ (f₂ + i) n)
unfolding items_at eq_items
same_on s cells f s₂ cells₂ f₂ i zero = refl
same_on s cells f s₂ cells₂ f₂ i (suc n) =
    let e = same_on s cells f s₂ cells₂ f₂ (suc i) n in
    rw add-one (ap (λ b. decide (item_d (item_at s cells (f + i)) (item_at s₂ cells₂ (f₂ + i))) && b) (simp add-suc at e))

pub same_rows : (s cells : List ℕ) (f : ℕ) (s₂ cells₂ : List ℕ) (f₂ n : ℕ) → list_all (λ k. decide (item_d (item_at s cells (f + k)) (item_at s₂ cells₂ (f₂ + k)))) (range_with_len 0 n) ≡ eq_items (items_at s cells f n) (items_at s₂ cells₂ f₂ n)
same_rows s cells f s₂ cells₂ f₂ n = same_on s cells f s₂ cells₂ f₂ 0 n ∙ ap₂ (λ a b. eq_items (items_at s cells a n) (items_at s₂ cells₂ b n)) (add-zero f) (add-zero f₂)
