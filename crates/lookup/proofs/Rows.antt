-- Rows of fields that are kept, and rows that are filled field by field. Assumes nothing.
use mathlib.Core.Path.{◌≡◌, refl, sym, ap, ap₂, subst, ◌∙◌}
use mathlib.Core.List.{List, [], ◌∷◌, ◌++◌, append-nil, append_assoc}
use Prim.Native.Nat.{ℕ, ◌+◌, ◌-◌, ◌*◌, ◌<◌, ◌≤◌}
use native.Mathlib.Omega.{arith}
use lib.ListN.{length, get_or, set, length-set}
use lib.Seq.{get_or-set_same, get_or-set_other}
use Rattle.cpl.specs.Limits.{max_nodes}
use Rattle.cpl.specs.Plan.{Pair, pair}
use Rattle.tree.specs.Rows.{list_at, one}
use Rattle.lookup.specs.Fields.{field_at, first_at, row_at, width_at, Kept, RowsKept, RowStays, WidthsKept, Filled}
use Rattle.std.specs.List.{CopiedTo, SameBelow, SameFrom}
use Rattle.lookup.proofs.Lists.{list_same, list_append, list-moved, rest, rest_all, rest-next, rest-none}

-- ── what is kept ────────────────────────────────────────────────────────────────────────────

module _ {A : Type 0} (read : List ℕ → ℕ → A) where
  pub kept_refl : (lo hi : ℕ) (s : List ℕ) → Kept read lo hi s s
  kept_refl lo hi s = record { long = refl; low = λ x h. refl; high = λ x h. refl }

  pub kept_trans : {lo hi : ℕ} {s s₁ s₂ : List ℕ} → Kept read lo hi s s₁ → Kept read lo hi s₁ s₂ → Kept read lo hi s s₂
  kept_trans p q = record { long = q.long ∙ p.long; low = λ x h. q.low x h ∙ p.low x h; high = λ x h. q.high x h ∙ p.high x h }

  -- of a wider part less is said
  pub kept-wide : (lo hi : ℕ) {lo' hi' : ℕ} {s s' : List ℕ} → lo ≤ lo' → hi' ≤ hi → Kept read lo' hi' s s' → Kept read lo hi s s'
  kept-wide lo hi a b p = record { long = p.long; low = λ x h. p.low x (omega arith); high = λ x h. p.high x (omega arith) }

-- a field that is set
pub put_here : (s : List ℕ) (j q n : ℕ) → j * 2 + 1 < length s → field_at (set (set s (j * 2) q) (j * 2 + 1) n) j ≡ pair q n
put_here s j q n h =
    ap₂ pair
    (get_or-set_other (set s (j * 2) q) (j * 2 + 1) (j * 2) n 0 (omega arith) ∙ get_or-set_same s (j * 2) q 0 (omega arith))
    (get_or-set_same (set s (j * 2) q) (j * 2 + 1) n 0 (simp length-set (omega arith)))

pub put_kept : (s : List ℕ) (j q n : ℕ) → Kept field_at j (j + 1) s (set (set s (j * 2) q) (j * 2 + 1) n)
put_kept s j q n = record { long = simp length-set; low = λ x h. other x (omega arith); high = λ x h. other x (omega arith) }
  where
    at : (y : ℕ) → (y ≡ j * 2 → ⊥) → (y ≡ j * 2 + 1 → ⊥) → get_or (set (set s (j * 2) q) (j * 2 + 1) n) y 0 ≡ get_or s y 0
    at y a b = get_or-set_other (set s (j * 2) q) (j * 2 + 1) y n 0 b ∙ get_or-set_other s (j * 2) y q 0 a

    other : (x : ℕ) → (x ≡ j → ⊥) → field_at (set (set s (j * 2) q) (j * 2 + 1) n) x ≡ field_at s x
    other x h = ap₂ pair (at (x * 2) (λ e. h (omega arith)) (λ e. omega arith)) (at (x * 2 + 1) (λ e. omega arith) (λ e. h (omega arith)))

-- rows below and above the part that was written
pub row_low : (lo hi : ℕ) {s s' : List ℕ} → RowsKept lo hi s s' → (f n : ℕ) → f + n ≤ lo → row_at s' f n ≡ row_at s f n
row_low lo hi p f n h = list_same _ _ f n (λ x a b. p.low x (omega arith))

pub row-high : (lo hi : ℕ) {s s' : List ℕ} → RowsKept lo hi s s' → (f n : ℕ) → hi ≤ f → row_at s' f n ≡ row_at s f n
row-high lo hi p f n h = list_same _ _ f n (λ x a b. p.high x (omega arith))

-- ── where nodes have their rows ─────────────────────────────────────────────────────────────

pub widths-refl : (lo hi : ℕ) (w : List ℕ) → WidthsKept lo hi w w
widths-refl lo hi w = record { long = refl; low = λ x h. record { width = refl; first = refl }; high = λ x h l. record { width = refl; first = refl } }

stays_trans : {w w₁ w₂ : List ℕ} {x : ℕ} → RowStays w w₁ x → RowStays w₁ w₂ x → RowStays w w₂ x
stays_trans p q = record { width = q.width ∙ p.width; first = q.first ∙ p.first }

pub widths_trans : {lo hi : ℕ} {w w₁ w₂ : List ℕ} → WidthsKept lo hi w w₁ → WidthsKept lo hi w₁ w₂ → WidthsKept lo hi w w₂
widths_trans p q = record { long = q.long ∙ p.long; low = λ x h. stays_trans (p.low x h) (q.low x h); high = λ x h l. stays_trans (p.high x h l) (q.high x h l) }

pub widths-wide : (lo hi : ℕ) {lo' hi' : ℕ} {w w' : List ℕ} → lo ≤ lo' → hi' ≤ hi → WidthsKept lo' hi' w w' → WidthsKept lo hi w w'
widths-wide lo hi a b p = record { long = p.long; low = λ x h. p.low x (omega arith); high = λ x h l. p.high x (omega arith) l }

-- node k's row is set
abbrev pub row_set : (w : List ℕ) (k width first : ℕ) → List ℕ
row_set w k width first = set (set w k width) (max_nodes + k) first

module _ (w : List ℕ) (k width first : ℕ) (few : k < max_nodes) (wide : max_nodes + max_nodes ≤ length w) where
  pub set-width : width_at (row_set w k width first) k ≡ width
  set-width = get_or-set_other (set w k width) (max_nodes + k) k first 0 (omega arith) ∙ get_or-set_same w k width 0 (omega arith)

  pub set_first : first_at (row_set w k width first) k ≡ first
  set_first = get_or-set_same (set w k width) (max_nodes + k) first 0 (simp length-set (omega arith))

  pub set-kept : WidthsKept k (k + 1) w (row_set w k width first)
  set-kept = record { long = simp length-set; low = λ x h. other x (omega arith) (omega arith); high = λ x h l. other x (omega arith) l }
    where
      at : (y : ℕ) → (y ≡ k → ⊥) → (y ≡ max_nodes + k → ⊥) → get_or (row_set w k width first) y 0 ≡ get_or w y 0
      at y a b = get_or-set_other (set w k width) (max_nodes + k) y first 0 b ∙ get_or-set_other w k y width 0 a

      other : (x : ℕ) → (x ≡ k → ⊥) → x < max_nodes → RowStays w (row_set w k width first) x
      other x h l = record { width = at x h (λ e. omega arith); first = at (max_nodes + x) (λ e. omega arith) (λ e. h (omega arith)) }

-- ── a row that is filled ────────────────────────────────────────────────────────────────────

-- the first x fields from field f on are filled, and `left` is to come
pub record Filling (f x : ℕ) (left fs : List Pair) (s s' : List ℕ) : Type 0 where
  pub row : row_at s' f x ++ left ≡ fs
  pub kept : RowsKept f (f + x) s s'

pub fill_none : (f : ℕ) (left : List Pair) (s : List ℕ) → Filling f 0 left left s s
unfolding list_at
fill_none f left s = record { row = refl; kept = kept_refl field_at _ _ s }

pub row_more : (s : List ℕ) (f x : ℕ) → row_at s f (x + 1) ≡ row_at s f x ++ (field_at s (f + x) ∷ [])
unfolding list_at
row_more s f x = list_append (field_at s) f x 1

pub fill_more : {f x : ℕ} {c : Pair} {left fs : List Pair} {s s₁ s₂ : List ℕ} → Filling f x (c ∷ left) fs s s₁ → field_at s₂ (f + x) ≡ c → Kept field_at (f + x) (f + x + 1) s₁ s₂
    → Filling f (x + 1) left fs s s₂
fill_more {f} {x} {c} {left} {fs} {s} {s₁} {s₂} p e q =
    let before : row_at s₂ f x ≡ row_at s₁ f x = list_same _ _ f x (λ y a b. q.low y (omega arith)) in
    record {
      row = ap (◌++ left) (row_more s₂ f x ∙ ap₂ (λ xs (y : Pair). xs ++ (y ∷ [])) before e) ∙ append_assoc (row_at s₁ f x) (c ∷ []) left ∙ p.row;
      kept = kept_trans field_at (kept-wide field_at f (f + (x + 1)) (omega arith) (omega arith) p.kept) (kept-wide field_at f (f + (x + 1)) (omega arith) (omega arith) q);
    }

pub fill_all : {f x : ℕ} {fs : List Pair} {s s' : List ℕ} → Filling f x [] fs s s' → Filled f x fs s s'
fill_all {f} {x} {s' = s'} p = record { row = sym (append-nil (row_at s' f x)) ∙ p.row; kept = p.kept }

-- one row behind another
pub fill_behind : {f n m : ℕ} {xs ys : List Pair} {s s₁ s₂ : List ℕ} → Filled f n xs s s₁ → Filled (f + n) m ys s₁ s₂ → Filled f (n + m) (xs ++ ys) s s₂
fill_behind {f} {n} {m} {s₂ = s₂} p q = record {
  row = list_append (field_at s₂) f n m ∙ ap₂ ◌++◌ (row_low (f + n) (f + n + m) q.kept f n (omega arith) ∙ p.row) q.row;
  kept = kept_trans field_at (kept-wide field_at f (f + (n + m)) (omega arith) (omega arith) p.kept) (kept-wide field_at f (f + (n + m)) (omega arith) (omega arith) q.kept);
}

-- the fields from field `to` on are filled with a list, up to its thing i
pub record Fills (read : ℕ → Pair) (f n to i : ℕ) (s s' : List ℕ) : Type 0 where
  pub upto : i ≤ n
  pub filling : Filling to i (rest read f n i) (list_at read one f n) s s'

module _ (read : ℕ → Pair) (f n to : ℕ) where
  pub fills_none : (s : List ℕ) → Fills read f n to 0 s s
  unfolding list_at
  fills_none s = record { upto = omega arith; filling = record { row = sym (rest_all read f n); kept = kept_refl field_at _ _ s } }

  pub fills_more : (i : ℕ) {s s₁ s₂ : List ℕ} → Fills read f n to i s s₁ → i < n → field_at s₂ (to + i) ≡ read (f + i) → Kept field_at (to + i) (to + i + 1) s₁ s₂ → Fills read f n to (i + 1) s s₂
  fills_more i {s} {s₁} {s₂} p h e q =
      let now : Filling to i (read (f + i) ∷ rest read f n (i + 1)) (list_at read one f n) s s₁ =
      record { row = ap (row_at s₁ to i ++◌) (sym (rest-next read f n i h)) ∙ p.filling.row; kept = p.filling.kept } in
      record { upto = omega arith; filling = fill_more now e q }

  pub fills_all : (i : ℕ) {s s' : List ℕ} → Fills read f n to i s s' → n ≤ i → Filled to n (list_at read one f n) s s'
  fills_all i {s} {s'} p h =
      let e : i ≡ n = omega (arith, p.upto) in
      let d : Filling to i [] (list_at read one f n) s s' = record { row = ap (row_at s' to i ++◌) (sym (rest-none read f n i h)) ∙ p.filling.row; kept = p.filling.kept } in
      fill_all (subst (λ x. Filling to x [] (list_at read one f n) s s') e d)

-- a row that the library copies
module _ {s s' : List ℕ} (to from width count : ℕ) where
  pub copied : count ≡ width * 2 → length s' ≡ length s → CopiedTo s s' (from * 2) (to * 2) count → SameBelow s s' (to * 2) → SameFrom s s' (to * 2 + count) → Filled to width (row_at s from width) s s'
  copied e l c b a = record {
    row = list-moved (field_at s') (field_at s) to from width (λ i h. ap₂ pair (moved i ((to + i) * 2) ((from + i) * 2) (omega arith)) (moved i ((to + i) * 2 + 1) ((from + i) * 2 + 1) (omega arith)));
    kept = record {
      long = l;
      low = λ x h. ap₂ pair (b (x * 2) 0 (omega arith)) (b (x * 2 + 1) 0 (omega arith));
      high = λ x h. ap₂ pair (a (x * 2) 0 (omega arith)) (a (x * 2 + 1) 0 (omega arith));
    };
  }
    where
      moved : (i k j : ℕ) → (to * 2 ≤ k) × (k < to * 2 + count) × (from * 2 + (k - to * 2) ≡ j) → get_or s' k 0 ≡ get_or s j 0
      moved i k j h = c k 0 h.0 h.1 ∙ ap (λ (x : ℕ). get_or s x 0) h.2
