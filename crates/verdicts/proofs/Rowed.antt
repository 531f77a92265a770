-- Rows that are stored, and the part of them that does not clash. Assumes nothing.
use mathlib.Core.Path.{◌≡◌, refl, sym, ap, ap₂, subst, ◌∙◌}
use mathlib.Core.Bool.{false}
use mathlib.Core.List.{List, ◌++◌}
use Prim.Native.Nat.{ℕ, zero, suc, ◌+◌, ◌*◌, ◌<◌, ◌≤◌}
use native.Mathlib.Omega.{arith}
use lib.ListN.{length, length-append}
use Rattle.cpl.specs.Accept.{clash}
use Rattle.cpl.specs.Plan.{Pair}
use Rattle.tree.specs.Rows.{AllAt, list_at, one, win_size}
use Rattle.lookup.specs.Fields.{Filled, SidesClear, SidesIn, field_at, left_row, right_row, row_at}
use Rattle.lookup.specs.declared.Sides.{Sides}
use Rattle.lookup.proofs.Lists.{list_length, list_same}
use Rattle.lookup.proofs.Rows.{fill_behind}
use Rattle.parts.specs.Parts.{WinInside}
use Rattle.verdicts.specs.Nodes.{KeptBelow, Rowed, SidesReady}
use Rattle.verdicts.specs.declared.Row.{Row}

pub row-length : (s : List ℕ) (f n : ℕ) → length (row_at s f n) ≡ n
row-length s f n = list_length (field_at s) one f n

pub clear_none : (s : List ℕ) (f : ℕ) → clash (row_at s f 0) ≡ false
unfolding list_at clash
clear_none s f = refl

-- ── what is kept ────────────────────────────────────────────────────────────────────────────

pub below-same : (free : ℕ) (s : List ℕ) → KeptBelow free s s
below-same free s = record { long = refl; low = λ x h. refl }

-- of fewer fields less is said
pub below_less : {free next : ℕ} {s s' : List ℕ} → free ≤ next → KeptBelow next s s' → KeptBelow free s s'
below_less l p = record { long = p.long; low = λ x h. p.low x (omega arith) }

pub below_then : {free : ℕ} {s s₁ s₂ : List ℕ} → KeptBelow free s s₁ → KeptBelow free s₁ s₂ → KeptBelow free s s₂
below_then p q = record { long = q.long ∙ p.long; low = λ x h. q.low x h ∙ p.low x h }

pub below-filled : {free n : ℕ} {fs : List Pair} {s s' : List ℕ} → Filled free n fs s s' → KeptBelow free s s'
below-filled f = record { long = f.kept.long; low = f.kept.low }

-- a row below
pub below_row : {free : ℕ} {s s' : List ℕ} → KeptBelow free s s' → (f n : ℕ) → f + n ≤ free → row_at s' f n ≡ row_at s f n
below_row p f n h = list_same _ _ f n (λ x a b. p.low x (omega arith))

-- ── sides ───────────────────────────────────────────────────────────────────────────────────

module _ {s : List ℕ} {free most : ℕ} {x : Sides} (o : SidesReady s free most x) where
  pub sides_in : SidesIn s x
  sides_in = record { left_in = omega (arith, o.room, o.before_left); right_in = omega (arith, o.room, o.before_right) }

  -- as references see them
  pub sides_clear : SidesClear s x
  sides_clear = record {
    left_clear = record { inside = sides_in.left_in; clear = λ e. o.clear_left };
    right_clear = record { inside = sides_in.right_in; clear = λ e. o.clear_right };
  }

  -- after what lies above them was written
  module _ {s' : List ℕ} (p : KeptBelow free s s') where
    pub left_after : left_row s' x ≡ left_row s x
    left_after = below_row p x.left x.lwidth o.before_left

    pub right-after : right_row s' x ≡ right_row s x
    right-after = below_row p x.right x.rwidth o.before_right

    pub ready-after : SidesReady s' free most x
    ready-after = record {
      before_left = o.before_left;
      before_right = o.before_right;
      few_left = o.few_left;
      few_right = o.few_right;
      clear_left = ap clash left_after ∙ o.clear_left;
      clear_right = ap clash right-after ∙ o.clear_right;
      room = omega (arith, o.room, p.long);
    }

-- ── rows ────────────────────────────────────────────────────────────────────────────────────

-- the numbers of a row
abbrev pub RowIs : Row → (first width clear next : ℕ) → Type 0
RowIs r first width clear next = (r.first ≡ first) × (r.width ≡ width) × (r.clear ≡ clear) × (r.next ≡ next)

pub rowed_is : {free most : ℕ} {r : Row} {fs gs : List Pair} {s s' : List ℕ} → Rowed free most r fs s s' → fs ≡ gs → Rowed free most r gs s s'
rowed_is {free} {most} {r} {s = s} {s'} w e = subst (λ fs. Rowed free most r fs s s') e w

-- too many fields: nothing is stored
pub row-over : {free most n : ℕ} {r : Row} {fs : List Pair} {s : List ℕ} → r.width ≡ n → n ≡ length fs → most < n → Rowed free most r fs s s
row-over {free} {s = s} d e h = record { long = d ∙ e; kept = below-same free s; stored = λ l. absurd (omega arith) }

-- the row of a side
pub row_same : {free most f n : ℕ} {r : Row} {s : List ℕ} → RowIs r f n n free → f + n ≤ free → clash (row_at s f n) ≡ false → Rowed free most r (row_at s f n) s s
row_same {free} {most} {f} {n} {r} {s} e b c = record {
  long = e.1 ∙ sym (row-length s f n);
  kept = below-same free s;
  stored = λ l. record {
    is = ap₂ (row_at s) e.0 e.1;
    part = omega (arith, e.1, e.2);
    clear = ap₂ (λ x y. clash (row_at s x y)) e.0 e.2 ∙ c;
    before = omega (arith, e.0, e.1, e.3);
    from = omega (arith, e.3);
    upto = omega (arith, e.3);
  };
}

module _ {free most n m : ℕ} {r : Row} {fs : List Pair} {s s' : List ℕ} (e : RowIs r free n m (free + n)) (l : n ≤ most) (f : Filled free n fs s s') where
  -- the first of what was stored are a list that does not clash
  pub row-known : {gs : List Pair} → m ≤ n → row_at s' free m ≡ gs → clash gs ≡ false → Rowed free most r fs s s'
  row-known k g c = record {
    long = e.1 ∙ sym (row-length s' free n) ∙ ap length f.row;
    kept = below-filled f;
    stored = λ z. record {
      is = ap₂ (row_at s') e.0 e.1 ∙ f.row;
      part = omega (arith, e.1, e.2);
      clear = ap₂ (λ x y. clash (row_at s' x y)) e.0 e.2 ∙ ap clash g ∙ c;
      before = omega (arith, e.0, e.1, e.3);
      from = omega (arith, e.3);
      upto = omega (arith, e.3);
    };
  }

-- of what was stored nothing is known yet
pub row_new : {free most n : ℕ} {r : Row} {fs : List Pair} {s s' : List ℕ} → RowIs r free n 0 (free + n) → n ≤ most → Filled free n fs s s' → Rowed free most r fs s s'
row_new {free} {s' = s'} e l f = row-known e l f (omega arith) refl (clear_none s' free)

-- two lists, one behind the other, the first without a clash
pub two_rowed : {free most n m : ℕ} {r : Row} {fs gs : List Pair} {s s₁ s₂ : List ℕ} → RowIs r free (n + m) n (free + (n + m)) → n + m ≤ most → Filled free n fs s s₁ → Filled (free + n) m gs s₁ s₂
    → clash fs ≡ false → Rowed free most r (fs ++ gs) s s₂
two_rowed {free} {n = n} e l f g c = row-known e l (fill_behind f g) (omega arith) (below_row (below-filled g) free n (omega arith) ∙ f.row) c

-- both sides
pub both_rowed : (j : ℕ) {free most n m : ℕ} {r : Row} {fs : List Pair} {s s₁ s₂ : List ℕ} → RowIs r free (n + m) n (free + (n + m)) → n + m ≤ most → j + m ≤ free → Filled free n fs s s₁ → Filled (free + n) m (row_at s₁ j m) s₁ s₂
    → clash fs ≡ false → Rowed free most r (fs ++ row_at s j m) s s₂
both_rowed j {free} {n = n} {m} {s₁ = s₁} {s₂} e l b f g c = two_rowed e l f (subst (λ xs. Filled (free + n) m xs s₁ s₂) (below_row (below-filled f) j m b) g) c

pub two-long : (s : List ℕ) (f n : ℕ) {m : ℕ} (ys : List Pair) → length ys ≡ m → n + m ≡ length (row_at s f n ++ ys)
two-long s f n ys e = sym (length-append (row_at s f n) ys ∙ ap₂ ◌+◌ (row-length s f n) e)

-- windows are no more than rows
windows : (s : List ℕ) (f n : ℕ) → AllAt (WinInside s) (win_size s) f (suc n) → (f + suc n) * 4 ≤ length s
unfolding AllAt win_size
windows s f zero o = omega (arith, o.0)
windows s f (suc n) o = omega (arith, windows s (f + win_size s f) n o.1)

pub all_few : (s : List ℕ) (f n : ℕ) → AllAt (WinInside s) (win_size s) f n → n * 4 ≤ length s
all_few s f zero o = omega arith
all_few s f (suc n) o = omega (arith, windows s f n o)
