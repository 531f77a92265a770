-- The turns of the loops over items and over columns. Assumes nothing.
use mathlib.Core.Path.{◌≡◌, refl, sym, ap, subst, subst⁻¹, ◌∙◌}
use mathlib.Core.Bool.{Bool, true, false, ◌&&◌, true≢false}
use mathlib.Core.List.{List, [], ◌∷◌, ◌++◌, map}
use mathlib.Core.Option.{Option, none, some}
use Prim.Native.Nat.{ℕ, zero, suc, ◌+◌, ◌-◌, ◌*◌, ◌^◌, ◌≤◌, ◌<◌}
use native.Mathlib.Numerals.{add-one}
use native.Mathlib.Omega.{arith}
use lib.Bits.{bit_or}
use lib.ListN.{length}
use Rattle.cpl.specs.Exprs.{find}
use Rattle.cpl.specs.Plan.{Expr, Pair, bin, col, item_expr, lit, miss, un}
use Rattle.cpl.specs.Tests.{any_b}
use Rattle.cpl.proofs.Lookup.{found_below}
use Rattle.rules.specs.Keys.{field_place, is_place, places_of}
use Rattle.required_indices.specs.Request.{Holds, set_of, words_n}
use Rattle.required_indices.specs.Set.{has}
use Rattle.required_indices.specs.declared.RequiredIndices.{RequiredIndices}
use Rattle.arena.specs.Rows.{item_at, items_at}
use Rattle.tree.specs.Rows.{columns_at, list_at, number_at, one}
use Rattle.lookup.specs.Answers.{place_of}
use Rattle.lookup.specs.Fields.{field_at, row_at}
use Rattle.std.specs.Prelude.{Some, None}
use Rattle.std.specs.Prelude
use Rattle.lookup.proofs.Lists.{list_append, list_length, list-map}
use Rattle.key_sets.specs.Slots.{KeySet}
use Rattle.node_keys.specs.Found.{Finds, FoundIs, Further, PlaceIn}
use Rattle.node_keys.specs.declared.Found.{Found}
use Rattle.node_keys.proofs.Founds.{found-again, found_computed, found_first, found-other}

-- ── one item ────────────────────────────────────────────────────────────────────────────────

-- whether a column of the key was seen
was_seen : {s : ℕ} (j : ℕ) {ks : List ℕ} {ps : List (Option ℕ)} {f : Found} {b : Bool} → has s j ≡ true → KeySet s ks → FoundIs ks ps f → has (set_of f.seen) j ≡ b → any_b (is_place j) ps ≡ b
was_seen j {ks} {ps} y k h n = sym (ap (◌&& any_b (is_place j) ps) (sym (k.members j) ∙ y)) ∙ (sym (h.seen_are j) ∙ n)

module _ {key : RequiredIndices} {i : ℕ} {place : Prelude.Option ℕ} {f : Found} where
  pub step_computed : place ≡ None → Further key i place f f
  step_computed e = record { is = λ ks ps k d h. subst⁻¹ (λ p. FoundIs ks (ps ++ (place_of p ∷ [])) f) e (found_computed h) }

  module _ (j : ℕ) (e : place ≡ Some j) where
    pub step_other : has (set_of key) j ≡ false → Further key i place f f
    step_other n = record { is = λ ks ps k d h. subst⁻¹ (λ p. FoundIs ks (ps ++ (place_of p ∷ [])) f) e (found-other h j (sym (k.members j) ∙ n)) }

    module _ {f' : Found} (y : has (set_of key) j ≡ true) (all-is : set_of f'.all ≡ bit_or (set_of f.all) (2 ^ i)) where
      pub step-again : has (set_of f.seen) j ≡ true → set_of f'.seen ≡ set_of f.seen → set_of f'.firsts ≡ set_of f.firsts → Further key i place f f'
      step-again n a b = record {
        is = λ ks ps k d h.
            subst⁻¹ (λ p. FoundIs ks (ps ++ (place_of p ∷ [])) f') e
            (found-again h j (sym (k.members j) ∙ y) (all-is ∙ ap (λ x. bit_or (set_of f.all) (2 ^ x)) d) (was_seen j y k h n) a b);
      }

      pub step-first : has (set_of f.seen) j ≡ false → set_of f'.seen ≡ bit_or (set_of f.seen) (2 ^ j) → set_of f'.firsts ≡ bit_or (set_of f.firsts) (2 ^ i) → Further key i place f f'
      step-first n a b = record {
        is = λ ks ps k d h.
            subst⁻¹ (λ p. FoundIs ks (ps ++ (place_of p ∷ [])) f') e
            (found_first h j (sym (k.members j) ∙ y) (all-is ∙ ap (λ x. bit_or (set_of f.all) (2 ^ x)) d) (was_seen j y k h n) a (b ∙ ap (λ x. bit_or (set_of f.firsts) (2 ^ x)) d));
      }

-- ── the items from the first on ─────────────────────────────────────────────────────────────

snoc : (read : ℕ → Option ℕ) (first i : ℕ) → list_at read one first (i + 1) ≡ list_at read one first i ++ (read (first + i) ∷ [])
unfolding list_at
snoc read first i = list_append read first i 1

module _ (read : ℕ → Option ℕ) (first : ℕ) {key : RequiredIndices} where
  pub finds_none : {f : Found} → ((ks : List ℕ) → FoundIs ks [] f) → Finds key (list_at read one first 0) f
  unfolding list_at
  finds_none h = record { is = λ ks k. h ks }

  pub finds_more : {i : ℕ} {place : Prelude.Option ℕ} {f f' : Found} → Finds key (list_at read one first i) f → Further key i place f f' → place_of place ≡ read (first + i) → Finds key (list_at read one first (i + 1)) f'
  finds_more {i} {place} {f} {f'} h n e = record {
    is = λ ks k.
        subst⁻¹ (λ ps. FoundIs ks ps f') (snoc read first i ∙ ap (λ p. list_at read one first i ++ (p ∷ [])) (sym e))
        (n.is ks (list_at read one first i) k (sym (list_length read one first i)) (h.is ks k));
  }

  pub finds_all : {count i : ℕ} {ps : List (Option ℕ)} {f : Found} → i ≤ count → count ≤ i → list_at read one first count ≡ ps → Finds key (list_at read one first i) f → Finds key ps f
  finds_all {count} {i} {ps} {f} a b e h = let z : i ≡ count = omega arith in subst (λ x. Finds key x f) (ap (list_at read one first) z ∙ e) h

-- ── places ──────────────────────────────────────────────────────────────────────────────────

-- the place of the item in a row
abbrev pub item_place : (rows cells fields : List ℕ) (start width : ℕ) → ℕ → Option ℕ
item_place rows cells fields start width k = field_place (row_at fields start width) (item_expr (item_at rows cells k))

pub items-list : (s cells : List ℕ) (f n : ℕ) → items_at s cells f n ≡ list_at (item_at s cells) one f n
unfolding items_at list_at
items-list s cells f zero = refl
items-list s cells f (suc n) = ap (item_at s cells f ∷◌) (rw add-one (items-list s cells (suc f) n))

pub item-places : (rows cells fields : List ℕ) (start width first count : ℕ) → list_at (item_place rows cells fields start width) one first count ≡ places_of (row_at fields start width) (items_at rows cells first count)
unfolding places_of
item-places rows cells fields start width first count =
    sym (ap (map (λ i. field_place (row_at fields start width) (item_expr i))) (items-list rows cells first count)
    ∙ list-map (λ i. field_place (row_at fields start width) (item_expr i)) (item_at rows cells) one first count)

pub column-places : (rows : List ℕ) (first count : ℕ) → list_at (λ k. some (number_at rows k)) one first count ≡ map some (columns_at rows first count)
column-places rows first count = sym (list-map some (number_at rows) one first count)

-- the place that an expression has, by what it is
module _ (fs : List Pair) {e : Expr} {o : Option ℕ} where
  pub place-column : (c : Pair) → e ≡ col c → o ≡ find c fs → o ≡ field_place fs e
  unfolding field_place
  place-column c d h = h ∙ sym (ap (field_place fs) d)

  pub place-literal : {z : _} → e ≡ lit z → o ≡ none → o ≡ field_place fs e
  unfolding field_place
  place-literal d h = h ∙ sym (ap (field_place fs) d)

  pub place-missing : e ≡ miss → o ≡ none → o ≡ field_place fs e
  unfolding field_place
  place-missing d h = h ∙ sym (ap (field_place fs) d)

  pub place-one : {x : _} {a : Expr} → e ≡ un x a → o ≡ none → o ≡ field_place fs e
  unfolding field_place
  place-one d h = h ∙ sym (ap (field_place fs) d)

  pub place-two : {x : _} {a b : Expr} → e ≡ bin x a b → o ≡ none → o ≡ field_place fs e
  unfolding field_place
  place-two d h = h ∙ sym (ap (field_place fs) d)

-- a place among few fields is one that a set has room for
few-place : (fs : List Pair) (e : Expr) (j : ℕ) → field_place fs e ≡ some j → length fs ≤ words_n * 64 → j < words_n * 64
unfolding field_place
few-place fs (col c) j d h = omega (arith, found_below c fs j d)
few-place fs (lit z) j d h = absurd (let z : true ≡ false = cc in true≢false z)
few-place fs miss j d h = absurd (let z : true ≡ false = cc in true≢false z)
few-place fs (un o a) j d h = absurd (let z : true ≡ false = cc in true≢false z)
few-place fs (bin o a b) j d h = absurd (let z : true ≡ false = cc in true≢false z)

pub place_in : (p : Prelude.Option ℕ) (fields : List ℕ) (start width : ℕ) (e : Expr) → place_of p ≡ field_place (row_at fields start width) e → width ≤ words_n * 64 → PlaceIn p
place_in (Some j) fields start width e d h = few-place (row_at fields start width) e j (sym d) (omega (arith, list_length (field_at fields) one start width))
place_in None fields start width e d h = tt

-- a set of all items
pub count-places : {out : RequiredIndices} {b : Bool} (rows cells fields : List ℕ) (start width first count : ℕ) → Holds out (2 ^ count - 1) b
    → Holds out (2 ^ length (places_of (row_at fields start width) (items_at rows cells first count)) - 1) b
count-places {out} {b} rows cells fields start width first count h =
    subst (λ n. Holds out (2 ^ n - 1) b)
    (sym (list_length (item_place rows cells fields start width) one first count) ∙ ap length (item-places rows cells fields start width first count)) h
