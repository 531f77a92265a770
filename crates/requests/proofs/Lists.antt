-- Loops over lists of things, of which some are picked: what is left to be added. Assumes nothing.
use mathlib.Core.Path.{◌≡◌, refl, ap, ◌∙◌}
use mathlib.Core.Bool.{true, false}
use mathlib.Core.List.{List, [], ◌∷◌, map}
use Prim.Native.Nat.{ℕ, zero, suc, ◌+◌, ◌-◌, ◌<◌, ◌≤◌}
use native.Mathlib.Numerals.{add-one}
use native.Mathlib.Omega.{arith}
use lib.ListN.{drop}
use lib.Seq.{drop-cons}
use Rattle.cpl.specs.Plan.{Expr, Item, Pair, item_expr, key_expr, on_left, on_right}
use Rattle.cpl.specs.Tests.{concat_map}
use Rattle.rules.specs.Mask.{Mask, select}
use Rattle.rules.proofs.Masks.{select_nil}
use Rattle.required_indices.specs.Set.{has, set_mask}
use Rattle.required_indices.specs.declared.RequiredIndices.{RequiredIndices}
use Rattle.required_indices.proofs.Masks.{mask_at, mask-length}
use Rattle.arena.specs.Cells.{expr_at}
use Rattle.arena.specs.Rows.{item_at, items_at}
use Rattle.tree.specs.Rows.{AllAt, key_at, key_of, keys_at, list_at, on_at, one, ons_at}
use Rattle.lookup.proofs.Lists.{list-map, rest, rest_all, rest-next, rest-none}
use Rattle.requests.specs.Asked.{Adds, place_at, roots_at}
use Rattle.requests.proofs.Adding.{Toward, toward_all, toward_more, toward_none, toward_same}

-- ── lists ───────────────────────────────────────────────────────────────────────────────────

pub items-list : (s cells : List ℕ) (f n : ℕ) → items_at s cells f n ≡ list_at (item_at s cells) one f n
unfolding items_at list_at
items-list s cells f zero = refl
items-list s cells f (suc n) = ap (item_at s cells f ∷◌) (rw add-one (items-list s cells (suc f) n))

-- one more thing, and what is after it
module _ {A : Type 0} (read : ℕ → A) (size : ℕ → ℕ) (at n i : ℕ) where
  pub list-next : i < n → list_at read size at (n - i) ≡ read at ∷ list_at read size (at + size at) (n - (i + 1))
  unfolding list_at
  list-next h = let e : n - i ≡ suc (n - (i + 1)) = omega arith in rw e

  pub list-end : n ≤ i → list_at read size at (n - i) ≡ []
  unfolding list_at
  list-end h = let e : n - i ≡ 0 = omega arith in rw e

module _ (Ok : ℕ → Type 0) (size : ℕ → ℕ) (at n i : ℕ) where
  pub all_here : i < n → AllAt Ok size at (n - i) → Ok at × AllAt Ok size (at + size at) (n - (i + 1))
  unfolding AllAt
  all_here h a = let e : n - i ≡ suc (n - (i + 1)) = omega arith in rw e at a

-- ── roots ───────────────────────────────────────────────────────────────────────────────────

pub record Rooted (s cells : List ℕ) (at f n : ℕ) (fs : List Pair) (r : RequiredIndices) (i : ℕ) (cur : RequiredIndices) : Type 0 where
  pub upto : i ≤ n
  pub toward : Toward (roots_at s cells at f n) fs r (rest (λ j. expr_at cells (place_at s at j)) f n i) cur

abbrev root_here : (s cells : List ℕ) (at j : ℕ) → Expr
root_here s cells at j = expr_at cells (place_at s at j)

module _ (s cells : List ℕ) (at f n : ℕ) {fs : List Pair} {r : RequiredIndices} where
  pub rooted_more : {i : ℕ} {cur cur' : RequiredIndices} → i < n → Rooted s cells at f n fs r i cur → Adds (root_here s cells at (f + i) ∷ []) fs cur cur' → Rooted s cells at f n fs r (i + 1) cur'
  rooted_more {i} h t d = record { upto = omega arith; toward = toward_more (roots_at s cells at f n) (root_here s cells at (f + i) ∷ []) (rest (root_here s cells at) f n (i + 1)) (rest-next (root_here s cells at) f n i h) t.toward d }

  pub rooted_all : {i : ℕ} {cur : RequiredIndices} → n ≤ i → Rooted s cells at f n fs r i cur → Adds (roots_at s cells at f n) fs r cur
  rooted_all {i} h t = toward_all (roots_at s cells at f n) (rest-none (root_here s cells at) f n i h) t.toward

-- keys, parts and the pairs of a join have roots
pub keys-roots : (s cells : List ℕ) (f n : ℕ) → map key_expr (keys_at s cells f n) ≡ roots_at s cells 3 f n
unfolding key_expr key_at key_of
keys-roots s cells f n = list-map key_expr (key_at s cells) one f n

pub ons_left : (s cells : List ℕ) (f n : ℕ) → map on_left (ons_at s cells f n) ≡ roots_at s cells 2 f n
unfolding on_left on_at
ons_left s cells f n = list-map on_left (on_at s cells) one f n

pub ons_right : (s cells : List ℕ) (f n : ℕ) → map on_right (ons_at s cells f n) ≡ roots_at s cells 3 f n
unfolding on_right on_at
ons_right s cells f n = list-map on_right (on_at s cells) one f n

-- ── things that are picked by a set ─────────────────────────────────────────────────────────

pub picks : (n set i : ℕ) → i < n → drop i (set_mask n set) ≡ has set i ∷ drop (i + 1) (set_mask n set)
picks n set i h = rw add-one (drop-cons (set_mask n set) i false (omega (arith, mask-length n set)) ∙ ap (◌∷ drop (suc i) (set_mask n set)) (mask_at n set i h))

module _ {A : Type 0} (n set i : ℕ) (h : i < n) where
  pub pick_yes : has set i ≡ true → (x : A) (xs : List A) → select (drop i (set_mask n set)) (x ∷ xs) ≡ x ∷ select (drop (i + 1) (set_mask n set)) xs
  unfolding select
  pick_yes e x xs = rw (picks n set i h, e)

  pub pick_no : has set i ≡ false → (x : A) (xs : List A) → select (drop i (set_mask n set)) (x ∷ xs) ≡ select (drop (i + 1) (set_mask n set)) xs
  unfolding select
  pick_no e x xs = rw (picks n set i h, e)

-- xs is what is left of the list at i
pub record Picked {A : Type 0} (all : List Expr) (F : A → List Expr) (n set : ℕ) (fs : List Pair) (r : RequiredIndices) (i : ℕ) (xs : List A) (cur : RequiredIndices) : Type 0 where
  pub upto : i ≤ n
  pub toward : Toward all fs r (concat_map F (select (drop i (set_mask n set)) xs)) cur

module _ {A : Type 0} {all : List Expr} {F : A → List Expr} {n set : ℕ} {fs : List Pair} {r : RequiredIndices} where
  pub picked_none : {xs : List A} → all ≡ concat_map F (select (set_mask n set) xs) → Picked all F n set fs r 0 xs r
  picked_none e = record { upto = omega arith; toward = toward_same all e (toward_none all) }

  module _ {i : ℕ} {xs : List A} {cur : RequiredIndices} (p : Picked all F n set fs r i xs cur) where
    pub picked_yes : {cur' : RequiredIndices} (x : A) (xs' : List A) → xs ≡ x ∷ xs' → i < n → has set i ≡ true → Adds (F x) fs cur cur' → Picked all F n set fs r (i + 1) xs' cur'
    unfolding concat_map
    picked_yes x xs' e h t d = record {
      upto = omega arith;
      toward = toward_more all (F x) (concat_map F (select (drop (i + 1) (set_mask n set)) xs')) (ap (λ z. concat_map F (select (drop i (set_mask n set)) z)) e ∙ ap (concat_map F) (pick_yes n set i h t x xs')) p.toward d;
    }

    pub picked_no : (x : A) (xs' : List A) → xs ≡ x ∷ xs' → i < n → has set i ≡ false → Picked all F n set fs r (i + 1) xs' cur
    picked_no x xs' e h t = record {
      upto = omega arith;
      toward = toward_same all (ap (λ z. concat_map F (select (drop i (set_mask n set)) z)) e ∙ ap (concat_map F) (pick_no n set i h t x xs')) p.toward;
    }

    pub picked_all : xs ≡ [] → Adds all fs r cur
    unfolding concat_map
    picked_all e = toward_all all (ap (λ z. concat_map F (select (drop i (set_mask n set)) z)) e ∙ ap (concat_map F) (select_nil (drop i (set_mask n set)))) p.toward

-- an item's expression alone
abbrev pub item_only : Item → List Expr
item_only i = item_expr i ∷ []

pub items_only : (is : List Item) → map item_expr is ≡ concat_map item_only is
unfolding concat_map
items_only [] = refl
items_only (i ∷ is) = ap (item_expr i ∷◌) (items_only is)

-- the picked items of a list of rows
pub items_picked : (s cells : List ℕ) (f n : ℕ) (K : Mask) → map item_expr (select K (items_at s cells f n)) ≡ concat_map item_only (select K (rest (item_at s cells) f n 0))
items_picked s cells f n K = items_only (select K (items_at s cells f n)) ∙ ap (λ z. concat_map item_only (select K z)) (items-list s cells f n ∙ rest_all (item_at s cells) f n)
