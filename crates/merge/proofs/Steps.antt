-- The laws of one step of merging. Assumes nothing.
use mathlib.Core.Path.{◌≡◌, refl, sym, ap, ap₂, subst, ◌∙◌}
use mathlib.Core.Bool.{Bool, true, false, not, ◌&&◌, ◌||◌}
use mathlib.Core.List.{List, [], ◌∷◌, map}
use mathlib.Core.Option.{none, some}
use Prim.Native.Nat.{ℕ, zero, suc, ◌+◌, ◌*◌, ◌/◌, ◌%◌, ◌^◌, ◌<◌, ◌≤◌}
use native.Mathlib.Omega.{arith}
use borrow.Author.Tests.{lt-ltb}
use lib.Dec.{eqb, ltb}
use lib.ListN.{length}
use Rattle.std.specs.List.{list_any, range_with_len}
use Rattle.std.proofs.Common.{add-one}
use Rattle.cpl.specs.Codes.{tag_of}
use Rattle.cpl.specs.Exprs.{item_tags}
use Rattle.cpl.specs.Limits.{max_tags}
use Rattle.cpl.specs.Plan.{Item, item_expr, item_pair, pair, nameless}
use Rattle.cpl.specs.Tests.{any_b, sum_of}
use Rattle.rules.specs.Merge.{drops_child, held, merge_step, occurs_in, pushes, replace_item, uses_none, stops}
use Rattle.rules.specs.Rewrite.{too_long}
use Rattle.rules.proofs.Held.{held_items}
use Rattle.arena.specs.Cells.{Wf, expr_at}
use Rattle.arena.specs.Rows.{RowIs, RowOk, item_at, items_at}
use Rattle.arena.proofs.Laws.{here}
use Rattle.arena.proofs.Rows.{read_expr_lem, tags_le}
use Rattle.arena.proofs.Same.{items-length}
use Rattle.arena_build.specs.Lists.{Listing, ListRefused, nodes_of}
use Rattle.arena_build.proofs.Defs.{item-pair}
use Rattle.arena_build.proofs.Items.{tags-within}
use Rattle.merge.specs.Step.{Reads, pushes_tag}

-- ── held ────────────────────────────────────────────────────────────────────────────────────

-- a question to each item of a list, by its rows' numbers
any_rows : (g : Item → Bool) (s cells : List ℕ) (f n : ℕ) → list_any (λ i. g (item_at s cells i)) (range_with_len f n) ≡ any_b g (items_at s cells f n)
unfolding items_at any_b
any_rows g s cells f zero = refl
any_rows g s cells f (suc n) = rw add-one (ap (g (item_at s cells f) ||◌) (any_rows g s cells (suc f) n))

-- some item stops the merge
pub any_held : (m : ℕ) (js : List Item) (s cells : List ℕ) (f n : ℕ) → Reads js (items_at s cells f n)
    → list_any (λ i. stops m js (item_at s cells i)) (range_with_len f n) ≡ held m js (items_at s cells f n)
any_held m js s cells f n r = any_rows (stops m js) s cells f n ∙ sym (held_items m js (items_at s cells f n) r.clear r.resolved)

and_no : (a : Bool) → a && false ≡ false
and_no true = refl
and_no false = refl

and_yes : (a : Bool) → a && true ≡ a
and_yes true = refl
and_yes false = refl

-- the tests of the code are the rule's
module _ {s cells : List ℕ} {i q n mark root : ℕ} (m : ℕ) (js : List Item) (e : RowIs s i q n mark root) (o : RowOk s cells i) where
  item_is : item_pair (item_at s cells i) ≡ pair q n
  item_is = item-pair s cells i ∙ sym e.pair_is

  free_is : {tag : ℕ} {free : Bool} → tag ≡ tag_of (expr_at cells root) → free ≡ pushes_tag m tag → pushes m (item_expr (item_at s cells i)) ≡ free
  unfolding pushes
  free_is t g = ap (λ x. eqb (m / 2 ^ tag_of x % 2) 1) (read_expr_lem cells e o) ∙ ap (λ x. eqb (m / 2 ^ x % 2) 1) (sym t) ∙ sym g

  -- is its pair, or its name alone, written more than once?
  abbrev twice : Bool
  twice = ltb 1 (occurs_in (item_pair (item_at s cells i)) js) || ltb 1 (occurs_in (nameless (item_pair (item_at s cells i))) js)

  module _ {tag : ℕ} {free : Bool} (t : tag ≡ tag_of (expr_at cells root)) (g : free ≡ pushes_tag m tag) where
    pub stops_free : free ≡ true → false ≡ stops m js (item_at s cells i)
    stops_free h = sym (ap (λ x. twice && not x) (free_is t g ∙ h) ∙ and_no twice)

    pub stops-is : free ≡ false → {own name : ℕ} → own ≡ occurs_in (pair q n) js → name ≡ occurs_in (pair 0 n) js → ltb 1 own || ltb 1 name ≡ stops m js (item_at s cells i)
    stops-is h u v =
        ap₂ (λ x y. ltb 1 x || ltb 1 y) (u ∙ sym (ap (λ c. occurs_in c js) item_is)) (v ∙ sym (ap (λ c. occurs_in (nameless c) js) item_is))
        ∙ sym (ap (λ x. twice && not x) (free_is t g ∙ h) ∙ and_yes twice)

-- ── the step ────────────────────────────────────────────────────────────────────────────────

module _ (house : Bool) (m : ℕ) (js is : List Item) where
  pub step_same : drops_child house js is ≡ true → merge_step house m js is ≡ some js
  unfolding merge_step
  step_same e = rw e

  module _ (d : drops_child house js is ≡ false) where
    pub step-held : held m js is ≡ true → merge_step house m js is ≡ none
    unfolding merge_step
    step-held e = rw (d, e)

    module _ (h : held m js is ≡ false) where
      pub step-none : uses_none js ≡ true → merge_step house m js is ≡ none
      unfolding merge_step
      step-none e = rw (d, h, e)

      pub step_put : uses_none js ≡ false → merge_step house m js is ≡ some (map (replace_item is) js)
      unfolding merge_step
      step_put e = rw (d, h, e)

-- a list with more tags than fit
pub too_long_lem : (ks : List Item) → max_tags < sum_of item_tags ks → too_long ks ≡ true
unfolding too_long
too_long_lem ks h = lt-ltb max_tags (sum_of item_tags ks) h

pub nodes-within : (ks : List Item) → nodes_of ks ≤ sum_of item_tags ks
unfolding nodes_of sum_of
nodes-within [] = omega arith
nodes-within (k ∷ ks) = let h = tags_le k in let t = nodes-within ks in omega arith

module _ {ks : List Item} {rows cells rows' cells' : List ℕ} where
  -- no room in the nodes is too many tags
  pub over-nodes : max_tags * 3 ≤ length cells → ListRefused ks 0 rows cells 0 rows' cells' → max_tags < sum_of item_tags ks
  over-nodes l o = omega (arith, o.tight, nodes-within ks)

  pub listed_small : {n more : ℕ} → length cells ≤ 196608 → n ≤ 512 → Listing ks 0 n rows cells 0 more rows' cells' → sum_of item_tags (items_at rows' cells' 0 n) < 4294967296
  listed_small {n} {more} l h o =
      rw o.means (omega (arith, tags-within ks, o.grown, ap length o.means, items-length rows' cells' 0 n, fits))
    where
      fits : more ≤ 65536
      fits = below more o.wf o.kept.long
        where
          below : (k : ℕ) → Wf cells' k → length cells' ≡ length cells → k ≤ 65536
          below Prim.Native.Nat.zero w e = omega arith
          below (Prim.Native.Nat.suc k) w e = omega (arith, (here cells' k (subst (Wf cells') (omega arith) w)).inside)
