-- Grouping rows that differ at the groups makes each row a group of its own, in input order. Where they still differ without some of the groups, those may go.
use mathlib.Core.Path.{◌≡◌, refl, sym, ◌∙◌, ap, subst, subst⁻¹}
use mathlib.Core.List.{List, [], ◌∷◌, ◌++◌, map, head-eq_of_cons-eq, tail-eq_of_cons-eq}
use mathlib.Core.Bool.{Bool, true, false, cond, not, ◌||◌}
use mathlib.Core.Option.{Option}
use Prim.Native.Nat.{ℕ, ◌<◌}
use native.Mathlib.Omega.{arith}
use lib.Dec.{T}
use lib.ListN.{length, get_or}
use Rattle.cpl.specs.Tests.{any_b, all_b}
use Rattle.cpl.specs.Lists.{All, a[], ◌a∷◌, z[], ◌z∷◌, Fit}
use Rattle.cpl.specs.Plan.{Pair, Expr, Item, Agg, item_expr}
use Rattle.cpl.proofs.Bools.{halves}
use Rattle.cpl.proofs.Lists.{All_map, All_both, All_mapped, all-T, T-all, map_cong, map_cong_a, map-map, fit_self, Fit-map, Fit_maps, Fit_trans, Fit-sym}
use Rattle.rules.specs.Mask.{Mask, select, or_m, ones, LeB}
use Rattle.rules.specs.Keys.{field_place, places_of, is_place, has_all, is_key_place, kept_groups}
use Rattle.rules.proofs.Masks.{LeB_left, LeB_right, LeB_trans, select-map, select-ones, select_++}
use Rattle.rules.proofs.Asked.{places-fit}
use Rattle.rules.proofs.Keys.{ones-places}
use Rattle.meaning.specs.Value.{missing, Row, same_row}
use Rattle.meaning.specs.Eval.{eval, eval_all}
use Rattle.meaning.specs.Lists.{filter_b, firsts}
use Rattle.meaning.specs.Operators.{group_keys, members, agg_value, group_row, aggregate_rows}
use Rattle.meaning.specs.Meaning.{row_at}
use Rattle.meaning.specs.Keyed.{Pairwise, p[], ◌p∷◌, Differ}
use Rattle.meaning.proofs.Same.{same_yes, same_no}
use Rattle.meaning.proofs.Pairwise.{Pairwise_sub}
use Rattle.meaning.proofs.KeyRows.{KeyOn, no_key, at_key, field-value}

-- ── lists of anything ───────────────────────────────────────────────────────────────────────

module _ {A : Type 0} where
  -- what passes the first test is still there, where all that pass the second are kept
  still_there : (p q : A → Bool) → ((x : A) → LeB (p x) (q x)) → {xs : List A} {R : Mask} → Fit R xs → T (any_b p xs) → T (any_b p (select (or_m R (map q xs)) xs))
  unfolding any_b select or_m
  still_there p q l z[] t = t
  still_there p q l (◌z∷◌ {x = r} {y = x} {xs = R} {ys = xs} _ f) t = go (r || q x) (LeB_trans (p x) (q x) (r || q x) (l x) (LeB_right r (q x))) (still_there p q l f)
    where
      later : Bool
      later = any_b p (select (or_m R (map q xs)) xs)

      here : (b : Bool) → T (b || any_b p xs) → (T (any_b p xs) → T later) → T (b || later)
      here true t ih = tt
      here false t ih = ih t

      past : (b : Bool) → LeB b false → T (b || any_b p xs) → (T (any_b p xs) → T later) → T later
      past true h t ih = absurd h
      past false h t ih = ih t

      go : (k : Bool) → LeB (p x) k → (T (any_b p xs) → T later) → T (any_b p (select (k ∷ or_m R (map q xs)) (x ∷ xs)))
      go true h ih = here (p x) t ih
      go false h ih = past (p x) h t ih

  filter-all : (p : A → Bool) {xs : List A} → All (λ x. p x ≡ true) xs → filter_b p xs ≡ xs
  unfolding filter_b
  filter-all p a[] = refl
  filter-all p (◌a∷◌ {x = x} h hs) = rw h (ap (x ∷◌) (filter-all p hs))

  filter_none : (p : A → Bool) {xs : List A} → All (λ x. p x ≡ false) xs → filter_b p xs ≡ []
  unfolding filter_b
  filter_none p a[] = refl
  filter_none p (h a∷ hs) = rw h (filter_none p hs)

-- ── rows that differ in g: their values at the groups ───────────────────────────────────────

module _ (g : Row → Row) where
  abbrev Apart : List Row → Type 0
  Apart rs = Pairwise (λ r s. ¬ (g r ≡ g s)) rs

  -- no group is met twice
  firsts_apart : {rs : List Row} → Apart rs → firsts same_row (map g rs) ≡ map g rs
  unfolding firsts
  firsts_apart p[] = refl
  firsts_apart (◌p∷◌ {x = r} {xs = rs} h hs) =
      ap (g r ∷◌) (ap (filter_b (λ y. not (same_row (g r) y))) (firsts_apart hs) ∙ filter-all (λ y. not (same_row (g r) y)) (All_mapped g (λ s n. ap not (same_no (g r) (g s) n)) h))

  -- no row has another beside it in its group
  alone : {rs : List Row} → Apart rs → All (λ r. filter_b (λ s. same_row (g s) (g r)) rs ≡ r ∷ []) rs
  unfolding filter_b
  alone p[] = a[]
  alone (◌p∷◌ {x = r} {xs = rs} h hs) =
      ◌a∷◌ {x = r} (rw (same_yes (g r)) (ap (r ∷◌) (filter_none (λ s. same_row (g s) (g r)) (All_map (λ s n. same_no (g s) (g r) (λ e. n (sym e))) h))))
      (All_map (λ s h. rw (same_no (g r) (g s) h.0) h.1) (All_both h (alone hs)))

-- ── Aggregate ───────────────────────────────────────────────────────────────────────────────

-- there are groups, and no two rows have the same values at them
pub record Lone (fs : List Pair) (rs : List Row) (groups : List Expr) : Type 0 where
  pub some : 0 < length groups
  pub apart : Pairwise (λ r s. ¬ (eval_all fs r groups ≡ eval_all fs s groups)) rs

module _ (fs : List Pair) {rs : List Row} where
  -- each row with its own aggregates
  lone_rows : (es : List Expr) (vs : List Agg) → Lone fs rs es → aggregate_rows es vs fs rs ≡ map (λ r. eval_all fs r es ++ map (agg_value fs (r ∷ [])) vs) rs
  unfolding aggregate_rows group_keys group_row members
  lone_rows [] vs l = absurd (omega (arith, l.some))
  lone_rows (e ∷ es) vs l =
      let g : Row → Row = λ r. eval_all fs r (e ∷ es) in
      ap (map (group_row (e ∷ es) vs fs rs)) (firsts_apart g l.apart)
      ∙ (map-map (group_row (e ∷ es) vs fs rs) g rs ∙ map_cong_a (All_map (λ r a. ap (λ ms. g r ++ map (agg_value fs ms) vs) a) (alone g l.apart)))

-- which groups may go: none, or some without which each row is still a group of its own
pub data Drops (fs : List Pair) (rs : List Row) (gs : List Item) (G : Mask) : Type 0 where
  all_stay : G ≡ ones gs → Drops fs rs gs G
  each_alone : Lone fs rs (map item_expr (select G gs)) → Lone fs rs (map item_expr gs) → Drops fs rs gs G

module _ (fs : List Pair) (gs : List Item) (A : Mask) where
  -- a row of a group of its own, without some groups and aggregates
  lone_row : {G : Mask} → Fit G gs → (r : Row) (ws : Row)
      → select (ones (map item_expr (select G gs)) ++ A) (eval_all fs r (map item_expr (select G gs)) ++ ws) ≡ select (G ++ A) (eval_all fs r (map item_expr gs) ++ ws)
  unfolding eval_all ones
  lone_row {G} f r ws =
      let us = map item_expr (select G gs) in
      let es = map item_expr gs in
      let fit = Fit_trans f (Fit-sym (Fit_trans (Fit-map (eval fs r) es) (Fit-map item_expr gs))) in
      select_++ (Fit_maps (λ e. true) (eval fs r) us) A ws
      ∙ (ap (◌++ select A ws) (select-ones (Fit-map (eval fs r) us) ∙ sym (select-map (eval fs r) G es ∙ ap (map (eval fs r)) (select-map item_expr G gs)))
      ∙ sym (select_++ fit A ws))

  -- the kept groups' rows are the old ones at the kept groups
  pub groups_select : (vs : List Agg) {rs : List Row} {G : Mask} → Fit G gs → Drops fs rs gs G
      → map (select (ones (map item_expr (select G gs)) ++ A)) (aggregate_rows (map item_expr (select G gs)) vs fs rs) ≡ map (select (G ++ A)) (aggregate_rows (map item_expr gs) vs fs rs)
  unfolding ones
  groups_select vs {rs} {G} f (all_stay e) =
      let es = map item_expr gs in
      subst⁻¹ (λ M. map (select (ones (map item_expr (select M gs)) ++ A)) (aggregate_rows (map item_expr (select M gs)) vs fs rs) ≡ map (select (M ++ A)) (aggregate_rows es vs fs rs)) e
      (ap (λ us. map (select (ones (map item_expr us) ++ A)) (aggregate_rows (map item_expr us) vs fs rs)) (select-ones (fit_self gs))
      ∙ ap (λ M. map (select (M ++ A)) (aggregate_rows es vs fs rs)) (map-map (λ e. true) item_expr gs))
  groups_select vs {rs} {G} f (each_alone l k) =
      let us = map item_expr (select G gs) in
      let es = map item_expr gs in
      ap (map (select (ones us ++ A))) (lone_rows fs us vs l)
      ∙ (map-map (select (ones us ++ A)) _ rs
      ∙ (map_cong (λ r. lone_row f r (map (agg_value fs (r ∷ [])) vs)) rs
      ∙ sym (ap (map (select (G ++ A))) (lone_rows fs es vs k) ∙ map-map (select (G ++ A)) _ rs)))

-- ── the groups that a key keeps ─────────────────────────────────────────────────────────────

-- each of several tests passes less than all together
each-any : {A : Type 0} (q : ℕ → A → Bool) (key : List ℕ) → All (λ k. (x : A) → LeB (q k x) (any_b (λ j. q j x) key)) key
unfolding any_b
each-any q [] = a[]
each-any q (k ∷ ks) =
    (λ x. LeB_left (q k x) (any_b (λ j. q j x) ks)) a∷ All_map (λ j h x. LeB_trans (q j x) (any_b (λ j. q j x) ks) _ (h x) (LeB_right (q k x) (any_b (λ j. q j x) ks))) (each-any q ks)

module _ (fs : List Pair) where
  -- rows with the same values at groups of which one is a field have the same value in the field
  column-same : (k : ℕ) (us : List Item) → T (any_b (is_place k) (places_of fs us)) → (r s : Row) → eval_all fs r (map item_expr us) ≡ eval_all fs s (map item_expr us) → get_or r k missing ≡ get_or s k missing
  unfolding any_b eval_all places_of
  column-same k [] t r s q = absurd t
  column-same k (u ∷ us) t r s q = go (is_place k (field_place fs (item_expr u))) (λ b. b) (λ t. column-same k us t r s (tail-eq_of_cons-eq q)) t
    where
      go : (b : Bool) → (T b → T (is_place k (field_place fs (item_expr u)))) → (T (any_b (is_place k) (places_of fs us)) → get_or r k missing ≡ get_or s k missing) → T (b || any_b (is_place k) (places_of fs us))
          → get_or r k missing ≡ get_or s k missing
      go true b ih t = sym (field-value fs k (item_expr u) r (b tt)) ∙ (head-eq_of_cons-eq q ∙ field-value fs k (item_expr u) s (b tt))
      go false b ih t = ih t

  any_some : (k : ℕ) (us : List Item) → T (any_b (is_place k) (places_of fs us)) → 0 < length (map item_expr us)
  unfolding any_b places_of
  any_some k [] t = absurd t
  any_some k (u ∷ us) t = omega arith

  -- groups that have the whole key
  lone_key : (k : ℕ) (ks : List ℕ) {rs : List Row} → Pairwise (Differ (k ∷ ks)) rs → (us : List Item) → T (has_all (k ∷ ks) (places_of fs us)) → Lone fs rs (map item_expr us)
  unfolding has_all all_b row_at
  lone_key k ks d us t =
      record {
        some = any_some k us (halves (any_b (is_place k) (places_of fs us)) (all_b (λ j. any_b (is_place j) (places_of fs us)) ks) t).0;
        apart = Pairwise_sub (λ r s n e. n (map_cong_a (All_map (λ j h. column-same j us h r s e) (all-T (λ j. any_b (is_place j) (places_of fs us)) (k ∷ ks) t)))) d;
      }

  -- the key's columns are among the groups that stay
  kept-has : (key : List ℕ) {ps : List (Option ℕ)} {R : Mask} → Fit R ps → T (has_all key ps) → T (has_all key (select (or_m R (map (is_key_place key) ps)) ps))
  unfolding has_all is_key_place
  kept-has key {ps} f t =
      T-all _ (All_map (λ k h. still_there (is_place k) (λ p. any_b (λ j. is_place j p) key) h.0 f h.1) (All_both (each-any is_place key) (all-T (λ k. any_b (is_place k) ps) key t)))

  pub kept_drops : {key : List ℕ} {rs : List Row} → KeyOn rs key → (gs : List Item) {R : Mask} → Fit R gs → Drops fs rs gs (kept_groups key (places_of fs gs) R)
  unfolding kept_groups
  kept_drops no_key gs f = all_stay (ones-places fs gs)
  kept_drops {rs = rs} (at_key {k = k} {ks = ks} d) gs {R} f = go (has_all (k ∷ ks) (places_of fs gs)) (λ t. t)
    where
      G : Mask
      G = or_m R (map (is_key_place (k ∷ ks)) (places_of fs gs))

      -- the places of the groups that stay
      places : select G (places_of fs gs) ≡ places_of fs (select G gs)
      places = unfold places_of in select-map _ G gs

      go : (b : Bool) → (T b → T (has_all (k ∷ ks) (places_of fs gs))) → Drops fs rs gs (cond b G (ones (places_of fs gs)))
      go true t = each_alone (lone_key k ks d _ (subst (λ ps. T (has_all (k ∷ ks) ps)) places (kept-has (k ∷ ks) (places-fit fs f) (t tt)))) (lone_key k ks d gs (t tt))
      go false t = all_stay (ones-places fs gs)
