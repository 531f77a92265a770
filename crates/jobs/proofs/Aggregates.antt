-- Aggregate: the groups that stay by the input's key, the aggregates at the request. Assumes nothing.
use mathlib.Core.Path.{◌≡◌, refl, sym, ap, ap₂, subst, ◌∙◌}
use mathlib.Core.Bool.{true, false}
use mathlib.Core.List.{List, [], ◌∷◌, ◌++◌, map}
use mathlib.Core.Option.{Option}
use Prim.Native.Nat.{ℕ, ◌+◌, ◌-◌, ◌*◌, ◌/◌, ◌%◌, ◌^◌, ◌<◌, ◌≤◌}
use native.Mathlib.Omega.{arith}
use borrow.Author.Tests.{eqb-true, eqb-false}
use lib.Bits.{bit_or}
use lib.Dec.{eqb}
use lib.ListN.{drop, length, length-append, length-map, take}
use lib.Seq.{drop-append_seam, take-append_seam}
use Rattle.cpl.specs.Exprs.{agg_exprs, unary_exprs}
use Rattle.cpl.specs.Fields.{unary_fields}
use Rattle.cpl.specs.Lists.{Fit, ◌z∷◌}
use Rattle.cpl.specs.Plan.{Agg, Catalogue, Item, Pair, agg_pair, aggregate, item_expr, item_pair, unary}
use Rattle.cpl.specs.Tests.{concat_map}
use Rattle.cpl.proofs.Lists.{Fit_++, Fit-length, Fit-map, Fit-sym, Fit_trans}
use Rattle.rules.specs.Keys.{kept_groups, places_of}
use Rattle.rules.specs.Mask.{Mask, count_m, select}
use Rattle.rules.specs.Rules as rules
use Rattle.rules.specs.Rules.{aggregate_job, unary_job, used}
use Rattle.rules.proofs.Asked.{aggregate-fields, groups_fit, groups_keep, places-fit, used-fit}
use Rattle.rules.proofs.Masks.{LeM_fit, length-select}
use Rattle.required_indices.specs.Request.{Asks, Holds, flag_of, request_mask, set_of, words_n}
use Rattle.required_indices.specs.Set.{set_mask}
use Rattle.required_indices.specs.declared.RequiredIndices.{RequiredIndices}
use Rattle.required_indices.proofs.Masks.{mask_below, mask_ext, mask-rest}
use Rattle.required_indices.proofs.Members.{has_mod}
use Rattle.required_indices.proofs.Methods.{below-asks, empty-mask, follow_asks, follow_fits, rest-asks}
use Rattle.key_sets.specs.Slots.{KeySet}
use Rattle.node_keys.specs.Keys.{KeptGroups}
use Rattle.requests.specs.Asked.{Adds}
use Rattle.requests.proofs.Adding.{adds_alone, adds_then}
use Rattle.result.specs.Result.{nothing_left, unary_part}
use Rattle.jobs.specs.Job.{InputIs, NothingIs, Posed}
use Rattle.jobs.specs.declared.Todo.TheVariants as todos
use Rattle.jobs.specs.declared.Rest.TheVariants as rests
use Rattle.jobs.proofs.Plain.{asks-mask, job}

-- ── which job it is ─────────────────────────────────────────────────────────────────────────

none_left : (gs : List Item) (ws : List Agg) (fs : List Pair) (K : Mask) → length gs + length ws ≡ 0 → aggregate_job gs ws fs K ≡ rules.done nothing_left K
unfolding aggregate_job
none_left [] [] fs K e = refl
none_left [] (w ∷ ws) fs K e = absurd (omega arith)
none_left (g ∷ gs) ws fs K e = absurd (omega arith)

some_left : (gs : List Item) (ws : List Agg) (fs : List Pair) (K : Mask) → (length gs + length ws ≡ 0 → ⊥)
    → aggregate_job gs ws fs K ≡ rules.ask false (used (unary_exprs (aggregate gs ws)) fs) true (unary (aggregate gs ws)) (λ L. K)
unfolding aggregate_job
some_left [] [] fs K e = absurd (e (omega arith))
some_left [] (w ∷ ws) fs K e = refl
some_left (g ∷ gs) ws fs K e = refl

-- ── the masks ───────────────────────────────────────────────────────────────────────────────

drop_groups : (gs : List Item) (ys : List Pair) {R : Mask} → Fit R (map item_pair gs ++ ys) → Fit (drop (length gs) R) ys
drop_groups [] ys h = h
drop_groups (g ∷ gs) ys (_ z∷ hs) = drop_groups gs ys hs

-- the first k fields of a set, and those behind them
module _ {r : RequiredIndices} (G A : Mask) (k m : ℕ) (a : Asks r (G ++ A)) (ek : length G ≡ k) (em : length A ≡ m) where
  long-both : length (G ++ A) ≡ k + m
  long-both = length-append G A ∙ ap₂ ◌+◌ ek em

  whole : set_mask (k + m) (set_of r) ≡ G ++ A
  whole = asks-mask a long-both

  pub front_mask : set_mask k (set_of r) ≡ G
  front_mask =
      sym (mask_ext k (set_of r % 2 ^ k) (set_of r) (λ i l. has_mod (set_of r) k i l)) ∙ mask_below k (k + m) (set_of r) (omega arith) ∙ ap₂ take (sym ek) whole ∙ take-append_seam G A

  pub back_mask : set_mask m (set_of r / 2 ^ k) ≡ A
  back_mask =
      let e : (k + m) - k ≡ m = omega arith in
      ap (λ (x : ℕ). set_mask x (set_of r / 2 ^ k)) (sym e) ∙ mask-rest k (k + m) (set_of r) (omega arith) ∙ ap₂ drop (sym ek) whole ∙ drop-append_seam G A

-- what is taken of a request: the groups' part and the aggregates', the groups that stay by the key, these and the aggregates
pub record Taken (n : ℕ) (ps : List (Option ℕ)) (r key asked set own kept : RequiredIndices) : Type 0 where
  pub asked_is : Holds asked (set_of r % 2 ^ n) (flag_of r)
  pub set_is : Holds set (set_of r / 2 ^ n) (flag_of r)
  pub own_are : KeptGroups key asked ps own
  pub kept_is : Holds kept (bit_or (set_of own) (set_of set * 2 ^ n)) (flag_of own)

module _ (gs : List Item) (vs : List Agg) {n : ℕ} {fs : List Pair} {r set : RequiredIndices} {R : Mask} (en : n ≡ length gs) (s : Holds set (set_of r / 2 ^ n) (flag_of r))
    (p : Posed (aggregate gs vs) fs r R) where
  abbrev A : Mask
  A = drop (length gs) R

  own-fit : Fit R (map item_pair gs ++ map agg_pair vs)
  unfolding unary_fields
  own-fit = p.fit

  rest-fit : Fit A vs
  rest-fit = Fit_trans (drop_groups gs (map agg_pair vs) own-fit) (Fit-map agg_pair vs)

  own-long : length R ≡ length gs + length vs
  own-long = Fit-length own-fit ∙ length-append (map item_pair gs) (map agg_pair vs) ∙ ap₂ ◌+◌ (length-map gs item_pair) (length-map vs agg_pair)

  set-asks : Asks set A
  set-asks = subst (λ x. Asks set (drop x R)) en (rest-asks n p.asks (omega (arith, own-long)) s)

  -- what `kept_groups` and `followed_by` require
  pub groups_few : n ≤ words_n * 64
  unfolding unary_fields
  groups_few = omega (arith, own-long, Fit-length own-fit, p.few)

  pub kept-fits : set_of set * 2 ^ n < 2 ^ (words_n * 64)
  unfolding unary_fields
  kept-fits = follow_fits n set-asks (omega (arith, Fit-length rest-fit, own-long, Fit-length own-fit, p.few))

module _ (gs : List Item) (vs : List Agg) {n : ℕ} {fs : List Pair} {r key asked set own kept : RequiredIndices} {R : Mask} (en : n ≡ length gs)
    (t : Taken n (places_of fs gs) r key asked set own kept) (p : Posed (aggregate gs vs) fs r R) (ks : List ℕ) (k : KeySet (set_of key) ks) where
  abbrev R₀ : Mask
  R₀ = take (length gs) R

  abbrev G : Mask
  G = kept_groups ks (places_of fs gs) R₀

  abbrev A' : Mask
  A' = drop (length gs) R

  abbrev K : Mask
  K = G ++ A'

  asked-fit : Fit R₀ gs
  asked-fit = groups_fit gs (map agg_pair vs) (own-fit gs vs en t.set_is p)

  group_fit : Fit G gs
  group_fit = LeM_fit (groups_keep ks (places_of fs gs) (places-fit fs asked-fit)) asked-fit

  agg-fit : Fit A' vs
  agg-fit = rest-fit gs vs en t.set_is p

  own-asks : Asks own G
  own-asks =
      t.own_are.is ks R₀ k (subst (λ x. Asks asked (take x R)) en (below-asks n p.asks (omega (arith, own-long gs vs en t.set_is p)) t.asked_is))
      (Fit-length (places-fit fs asked-fit))

  kept-asks : Asks kept K
  kept-asks = follow_asks n own-asks (set-asks gs vs en t.set_is p) (en ∙ sym (Fit-length group_fit)) t.kept_is

  -- as many fields are kept as groups and aggregates are left
  count_kept : count_m K ≡ length (select G gs) + length (select A' vs)
  count_kept =
      sym (length-select (Fit_++ (Fit_trans group_fit (Fit-sym (Fit-map item_pair gs))) (Fit_trans agg-fit (Fit-sym (Fit-map agg_pair vs)))))
      ∙ ap length (sym (aggregate-fields group_fit A' vs))
      ∙ length-append (map item_pair (select G gs)) (map agg_pair (select A' vs))
      ∙ ap₂ ◌+◌ (length-map (select G gs) item_pair) (length-map (select A' vs) agg_pair)

  pub nothing_is : (C : Catalogue) (none : RequiredIndices) → eqb (set_of kept) 0 ≡ true → NothingIs C (aggregate gs vs) ks fs (flag_of r) R (job todos.Nothing rests.Own none none kept kept)
  unfolding unary_job
  nothing_is C none e = record {
    K = K;
    job = none_left (select G gs) (select A' vs) fs K (sym count_kept ∙ eqb-true (count_m K) 0 (sym (empty-mask kept-asks) ∙ e));
    kept = kept-asks;
  }

  pub aggregate-is : (C : Catalogue) {m : ℕ} {none by q : RequiredIndices} → m ≡ length vs → eqb (set_of kept) 0 ≡ false → Holds none 0 false
      → Adds (map item_expr (select (request_mask n own) gs)) fs none by → Adds (concat_map agg_exprs (select (request_mask m set) vs)) fs by q
      → InputIs C (aggregate gs vs) ks fs (flag_of r) R true (unary (unary_part (set_of kept) (aggregate gs vs))) (job (todos.One true) rests.Own q none kept kept)
  unfolding unary_job unary_exprs unary_part
  aggregate-is C {m} {none} {by} {q} em e n₀ d₁ d₂ =
      let gl = Fit-length group_fit in
      let al = Fit-length agg-fit in
      let es = map item_expr (select G gs) ++ concat_map agg_exprs (select A' vs) in
      let d : Adds es fs none q =
      adds_then (map item_expr (select G gs)) (concat_map agg_exprs (select A' vs))
      (subst (λ M. Adds (map item_expr (select M gs)) fs none by) (asks-mask own-asks (gl ∙ sym en)) d₁)
      (subst (λ M. Adds (concat_map agg_exprs (select M vs)) fs by q) (asks-mask (set-asks gs vs en t.set_is p) (al ∙ sym em)) d₂) in
      record {
        Q = used es fs;
        left = λ L. K;
        job =
            some_left (select G gs) (select A' vs) fs K (λ z. eqb-false (count_m K) 0 (sym (empty-mask kept-asks) ∙ e) (count_kept ∙ z))
            ∙ ap (λ x. rules.ask x (used es fs) true (unary (aggregate (select G gs) (select A' vs))) (λ L. K)) (sym (d.flag ∙ n₀.flag))
            ∙ ap₂ (λ M N. rules.ask (flag_of q) (used es fs) true (unary (aggregate (select M gs) (select N vs))) (λ L. K))
            (sym (front_mask G A' (length gs) (length vs) kept-asks gl al)) (sym (back_mask G A' (length gs) (length vs) kept-asks gl al));
        asks = adds_alone es fs n₀ d;
        fit = used-fit es fs;
        set = subst (λ x. set_of kept < 2 ^ x) (long-both G A' (length gs) (length vs) kept-asks gl al) kept-asks.within;
        rest = record { L = K; asks = kept-asks; is = λ L. refl };
      }
