-- Each kind of node with one input: the rule keeps the fields, and its result is accepted and can be written.
use mathlib.Core.Path.{◌≡◌, refl, sym, ◌∙◌, ap, ap₂, subst, subst⁻¹}
use mathlib.Core.List.{List, [], ◌∷◌, ◌++◌, map, append-nil}
use mathlib.Core.Bool.{Bool, true, false, cond}
use Prim.Native.Nat.{ℕ, ◌+◌, ◌<◌}
use native.Mathlib.Omega.{arith}
use lib.Dec.{T}
use lib.ListN.{length, take, drop}
use Rattle.cpl.specs.Tests.{all_b, concat_map}
use Rattle.cpl.specs.Lists.{All, a[], Fit}
use Rattle.cpl.specs.Plan.{Pair, eq_p, Expr, Item, bare, named, Agg, Win, Unary, projection, filter, sort, limit, aggregate, window, subquery_alias, distinct, Plan, unary, Catalogue, item_pair, item_expr, key_expr, agg_pair, win_pair}
use Rattle.cpl.specs.Exprs.{leaf_exprs, agg_exprs, win_exprs, unary_exprs}
use Rattle.cpl.specs.Accept.{each_passes}
use Rattle.cpl.specs.Fields.{leaf_fields, unary_fields, requalify, fields_of}
use Rattle.cpl.specs.Writable.{FitList, FitItem, FitAgg, FitWin, FitLeaf, FitUnary, FitPlan}
use Rattle.cpl.specs.Accepted.{n[], Resolved, Accepted}
use Rattle.cpl.proofs.Bools.{halves}
use Rattle.cpl.proofs.Lists.{All_left, All_right, All_++, Fit-map, Fit_trans, take-fit}
use Rattle.cpl.proofs.Pairs.{eq_p_eq}
use Rattle.cpl.proofs.Versions.{Sound}
use Rattle.cpl.proofs.Accepted.{Sees, each_sees, all_see}
use Rattle.rules.specs.Mask.{Mask, select, ones, LeM}
use Rattle.rules.specs.Keys.{places_of}
use Rattle.rules.specs.Rules.{used, plus, same_columns, over_child, ask, projection_job, aggregate_job, window_job, unary_job}
use Rattle.rules.specs.Rewrite.{Walked, Go, input, run_job}
use Rattle.rules.specs.Items.{FieldsOk}
use Rattle.rules.proofs.Masks.{LeM_refl, LeM_trans, LeM_fit, LeM_parts, fit-ones, select-map, select_short, All_select}
use Rattle.rules.proofs.Asked.{used-fit, plus-fit, plus_cov, plus-keeps, groups_fit, places-fit, groups_keep, aggregate-fields, window-fields}
use Rattle.rules.proofs.Covers.{used_cov}
use Rattle.rules.proofs.Known.{resolved-select, bare-fields, clear-select}
use Rattle.rules.proofs.Inputs.{Result, Good, Input, topped, as_it_is}

-- ── a node over a rewritten input ───────────────────────────────────────────────────────────

-- the node h' over an input with the fields fs at K stands for the old node h, whose fields are left at L
module _ (C : Catalogue) {fs : List Pair} (h h' : Unary) (own : FieldsOk C.version (unary_fields h fs)) {K : Mask} (L : Mask) {p' : Plan} (i : Input C fs K p')
    (same : unary_fields h' (select K fs) ≡ select L (unary_fields h fs)) where
  node-fields : unary_fields h' (fields_of C p') ≡ select L (unary_fields h fs)
  node-fields = ap (unary_fields h') i.fields ∙ same

  pub node : {R : Mask} (overlong : Bool) → LeM R L → Resolved (each_passes (unary_exprs h') (select K fs)) → FitUnary C.version h'
      → Result C (unary_fields h fs) R (record { plan = unary h' p'; kept = L; overlong = overlong })
  unfolding fields_of Accepted FitPlan
  node o k t f =
      record {
        kept = record { keeps = k; fields = node-fields };
        accepted = (
          i.accepted,
          record {
            resolved = subst⁻¹ (λ gs. Resolved (each_passes (unary_exprs h') gs)) i.fields t;
            as_wide = tt;
            few = rw node-fields (let s = select_short L (unary_fields h fs) in let m = own.few in omega arith);
            distinct = rw node-fields (clear-select L own.distinct);
          },
        );
        fit = (f, i.fit);
      }

-- ── parts of lists ──────────────────────────────────────────────────────────────────────────

pub concat_select : {A B : Type 0} {P : B → Type 0} (f : A → List B) (K : Mask) (xs : List A) → All P (concat_map f xs) → All P (concat_map f (select K xs))
unfolding concat_map select
concat_select f [] xs h = a[]
concat_select f (k ∷ K) [] h = a[]
concat_select f (true ∷ K) (x ∷ xs) h = All_++ (All_left (f x) (concat_map f xs) h) (concat_select f K xs (All_right (f x) (concat_map f xs) h))
concat_select f (false ∷ K) (x ∷ xs) h = concat_select f K xs (All_right (f x) (concat_map f xs) h)

fit-select : {A : Type 0} (P : A → Type 0) (most : ℕ) (K : Mask) (xs : List A) → FitList P most xs → FitList P most (select K xs)
unfolding FitList
fit-select P most K xs h = (let s = select_short K xs in let m = h.0 in omega arith, All_select K h.1)

-- the columns used are kept, and found
used-resolved : (es : List Expr) (fs : List Pair) {K : Mask} → LeM (used es fs) K → Resolved (each_passes es fs) → Resolved (each_passes es (select K fs))
used-resolved es fs l t = resolved-select es (used_cov es fs l) t

plus-resolved : (es : List Expr) {fs : List Pair} {R : Mask} → Fit R fs → Resolved (each_passes es fs) → Resolved (each_passes es (select (plus es fs R) fs))
plus-resolved es f t = resolved-select es (plus_cov es f (LeM_refl _)) t

-- ── Projection ──────────────────────────────────────────────────────────────────────────────

pub same-columns : (is : List Item) (fs : List Pair) → T (same_columns is fs) → is ≡ map bare fs
unfolding same_columns
same-columns [] [] t = refl
same-columns [] (f ∷ fs) t = absurd t
same-columns (bare c ∷ is) [] t = absurd t
same-columns (named c e ∷ is) [] t = absurd t
same-columns (bare c ∷ is) (f ∷ fs) t = let h = halves (eq_p c f) (same_columns is fs) t in ap₂ (λ c js. bare c ∷ js) (eq_p_eq c f h.0) (same-columns is fs h.1)
same-columns (named c e ∷ is) (f ∷ fs) t = absurd t

selected_resolved : (R : Mask) (is : List Item) (fs : List Pair) → Resolved (each_passes (map item_expr is) fs) → Resolved (each_passes (map item_expr (select R is)) fs)
selected_resolved R is fs t = all_see fs (subst (All (Sees fs)) (select-map item_expr R is) (All_select R (each_sees (map item_expr is) fs t)))

module _ (C : Catalogue) (is : List Item) {fs : List Pair} (resolved-items : Resolved (each_passes (map item_expr is) fs)) (own : FieldsOk C.version (map item_pair is)) (few : FitList FitItem C.version.max_items is)
    (go : Go) (g : Good C fs go) (R : Mask) (f : Fit R (map item_pair is)) where
  pub projection_good : Result C (map item_pair is) R (run_job C fs (projection_job C is fs R) go)
  unfolding projection_job run_job input over_child unary_fields unary_exprs FitUnary fields_of
  projection_good = choose (same_columns js (fields_of C w.plan)) (λ t. t)
    where
      js : List Item
      js = select R is

      Q : Mask
      Q = used (map item_expr js) fs

      w : Walked
      w = go false Q

      r : Result C fs Q w
      r = g false Q (used-fit (map item_expr js) fs)

      choose : (b : Bool) → (T b → T (same_columns js (fields_of C w.plan))) → Result C (map item_pair is) R (record { plan = cond b w.plan (unary (projection js) w.plan); kept = R; overlong = w.overlong })
      choose true t =
          let e = same-columns js (fields_of C w.plan) (t tt) in
          record {
            kept = record { keeps = LeM_refl R; fields = sym (select-map item_pair R is ∙ (ap (map item_pair) e ∙ bare-fields (fields_of C w.plan))) };
            accepted = r.accepted;
            fit = r.fit;
          }
      choose false t =
          node C (projection is) (projection js) own R (as_it_is C r) (sym (select-map item_pair R is)) w.overlong (LeM_refl R)
          (used-resolved (map item_expr js) fs r.kept.keeps (selected_resolved R is fs resolved-items)) (fit-select FitItem _ R is few)

-- ── Aggregate ───────────────────────────────────────────────────────────────────────────────

-- G: the groups that are kept, A: the aggregates
module _ (C : Catalogue) (laws : Sound C.version) {fs : List Pair} (below : FieldsOk C.version fs) (gs : List Item) (vs : List Agg) (resolved-exprs : Resolved (each_passes (unary_exprs (aggregate gs vs)) fs))
    (own : FieldsOk C.version (unary_fields (aggregate gs vs) fs)) (fit : FitUnary C.version (aggregate gs vs)) (go : Go) (g : Good C fs go) {R G : Mask} (A : Mask) (f : Fit G gs) (keeps : LeM R (G ++ A)) where
  kept-resolved : Resolved (each_passes (unary_exprs (aggregate (select G gs) (select A vs))) fs)
  unfolding unary_exprs
  kept-resolved =
      let h = each_sees (map item_expr gs ++ concat_map agg_exprs vs) fs resolved-exprs in
      let k = All_left (map item_expr gs) (concat_map agg_exprs vs) h in
      all_see fs (All_++ (subst (All (Sees fs)) (select-map item_expr G gs) (All_select G k)) (concat_select agg_exprs A vs (All_right (map item_expr gs) (concat_map agg_exprs vs) h)))

  -- some group or aggregate is left
  some_left : (us : List Item) (ws : List Agg) → us ≡ select G gs → ws ≡ select A vs → 0 < length us + length ws
      → let Q = used (unary_exprs (aggregate us ws)) fs in
      Result C (unary_fields (aggregate gs vs) fs) R (run_job C fs (ask false Q true (unary (aggregate us ws)) (λ L. G ++ A)) go)
  unfolding run_job input unary_fields FitUnary
  some_left us ws d e m =
      let h = aggregate us ws in
      let Q = used (unary_exprs h) fs in
      let r = g false Q (used-fit (unary_exprs h) fs) in
      node C (aggregate gs vs) h own (G ++ A) (topped C laws below (used-fit (unary_exprs h) fs) r) (ap₂ (λ us ws. map item_pair us ++ map agg_pair ws) d e ∙ aggregate-fields f A vs) _ keeps
      (used-resolved (unary_exprs h) fs (LeM_refl Q) (rw (d, e) kept-resolved))
      (m, subst⁻¹ (FitList FitItem C.version.max_items) d (fit-select FitItem _ G gs fit.1), subst⁻¹ (FitList FitAgg C.version.max_items) e (fit-select FitAgg _ A vs fit.2))

  pub aggregate_good : Result C (unary_fields (aggregate gs vs) fs) R (run_job C fs (aggregate_job (select G gs) (select A vs) fs (G ++ A)) go)
  unfolding aggregate_job run_job unary_fields fields_of leaf_fields leaf_exprs all_b Accepted FitPlan FitLeaf FitList
  aggregate_good = cases (select G gs) (select A vs) refl refl
    where
      cases : (us : List Item) (ws : List Agg) → us ≡ select G gs → ws ≡ select A vs → Result C (unary_fields (aggregate gs vs) fs) R (run_job C fs (aggregate_job us ws fs (G ++ A)) go)
      cases [] [] d e =
          record {
            kept = record { keeps = keeps; fields = ap₂ (λ us ws. map item_pair us ++ map agg_pair ws) d e ∙ aggregate-fields f A vs };
            accepted = record { resolved = record { all_found = tt; all_definite = tt }; as_wide = tt; few = omega arith; distinct = n[] };
            fit = (omega arith, a[]);
          }
      cases [] (w ∷ ws) d e = some_left [] (w ∷ ws) d e (omega arith)
      cases (u ∷ us) ws d e = some_left (u ∷ us) ws d e (omega arith)

-- ── Window ──────────────────────────────────────────────────────────────────────────────────

module _ (C : Catalogue) (laws : Sound C.version) {fs : List Pair} (below : FieldsOk C.version fs) (ws : List Win) (resolved-exprs : Resolved (each_passes (unary_exprs (window ws)) fs))
    (own : FieldsOk C.version (unary_fields (window ws) fs)) (fit : FitUnary C.version (window ws)) (go : Go) (g : Good C fs go) (b : Bool) (R : Mask) (f : Fit R (unary_fields (window ws) fs)) where
  -- the pass-through part, and the windows' part
  abbrev R₀ : Mask
  R₀ = take (length fs) R

  abbrev S : Mask
  S = drop (length fs) R

  pass-fit : Fit R₀ fs
  unfolding unary_fields
  pass-fit = take-fit fs (map win_pair ws) f

  kept_windows : Resolved (each_passes (unary_exprs (window (select S ws))) fs)
  unfolding unary_exprs
  kept_windows = all_see fs (concat_select win_exprs S ws (each_sees (concat_map win_exprs ws) fs resolved-exprs))

  pub window_good : Result C (unary_fields (window ws) fs) R (run_job C fs (window_job (select S ws) fs b R₀ S) go)
  unfolding window_job run_job input unary_fields FitUnary
  window_good = cases (select S ws) refl
    where
      cases : (vs : List Win) → vs ≡ select S ws → Result C (unary_fields (window ws) fs) R (run_job C fs (window_job vs fs b R₀ S) go)
      cases [] e =
          let r = g b R₀ pass-fit in
          let k = LeM_fit r.kept.keeps pass-fit in
          record {
            kept = record {
              keeps = LeM_parts (length fs) R r.kept.keeps (LeM_refl S);
              fields = r.kept.fields ∙ (sym (append-nil _) ∙ (ap (λ us. select (go b R₀).kept fs ++ map win_pair us) e ∙ window-fields k S ws));
            };
            accepted = r.accepted;
            fit = r.fit;
          }
      cases (v ∷ vs) e =
          let es = unary_exprs (window (v ∷ vs)) in
          let Q = plus es fs R₀ in
          let r = g b Q (plus-fit es pass-fit) in
          node C (window ws) (window (v ∷ vs)) own (Q ++ S) (topped C laws below (plus-fit es pass-fit) r) (ap (λ us. select Q fs ++ map win_pair us) e ∙ window-fields (plus-fit es pass-fit) S ws) _
          (LeM_parts (length fs) R (plus-keeps es pass-fit (LeM_refl _)) (LeM_refl S)) (plus-resolved es pass-fit (subst⁻¹ (λ us. Resolved (each_passes (unary_exprs (window us)) fs)) e kept_windows))
          (omega arith, subst⁻¹ (FitList FitWin C.version.max_items) e (fit-select FitWin _ S ws fit.1))

-- ── every kind ──────────────────────────────────────────────────────────────────────────────

module _ (C : Catalogue) (laws : Sound C.version) (key : List ℕ) {fs : List Pair} (below : FieldsOk C.version fs) (go : Go) (g : Good C fs go) where
  pub unary_good : (h : Unary) → Resolved (each_passes (unary_exprs h) fs) → FieldsOk C.version (unary_fields h fs) → FitUnary C.version h → (b : Bool) (R : Mask) → Fit R (unary_fields h fs)
      → Result C (unary_fields h fs) R (run_job C fs (unary_job C h key fs b R) go)
  unfolding unary_job run_job input unary_fields unary_exprs all_b
  unary_good (projection is) k own fit b R f = projection_good C is k own (unfold FitUnary in fit) go g R f
  unary_good (filter e) k own fit b R f =
      let q = plus-fit (e ∷ []) f in
      node C (filter e) (filter e) own _ (topped C laws below q (g true _ q)) refl _ (plus-keeps (e ∷ []) f (LeM_refl _)) (plus-resolved (e ∷ []) f k) fit
  unary_good (sort ks) k own fit b R f =
      let es = map key_expr ks in
      let q = plus-fit es f in
      node C (sort ks) (sort ks) own _ (topped C laws below q (g true _ q)) refl _ (plus-keeps es f (LeM_refl _)) (plus-resolved es f k) fit
  unary_good (limit s n) k own fit true R f = node C (limit s n) (limit s n) own R (topped C laws below f (g true R f)) refl _ (LeM_refl R) (record { all_found = tt; all_definite = tt }) fit
  unary_good (limit s n) k own fit false R f = let r = g false R f in node C (limit s n) (limit s n) own _ (as_it_is C r) refl _ r.kept.keeps (record { all_found = tt; all_definite = tt }) fit
  unary_good (aggregate gs vs) k own fit b R f =
      let p = groups_fit gs (map agg_pair vs) f in
      let l = groups_keep key (places_of fs gs) (places-fit fs p) in
      aggregate_good C laws below gs vs k own fit go g (drop (length gs) R) (LeM_fit l p) (LeM_parts (length gs) R l (LeM_refl _))
  unary_good (window ws) k own fit b R f = window_good C laws below ws k own fit go g b R f
  unary_good (subquery_alias q) k own fit b R f =
      let i = Fit_trans f (Fit-map (requalify q) fs) in
      node C (subquery_alias q) (subquery_alias q) own R (topped C laws below i (g true R i)) (sym (select-map (requalify q) R fs)) _ (LeM_refl R) (record { all_found = tt; all_definite = tt }) fit
  unary_good distinct k own fit b R f =
      let r = g false (ones fs) (unfold ones in Fit-map (λ x. true) fs) in
      node C distinct distinct own _ (as_it_is C r) refl _ (LeM_trans (fit-ones f) r.kept.keeps) (record { all_found = tt; all_definite = tt }) fit
