-- Each kind of node with one input or none: where the rewritten input is the old one narrowed, the rewritten node is the old node narrowed.
use mathlib.Core.Path.{◌≡◌, refl, sym, ◌∙◌, ap, ap₂, subst, subst⁻¹}
use mathlib.Core.List.{List, [], ◌∷◌, ◌++◌, map, append-nil}
use mathlib.Core.Bool.{Bool, true, false}
use Prim.Native.Nat.{ℕ}
use lib.ListN.{length, take, drop, get_or}
use Rattle.cpl.specs.Tests.{concat_map}
use Rattle.cpl.specs.Lists.{a[], Fit}
use Rattle.cpl.specs.Plan.{Pair, Item, Agg, Win, Leaf, scan, empty, Unary, projection, filter, sort, limit, aggregate, window, subquery_alias, distinct, Plan, leaf, unary, Catalogue, names_of, item_pair, item_expr, key_expr, agg_pair, win_pair}
use Rattle.cpl.specs.Exprs.{agg_exprs, win_exprs, unary_exprs}
use Rattle.cpl.specs.Fields.{columns_of, scan_field, leaf_fields, requalify, unary_fields, fields_of}
use Rattle.cpl.specs.Accepted.{Clear}
use Rattle.cpl.proofs.Lists.{All_mapped, map_cong, map-map, Fit-map, fit_self, Fit_trans, take-fit}
use Rattle.rules.specs.Mask.{Mask, select, ones, LeM}
use Rattle.rules.specs.Keys.{places_of}
use Rattle.rules.specs.Rules.{used, leaf_rule, leaf_kept, Job, done, ask, projection_job, aggregate_job, window_job, unary_job}
use Rattle.rules.proofs.Masks.{LeM_refl, LeM_trans, LeM_parts, LeM_fit, fit-ones, ones_le, Fit-select, select-map, select-ones}
use Rattle.rules.proofs.Asked.{used-fit, plus-fit, plus_cov, plus-keeps, groups_fit, places-fit, groups_keep, aggregate-fields, window-fields}
use Rattle.rules.proofs.Covers.{Cov, used_cov, used-head, used-left, used-right}
use Rattle.rules.proofs.Known.{clear-select}
use Rattle.meaning.specs.Value.{missing, Row, Log, yes?, same_row}
use Rattle.meaning.specs.Lists.{firsts}
use Rattle.meaning.specs.Operators.{projection_rows, group_keys, group_row, aggregate_rows, window_rows, unary_rows}
use Rattle.meaning.specs.Joins.{missings}
use Rattle.meaning.specs.Meaning.{scan_rows, row_at, empty_rows, leaf_rows, meaning}
use Rattle.meaning.proofs.Commute.{filter_map, sort-map, page-map, eval-select, before-select}
use Rattle.meaning.proofs.Wide.{WideRows, All_firsts, leaf-wide}
use Rattle.meaning.proofs.KeyRows.{KeyOn}
use Rattle.meaning.proofs.Groups.{aggregate-select, window-select, window-none}
use Rattle.meaning.proofs.LoneGroups.{Drops, groups_select, kept_drops}
use Rattle.meaning.proofs.Columns.{ones-rows, projection-select, over_child_lem}

-- a plan that has the fields fs and the rows rs, narrowed to K, which keeps R
pub record Narrowed (C : Catalogue) (D : Log) (fs : List Pair) (rs : List Row) (R K : Mask) (p' : Plan) : Type 0 where
  pub keeps : LeM R K
  pub fields : fields_of C p' ≡ select K fs
  pub rows : meaning C D p' ≡ map (select K) rs

-- what a job does, over an input with the fields fs and the rows rs, for a node with the fields gs and the rows qs that is asked with R
unfoldable pub JobNarrows : Catalogue → Log → List Pair → List Row → (R : Mask) (gs : List Pair) (qs : List Row) → Job → Type 0
JobNarrows C D fs rs R gs qs (done p' K) = Narrowed C D gs qs R K p'
JobNarrows C D fs rs R gs qs (ask b Q topped node left) = Fit Q fs × ((K : Mask) (p' : Plan) → Narrowed C D fs rs Q K p' → Narrowed C D gs qs R (left K) (node p'))

-- ── one input ───────────────────────────────────────────────────────────────────────────────

module _ (C : Catalogue) (D : Log) (fs : List Pair) (rs : List Row) where
  -- the node h over the rewritten input
  node : (h : Unary) {R Q K : Mask} {p' : Plan} → Narrowed C D fs rs Q K p' → {gs : List Pair} {qs : List Row} (L : Mask) → LeM R L
      → unary_fields h (select K fs) ≡ select L gs → unary_rows h (select K fs) (map (select K) rs) ≡ map (select L) qs → Narrowed C D gs qs R L (unary h p')
  unfolding fields_of meaning
  node h n L l ef er = record { keeps = l; fields = ap (unary_fields h) n.fields ∙ ef; rows = ap₂ (unary_rows h) n.fields n.rows ∙ er }

  pub projection-narrows : Clear fs → WideRows fs rs → (is : List Item) (R : Mask) → JobNarrows C D fs rs R (map item_pair is) (projection_rows is fs rs) (projection_job C is fs R)
  unfolding JobNarrows projection_job
  projection-narrows nd w is R =
      let js = select R is in (
        used-fit (map item_expr js) fs,
        λ K p' n.
            let o = over_child_lem C D js p' (subst⁻¹ Clear n.fields (clear-select K nd)) (rw (n.fields, n.rows) (All_mapped _ (λ r h. Fit-select K h) w)) in
            record {
              keeps = LeM_refl R;
              fields = o.0 ∙ sym (select-map item_pair R is);
              rows = o.1 ∙ (ap₂ (projection_rows js) n.fields n.rows ∙ projection-select R is (used_cov (map item_expr js) fs n.keeps) rs);
            },
      )

  -- ── Aggregate: us are the groups that are left, ws the aggregates ─────────────────────────

  module _ (gs : List Item) (vs : List Agg) {G : Mask} (A : Mask) (f : Fit G gs) (drops : Drops fs rs gs G) where
    aggregate-rows : (us : List Item) (ws : List Agg) → us ≡ select G gs → ws ≡ select A vs → {K : Mask} → LeM (used (unary_exprs (aggregate us ws)) fs) K
        → unary_rows (aggregate us ws) (select K fs) (map (select K) rs) ≡ map (select (G ++ A)) (unary_rows (aggregate gs vs) fs rs)
    unfolding unary_rows unary_exprs
    aggregate-rows us ws d e {K} l =
        let es = map item_expr us in
        let v = used_cov (es ++ concat_map agg_exprs ws) fs l in
        ap (λ us. aggregate_rows es us (select K fs) (map (select K) rs)) e
        ∙ (aggregate-select es vs A (used-left es (concat_map agg_exprs ws) v) (subst (λ us. Cov (concat_map agg_exprs us) fs K) e (used-right es (concat_map agg_exprs ws) v)) rs
        ∙ (ap (λ us. map (select (ones (map item_expr us) ++ A)) (aggregate_rows (map item_expr us) vs fs rs)) d ∙ groups_select fs gs A vs f drops))

    some_left : (us : List Item) (ws : List Agg) → us ≡ select G gs → ws ≡ select A vs → {R : Mask} → LeM R (G ++ A)
        → JobNarrows C D fs rs R (unary_fields (aggregate gs vs) fs) (unary_rows (aggregate gs vs) fs rs) (ask false (used (unary_exprs (aggregate us ws)) fs) true (unary (aggregate us ws)) (λ L. G ++ A))
    unfolding JobNarrows unary_fields
    some_left us ws d e l = (
      used-fit (unary_exprs (aggregate us ws)) fs,
      λ K p' n.
          node (aggregate us ws) n (G ++ A) l (ap₂ (λ us ws. map item_pair us ++ map agg_pair ws) d e ∙ aggregate-fields f A vs) (aggregate-rows us ws d e n.keeps),
    )

    aggregate-narrows : (us : List Item) (ws : List Agg) → us ≡ select G gs → ws ≡ select A vs → {R : Mask} → LeM R (G ++ A)
        → JobNarrows C D fs rs R (unary_fields (aggregate gs vs) fs) (unary_rows (aggregate gs vs) fs rs) (aggregate_job us ws fs (G ++ A))
    unfolding aggregate_job
    -- neither group nor aggregate: one row of no values
    aggregate-narrows [] [] d e l =
        unfold JobNarrows unary_fields fields_of leaf_fields meaning leaf_rows empty_rows missings in
        record {
          keeps = l;
          fields = ap₂ (λ us ws. map item_pair us ++ map agg_pair ws) d e ∙ aggregate-fields f A vs;
          rows = unfold unary_rows aggregate_rows group_keys group_row in aggregate-rows [] [] d e (LeM_refl _);
        }
    aggregate-narrows [] (w ∷ ws) d e l = some_left [] (w ∷ ws) d e l
    aggregate-narrows (u ∷ us) ws d e l = some_left (u ∷ us) ws d e l

  -- ── Window: vs are the windows that are left ──────────────────────────────────────────────

  window-narrows : WideRows fs rs → (ws vs : List Win) (b : Bool) (R : Mask) → Fit R (fs ++ map win_pair ws) → let S = drop (length fs) R in
      vs ≡ select S ws → JobNarrows C D fs rs R (unary_fields (window ws) fs) (unary_rows (window ws) fs rs) (window_job vs fs b (take (length fs) R) S)
  unfolding JobNarrows window_job unary_fields unary_rows unary_exprs
  window-narrows w ws [] b R f e =
      let S = drop (length fs) R in
      let p = take-fit fs (map win_pair ws) f in (
        p,
        λ K p' n.
            let k = LeM_fit n.keeps p in
            record {
              keeps = LeM_parts (length fs) R n.keeps (LeM_refl S);
              fields = n.fields ∙ (sym (append-nil (select K fs)) ∙ (ap (λ us. select K fs ++ map win_pair us) e ∙ window-fields k S ws));
              rows = n.rows ∙ (sym (window-none (select K fs) (map (select K) rs))
                  ∙ (ap (λ us. window_rows us (select K fs) (map (select K) rs)) e ∙ window-select ws S k (subst (λ us. Cov (concat_map win_exprs us) fs K) e (unfold concat_map in a[])) w));
            },
      )
  window-narrows w ws (v ∷ vs) b R f e =
      let S = drop (length fs) R in
      let p = take-fit fs (map win_pair ws) f in
      let es = concat_map win_exprs (v ∷ vs) in (
        plus-fit es p,
        λ K p' n.
            let k = LeM_fit n.keeps (plus-fit es p) in
            node (window (v ∷ vs)) n (K ++ S) (LeM_parts (length fs) R (plus-keeps es p n.keeps) (LeM_refl S)) (ap (λ us. select K fs ++ map win_pair us) e ∙ window-fields k S ws)
            (ap (λ us. window_rows us (select K fs) (map (select K) rs)) e ∙ window-select ws S k (subst (λ us. Cov (concat_map win_exprs us) fs K) e (plus_cov es p n.keeps)) w),
      )

  -- ── every kind ────────────────────────────────────────────────────────────────────────────

  pub unary-narrows : Clear fs → WideRows fs rs → {key : List ℕ} → KeyOn rs key → (h : Unary) (b : Bool) {R : Mask} → Fit R (unary_fields h fs)
      → JobNarrows C D fs rs R (unary_fields h fs) (unary_rows h fs rs) (unary_job C h key fs b R)
  unfolding unary_job unary_fields unary_rows JobNarrows
  unary-narrows nd w d (projection is) b {R} f = projection-narrows nd w is R
  unary-narrows nd w d (filter e) b f = (
    plus-fit (e ∷ []) f,
    λ K p' n.
        node (filter e) n K (plus-keeps (e ∷ []) f n.keeps) refl (filter_map (select K) _ _ (λ r. ap yes? (eval-select e (used-head e [] (plus_cov (e ∷ []) f n.keeps)) r)) rs),
  )
  unary-narrows nd w d (sort ks) b f =
      let es = map key_expr ks in
      (plus-fit es f, λ K p' n. node (sort ks) n K (plus-keeps es f n.keeps) refl (sort-map (select K) _ _ (before-select ks (plus_cov es f n.keeps)) rs))
  unary-narrows nd w d (limit i j) b f = (f, λ K p' n. node (limit i j) n K n.keeps refl (page-map (select K) i j rs))
  unary-narrows nd w {key} d (aggregate gs vs) b {R} f =
      let p = groups_fit gs (map agg_pair vs) f in
      let l = groups_keep key (places_of fs gs) (places-fit fs p) in
      aggregate-narrows gs vs (drop (length gs) R) (LeM_fit l p) (kept_drops fs d gs p) _ _ refl refl (LeM_parts (length gs) R l (LeM_refl _))
  unary-narrows nd w d (window ws) b {R} f = window-narrows w ws (select (drop (length fs) R) ws) b R f refl
  unary-narrows nd w d (subquery_alias q) b f = (Fit_trans f (Fit-map (requalify q) fs), λ K p' n. node (subquery_alias q) n K n.keeps (sym (select-map (requalify q) K fs)) refl)
  unary-narrows nd w d distinct b f = (
    unfold ones in Fit-map (λ x. true) fs,
    λ K p' n.
        let e = ones_le fs n.keeps in
        node distinct n K (LeM_trans (fit-ones f) n.keeps) refl
        (ap (λ M. firsts same_row (map (select M) rs)) e ∙ (ap (firsts same_row) (ones-rows w) ∙ (sym (ones-rows (All_firsts same_row w)) ∙ ap (λ M. map (select M) (firsts same_row rs)) (sym e)))),
  )

-- ── no input ────────────────────────────────────────────────────────────────────────────────

pub leaf-narrows : (C : Catalogue) (D : Log) (h : Leaf) {R : Mask} → Fit R (leaf_fields C h) → Narrowed C D (leaf_fields C h) (leaf_rows C D h) R (leaf_kept h R) (leaf (leaf_rule C h R))
unfolding fields_of meaning leaf_fields leaf_rule leaf_kept leaf_rows row_at columns_of
leaf-narrows C D (scan t q is es) {R} f =
    let names = names_of C t in
    let cs = columns_of names is in
    record {
      keeps = LeM_refl R;
      fields = sym (select-map (scan_field names q) R cs);
      rows = sym (map-map (select R) (row_at cs) (scan_rows C D t q es) ∙ map_cong (λ r. select-map (λ i. get_or r i missing) R cs) (scan_rows C D t q es));
    }
leaf-narrows C D (empty b cs) f = record { keeps = fit-ones f; fields = sym (select-ones (fit_self cs)); rows = sym (ones-rows (leaf-wide C D (empty b cs))) }
