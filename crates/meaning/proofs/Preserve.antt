-- The pass in house mode over a whole plan: the new plan is the old one narrowed.
use mathlib.Core.Path.{◌≡◌, refl, ◌∙◌, ap, ap₂, subst, subst⁻¹}
use mathlib.Core.List.{List, map}
use mathlib.Core.Bool.{Bool, true, false, cond, not}
use mathlib.Core.Option.{Option, none, some}
use Prim.Native.Nat.{ℕ, ◌≤◌}
use native.Mathlib.Omega.{arith}
use lib.Dec.{T, ltb, nltb→le}
use lib.ListN.{length}
use Rattle.cpl.specs.Lists.{Fit}
use Rattle.cpl.specs.Plan.{Pair, Item, bare, Unary, projection, filter, sort, limit, aggregate, window, subquery_alias, distinct, Binary, Plan, leaf, unary, binary, Catalogue, item_pair}
use Rattle.cpl.specs.Fields.{unary_fields, binary_fields, fields_of}
use Rattle.cpl.specs.Accept.{even}
use Rattle.cpl.specs.Accepted.{Clear, Accepted}
use Rattle.cpl.proofs.Accepted.{distinct-fields}
use Rattle.rules.specs.Mask.{Mask, select, count_m}
use Rattle.rules.specs.Merge.{merge_step}
use Rattle.rules.specs.Rules.{top_up, Job, done, ask, projection_job, unary_job}
use Rattle.rules.specs.Rewrite.{Go, input, run_job, pend, measured, merged, leaf_walk, node_walk, unary_walk, binary_walk, walk}
use Rattle.rules.proofs.Masks.{LeM_refl, LeM_fit, count_eq, length-select}
use Rattle.rules.proofs.Known.{bare-fields}
use Rattle.rules.proofs.MergeTidy.{step, step-pairs}
use Rattle.rules.proofs.Results.{pending_fields}
use Rattle.meaning.specs.Value.{Row, Log}
use Rattle.meaning.specs.Operators.{projection_rows, unary_rows}
use Rattle.meaning.specs.Joins.{binary_rows}
use Rattle.meaning.specs.Meaning.{meaning}
use Rattle.meaning.specs.Keyed.{KeysDiffer}
use Rattle.meaning.proofs.Wide.{WideRows, projection-wide, unary-wide, leaf-wide, wide}
use Rattle.meaning.proofs.Columns.{columns-rows}
use Rattle.meaning.proofs.KeyRows.{KeyOn, plan-key}
use Rattle.meaning.proofs.Rows.{Narrowed, JobNarrows, projection-narrows, unary-narrows, leaf-narrows}
use Rattle.rules.proofs.Asked.{ask-fits}
use Rattle.meaning.proofs.BinaryRows.{binary-narrows}
use Rattle.meaning.proofs.HouseMerge.{step-rows}

-- what the pass does with a plan that has the fields fs and the rows rs
abbrev pub Narrows : Catalogue → Log → List Pair → List Row → Go → Type 0
Narrows C D fs rs go = (b : Bool) (R : Mask) → Fit R fs → Narrowed C D fs rs R (go b R).kept (go b R).plan

-- the rows with the pending projection on top
abbrev pending_rows : List Pair → List Row → Option (List Item) → List Row
pending_rows fs rs none = rs
pending_rows fs rs (some is) = projection_rows is fs rs

module _ (C : Catalogue) (D : Log) {fs : List Pair} {rs : List Row} (nd : Clear fs) (w : WideRows fs rs) where
  -- a topped-up input has exactly what was asked of it
  pub topped : {Q K : Mask} {p' : Plan} → Fit Q fs → Narrowed C D fs rs Q K p' → Narrowed C D fs rs Q Q (top_up C fs Q p')
  unfolding top_up fields_of meaning unary_fields unary_rows
  topped {Q} {K} {p'} f n = go (ltb (count_m Q) (length (fields_of C p'))) (λ t. t)
    where
      go : (b : Bool) → (T (not b) → T (not (ltb (count_m Q) (length (fields_of C p'))))) → Narrowed C D fs rs Q Q (cond b (unary (projection (map bare (select Q fs))) p') p')
      go true t =
          record {
            keeps = LeM_refl Q;
            fields = bare-fields (select Q fs);
            rows = ap₂ (projection_rows (map bare (select Q fs))) n.fields n.rows ∙ columns-rows nd w f n.keeps;
          }
      go false t =
          let h : length (fields_of C p') ≤ count_m Q = nltb→le _ _ (t tt) in
          let l : length (fields_of C p') ≡ count_m K = ap length n.fields ∙ length-select (LeM_fit n.keeps f) in
          subst (λ M. Narrowed C D fs rs Q M p') (count_eq n.keeps (omega arith)) n

  module _ (go : Go) (g : Narrows C D fs rs go) {R : Mask} {gs : List Pair} {qs : List Row} where
    run : (j : Job) → JobNarrows C D fs rs R gs qs j → Narrowed C D gs qs R (run_job C fs j go).kept (run_job C fs j go).plan
    unfolding JobNarrows run_job input
    run (done p' K) h = h
    run (ask b Q true node left) h = h.1 Q _ (topped h.0 (g b Q h.0))
    run (ask b Q false node left) h = h.1 _ _ (g b Q h.0)

  pend-narrows : (go : Go) → Narrows C D fs rs go → (q : Option (List Item)) → Narrows C D (pending_fields fs q) (pending_rows fs rs q) (pend C q fs go)
  unfolding pend
  pend-narrows go g none = g
  pend-narrows go g (some is) = λ b R f. run go g (projection_job C is fs R) (projection-narrows C D fs rs nd w is R)

-- ── one node ────────────────────────────────────────────────────────────────────────────────

module _ (C : Catalogue) (D : Log) where
  -- a node that is no projection
  node-narrows : (h : Unary) {key : List ℕ} {fs : List Pair} {rs : List Row} → Clear fs → WideRows fs rs → KeyOn rs key → Clear (unary_fields h fs) → (go : Option (List Item) → Go) → Narrows C D fs rs (go none)
      → (q : Option (List Item)) → Narrows C D (pending_fields (unary_fields h fs) q) (pending_rows (unary_fields h fs) (unary_rows h fs rs) q) (node_walk C h key fs go q)
  unfolding node_walk
  node-narrows h {key} {fs} {rs} nd w d own go g q =
      pend-narrows C D own (unary-wide h fs w) _ (λ b R f. run C D nd w (go none) g (unary_job C h key fs b R) (unary-narrows C D fs rs nd w d h b f)) q

  binary-walk : (h : Binary) {fl fr : List Pair} {ls rs : List Row} → Clear fl → Clear fr → WideRows fl ls → WideRows fr rs → T (even h fl fr) → (go₁ go₂ : Go) → Narrows C D fl ls go₁ → Narrows C D fr rs go₂
      → Narrows C D (binary_fields h fl fr) (binary_rows h fl fr ls rs) (binary_walk C h fl fr go₁ go₂)
  unfolding binary_walk
  binary-walk h {fl} {fr} nl nr wl wr e go₁ go₂ g₁ g₂ b R f =
      let k = ask-fits h fl fr e f in binary-narrows C D fl fr wl h R f (topped C D nl wl k.0 (g₁ true _ k.0)) (topped C D nr wr k.1 (g₂ true _ k.1))

  module _ (m : ℕ) {fs : List Pair} {rs : List Row} (w : WideRows fs rs) (go : Option (List Item) → Go) where
    -- the list goes on down where the step made one, and stops over the lower list where it did not
    merged-narrows : (js is : List Item) → Clear (map item_pair js) → Clear (map item_pair is)
        → ((ks : List Item) → Clear (map item_pair ks) → Narrows C D (map item_pair ks) (projection_rows ks fs rs) (go (some ks)))
        → (r : Option (List Item)) → merge_step true m js is ≡ r
        → Narrows C D (map item_pair js) (projection_rows js (map item_pair is) (projection_rows is fs rs)) (merged r (λ ks. go (some ks)) (pend C (some js) (map item_pair is) (go (some is))))
    unfolding merged measured
    merged-narrows js is u l g none e = pend-narrows C D l (projection-wide is fs rs) (go (some is)) (g is l) (some js)
    merged-narrows js is u l g (some ks) e = λ b R f.
        let s = step true m js is ks e in
        let n = g ks (subst⁻¹ Clear (step-pairs s) u) b R (subst⁻¹ (Fit R) (step-pairs s) f) in
        record { keeps = n.keeps; fields = n.fields ∙ ap (select _) (step-pairs s); rows = n.rows ∙ ap (map (select _)) (step-rows u s fs rs) }

    module _ (nd : Clear fs) {key : List ℕ} (d : KeyOn rs key) (g : (q : Option (List Item)) → Clear (pending_fields fs q) → Narrows C D (pending_fields fs q) (pending_rows fs rs q) (go q)) where
      unary-walk : (h : Unary) → Clear (unary_fields h fs) → (q : Option (List Item)) → Clear (pending_fields (unary_fields h fs) q)
          → Narrows C D (pending_fields (unary_fields h fs) q) (pending_rows (unary_fields h fs) (unary_rows h fs rs) q) (unary_walk (merge_step true m) C h key fs go q)
      unfolding unary_walk unary_fields unary_rows
      unary-walk (projection is) own none pq = g (some is) own
      unary-walk (projection is) own (some js) pq = merged-narrows js is pq own (λ ks k. g (some ks) k) (merge_step true m js is) refl
      unary-walk (filter e) own q pq = node-narrows (filter e) nd w d own go (g none nd) q
      unary-walk (sort ks) own q pq = node-narrows (sort ks) nd w d own go (g none nd) q
      unary-walk (limit s n) own q pq = node-narrows (limit s n) nd w d own go (g none nd) q
      unary-walk (aggregate gs vs) own q pq = node-narrows (aggregate gs vs) nd w d own go (g none nd) q
      unary-walk (window ws) own q pq = node-narrows (window ws) nd w d own go (g none nd) q
      unary-walk (subquery_alias x) own q pq = node-narrows (subquery_alias x) nd w d own go (g none nd) q
      unary-walk distinct own q pq = node-narrows distinct nd w d own go (g none nd) q

-- ── plans ───────────────────────────────────────────────────────────────────────────────────

pub preserve : (m : ℕ) (C : Catalogue) (D : Log) → KeysDiffer C D → (p : Plan) → Accepted C p → (q : Option (List Item)) → Clear (pending_fields (fields_of C p) q)
    → Narrows C D (pending_fields (fields_of C p) q) (pending_rows (fields_of C p) (meaning C D p) q) (walk (merge_step true m) C p q)
unfolding walk fields_of meaning Accepted leaf_walk
preserve m C D keys (leaf h) o q pq = pend-narrows C D o.distinct (leaf-wide C D h) _ (λ b R f. leaf-narrows C D h f) q
preserve m C D keys (unary h p) o q pq =
    unary-walk C D m (wide C D p o.0) _ (distinct-fields C p o.0) (plan-key C D keys p) (λ q pq. preserve m C D keys p o.0 q pq) h o.1.distinct q pq
preserve m C D keys (binary h p₁ p₂) o q pq =
    pend-narrows C D (distinct-fields C (binary h p₁ p₂) o) (wide C D (binary h p₁ p₂) o) (binary_walk C h (fields_of C p₁) (fields_of C p₂) (walk (merge_step true m) C p₁ none) (walk (merge_step true m) C p₂ none))
    (binary-walk C D h (distinct-fields C p₁ o.0) (distinct-fields C p₂ o.1) (wide C D p₁ o.0) (wide C D p₂ o.1) o.2.as_wide (walk (merge_step true m) C p₁ none) (walk (merge_step true m) C p₂ none)
    (preserve m C D keys p₁ o.0 none (distinct-fields C p₁ o.0)) (preserve m C D keys p₂ o.1 none (distinct-fields C p₂ o.1))) q
