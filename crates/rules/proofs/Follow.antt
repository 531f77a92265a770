-- The scans that are left are followed rightly, by every merge and whether the plan is accepted or not: they are the scans of the rewritten plan, all of
-- them, in order, as they stand there; and each has the number of a scan of the old plan of which it reads a part.
use mathlib.Core.Path.{◌≡◌, refl, sym, ◌∙◌, ap₂, subst}
use mathlib.Core.List.{List, [], ◌∷◌, ◌++◌, map}
use mathlib.Core.Bool.{Bool, true, false, cond}
use mathlib.Core.Option.{Option, none, some}
use Prim.Native.Nat.{ℕ, suc, ◌+◌, ◌≤◌, ◌<◌}
use native.Mathlib.Omega.{arith}
use lib.Dec.{ltb}
use lib.ListN.{length}
use Rattle.cpl.specs.Plan.{Pair, Item, bare, Agg, Win, Leaf, scan, empty, Unary, projection, filter, sort, limit, aggregate, window, subquery_alias, distinct, Binary, Plan, leaf, unary, binary, Catalogue, item_pair}
use Rattle.cpl.specs.Exprs.{plan_nodes}
use Rattle.cpl.specs.Fields.{columns_of, leaf_fields, unary_fields, binary_fields, fields_of}
use Rattle.cpl.proofs.Lists.{map-map, map_id, map_++}
use Rattle.rules.specs.Mask.{Mask, select, count_m}
use Rattle.rules.specs.Keys.{key_of}
use Rattle.rules.specs.Merge.{Merge}
use Rattle.rules.specs.Rules.{top_up, same_columns, over_child, leaf_rule, Job, done, ask, projection_job, aggregate_job, window_job, unary_job, left_ask, right_ask}
use Rattle.rules.specs.Rewrite.{Go, input, run_job, pend, measured, merged, leaf_walk, node_walk, unary_walk, binary_walk, walk, rewrite}
use Rattle.rules.specs.Scans.{leaf_scans, scans, Numbered, numbered, scans_of, Left, job_scans, pend_scans, merged_scans, leaf_left, items_of, unary_scans, binary_scans, walk_scans, scans_under, Into, i[], ◌i∷◌, pass, narrower, NarrowerAt, Rising, r[], ◌r∷◌, Followed}
use Rattle.rules.proofs.Parts.{none_into, Into_++, select-part}

-- ── the scans of a plan, with and without numbers ───────────────────────────────────────────

abbrev pub heads : List Numbered → List Leaf
heads xs = map (λ x. x.head) xs

numbered-heads : (at : ℕ) (hs : List Leaf) → heads (numbered at hs) ≡ hs
unfolding numbered
numbered-heads at hs = map-map (λ x. x.head) _ hs ∙ map_id hs

pub scans_of-heads : (p : Plan) (at : ℕ) → heads (scans_of p at) ≡ scans p
unfolding scans_of scans
scans_of-heads (leaf h) at = numbered-heads at (leaf_scans h)
scans_of-heads (unary h p) at = scans_of-heads p (suc at)
scans_of-heads (binary h p₁ p₂) at =
    map_++ (λ x. x.head) (scans_of p₁ (suc at)) (scans_of p₂ (suc (at + plan_nodes p₁))) ∙ ap₂ ◌++◌ (scans_of-heads p₁ (suc at)) (scans_of-heads p₂ (suc (at + plan_nodes p₁)))

-- ── a rule adds no scan and drops none ──────────────────────────────────────────────────────

top_up-scans : (C : Catalogue) (fs : List Pair) (Q : Mask) (p' : Plan) → scans (top_up C fs Q p') ≡ scans p'
unfolding top_up scans
top_up-scans C fs Q p' = go (ltb (count_m Q) (length (fields_of C p')))
  where
    go : (b : Bool) → scans (cond b (unary (projection (map bare (select Q fs))) p') p') ≡ scans p'
    go true = refl
    go false = refl

input-scans : (C : Catalogue) (fs : List Pair) (topped : Bool) (Q : Mask) (p' : Plan) → scans (input C fs topped Q p') ≡ scans p'
unfolding input
input-scans C fs true Q p' = top_up-scans C fs Q p'
input-scans C fs false Q p' = refl

over-scans : (C : Catalogue) (is : List Item) (p' : Plan) → scans (over_child C is p') ≡ scans p'
unfolding over_child scans
over-scans C is p' = go (same_columns is (fields_of C p'))
  where
    go : (b : Bool) → scans (cond b p' (unary (projection is) p')) ≡ scans p'
    go true = refl
    go false = refl

-- what stands in place of an input that is not walked has no scan; a node has its input's
abbrev Plain : Job → Type 0
Plain (done result K) = scans result ≡ []
Plain (ask b Q topped node left) = (p' : Plan) → scans (node p') ≡ scans p'

projection-plain : (C : Catalogue) (is : List Item) (fs : List Pair) (R : Mask) → Plain (projection_job C is fs R)
unfolding projection_job
projection-plain C is fs R = over-scans C (select R is)

aggregate-plain : (gs : List Item) (vs : List Agg) (fs : List Pair) (K : Mask) → Plain (aggregate_job gs vs fs K)
unfolding aggregate_job scans leaf_scans
aggregate-plain [] [] fs K = refl
aggregate-plain [] (v ∷ vs) fs K = λ p'. refl
aggregate-plain (g ∷ gs) vs fs K = λ p'. refl

window-plain : (ws : List Win) (fs : List Pair) (b : Bool) (R S : Mask) → Plain (window_job ws fs b R S)
unfolding window_job scans
window-plain [] fs b R S = λ p'. refl
window-plain (w ∷ ws) fs b R S = λ p'. refl

module _ (C : Catalogue) (key : List ℕ) (fs : List Pair) where
  unary-plain : (h : Unary) (b : Bool) (R : Mask) → Plain (unary_job C h key fs b R)
  unfolding unary_job scans
  unary-plain (projection is) b R = projection-plain C is fs R
  unary-plain (filter e) b R = λ p'. refl
  unary-plain (sort ks) b R = λ p'. refl
  unary-plain (limit s n) b R = λ p'. refl
  unary-plain (aggregate gs vs) b R = aggregate-plain _ _ fs _
  unary-plain (window ws) b R = window-plain _ fs b _ _
  unary-plain (subquery_alias q) b R = λ p'. refl
  unary-plain distinct b R = λ p'. refl

-- ── the scans that are left are those of the new plan ───────────────────────────────────────

-- the scans that are left of an input, and the pass over it
abbrev Same : Left → Go → Type 0
Same s go = (b : Bool) (R : Mask) → heads (s b R) ≡ scans (go b R).plan

job-same : (C : Catalogue) (fs : List Pair) (j : Job) → Plain j → (s : Left) (go : Go) → Same s go → heads (job_scans j s) ≡ scans (run_job C fs j go).plan
unfolding job_scans run_job
job-same C fs (done result K) k s go h = sym k
job-same C fs (ask b Q topped node left) k s go h = h b Q ∙ sym (k (input C fs topped Q (go b Q).plan) ∙ input-scans C fs topped Q (go b Q).plan)

pend-same : (C : Catalogue) (q : Option (List Item)) (fs : List Pair) (s : Left) (go : Go) → Same s go → Same (pend_scans C q fs s) (pend C q fs go)
unfolding pend_scans pend
pend-same C none fs s go h = h
pend-same C (some is) fs s go h = λ b R. job-same C fs (projection_job C is fs R) (projection-plain C is fs R) s go h

leaf-same : (C : Catalogue) (h : Leaf) (at : ℕ) → Same (leaf_left C h at) (leaf_walk C h)
unfolding leaf_left leaf_walk scans
leaf-same C h at b R = numbered-heads at (leaf_scans (leaf_rule C h R))

merged-same : (r : Option (List Item)) (s : List Item → Left) (go : List Item → Go) → ((ks : List Item) → Same (s ks) (go ks)) → (s' : Left) (go' : Go) → Same s' go' → Same (merged_scans r s s') (merged r go go')
unfolding merged_scans merged measured
merged-same none s go g s' go' h = h
merged-same (some ks) s go g s' go' h = λ b R. g ks b R

binary-same : (C : Catalogue) (h : Binary) (fl fr : List Pair) (s₁ s₂ : Left) (go₁ go₂ : Go) → Same s₁ go₁ → Same s₂ go₂ → Same (binary_scans h fl fr s₁ s₂) (binary_walk C h fl fr go₁ go₂)
unfolding binary_scans binary_walk scans
binary-same C h fl fr s₁ s₂ go₁ go₂ g₁ g₂ b R =
    let Q₁ = left_ask h fl fr R in
    let Q₂ = right_ask h fl fr R in
    map_++ (λ x. x.head) (s₁ true Q₁) (s₂ true Q₂) ∙ ap₂ ◌++◌ (g₁ true Q₁ ∙ sym (top_up-scans C fl Q₁ (go₁ true Q₁).plan)) (g₂ true Q₂ ∙ sym (top_up-scans C fr Q₂ (go₂ true Q₂).plan))

module _ (M : Merge) (C : Catalogue) (key : List ℕ) (fs : List Pair) (s : Option (List Item) → Left) (go : Option (List Item) → Go) (g : (q : Option (List Item)) → Same (s q) (go q)) where
  -- a node that is no projection
  node-same : (h : Unary) (q : Option (List Item)) → Same (unary_scans M C none q (unary_fields h fs) (unary_job C h key fs) s) (node_walk C h key fs go q)
  unfolding unary_scans node_walk
  node-same h q = pend-same C q (unary_fields h fs) _ _ (λ b R. job-same C fs _ (unary-plain C key fs h b R) (s none) (go none) (g none))

  unary-same : (h : Unary) (q : Option (List Item)) → Same (unary_scans M C (items_of h) q (unary_fields h fs) (unary_job C h key fs) s) (unary_walk M C h key fs go q)
  unfolding items_of unary_walk
  unary-same (projection is) none = unfold unary_scans in g (some is)
  unary-same (projection is) (some js) = unfold unary_scans unary_fields in merged-same (M js is) _ _ (λ ks. g (some ks)) _ _ (pend-same C (some js) (map item_pair is) (s (some is)) (go (some is)) (g (some is)))
  unary-same (filter e) q = node-same (filter e) q
  unary-same (sort ks) q = node-same (sort ks) q
  unary-same (limit k n) q = node-same (limit k n) q
  unary-same (aggregate gs vs) q = node-same (aggregate gs vs) q
  unary-same (window ws) q = node-same (window ws) q
  unary-same (subquery_alias x) q = node-same (subquery_alias x) q
  unary-same distinct q = node-same distinct q

module _ (M : Merge) (C : Catalogue) where
  pub walk_same : (p : Plan) (at : ℕ) (q : Option (List Item)) (b : Bool) (R : Mask) → heads (walk_scans M C p at q b R) ≡ scans (walk M C p q b R).plan
  unfolding walk_scans walk
  walk_same (leaf h) at q = pend-same C q (leaf_fields C h) _ _ (leaf-same C h at)
  walk_same (unary h p) at q = unary-same M C (key_of C p) (fields_of C p) _ _ (λ q. walk_same p (suc at) q) h q
  walk_same (binary h p₁ p₂) at q =
      pend-same C q (binary_fields h (fields_of C p₁) (fields_of C p₂)) _ _ (binary-same C h (fields_of C p₁) (fields_of C p₂) _ _ _ _ (walk_same p₁ (suc at) none) (walk_same p₂ (suc (at + plan_nodes p₁)) none))

-- ── and each is a scan of the old plan, with its number ─────────────────────────────────────

module _ (C : Catalogue) where
  -- whatever is asked, what is left stands among these
  abbrev Among : Left → List Numbered → Type 0
  Among s ys = (b : Bool) (R : Mask) → Into (NarrowerAt C) (s b R) ys

  job_among : (j : Job) (s : Left) (ys : List Numbered) → Among s ys → Into (NarrowerAt C) (job_scans j s) ys
  unfolding job_scans
  job_among (done result K) s ys g = none_into ys
  job_among (ask b Q topped node left) s ys g = g b Q

  pend_among : (q : Option (List Item)) (fs : List Pair) (s : Left) (ys : List Numbered) → Among s ys → Among (pend_scans C q fs s) ys
  unfolding pend_scans
  pend_among none fs s ys g = g
  pend_among (some is) fs s ys g = λ b R. job_among (projection_job C is fs R) s ys g

  leaf_among : (h : Leaf) (at : ℕ) → Among (leaf_left C h at) (numbered at (leaf_scans h))
  unfolding leaf_left numbered leaf_scans leaf_rule columns_of
  leaf_among (scan t q is es) at b R = record { same_node = refl; scan_within = narrower (select-part R _) } i∷ i[]
  leaf_among (empty one cs) at b R = i[]

  merged_among : (r : Option (List Item)) (s : List Item → Left) (s' : Left) (ys : List Numbered) → ((ks : List Item) → Among (s ks) ys) → Among s' ys → Among (merged_scans r s s') ys
  unfolding merged_scans
  merged_among none s s' ys g h = h
  merged_among (some ks) s s' ys g h = g ks

  module _ (M : Merge) where
    unary_among : (own q : Option (List Item)) (fs : List Pair) (job : Bool → Mask → Job) (s : Option (List Item) → Left) (ys : List Numbered) → ((q : Option (List Item)) → Among (s q) ys)
        → Among (unary_scans M C own q fs job s) ys
    unfolding unary_scans
    unary_among (some is) none fs job s ys g = g (some is)
    unary_among (some is) (some js) fs job s ys g = merged_among (M js is) _ _ ys (λ ks. g (some ks)) (pend_among (some js) fs (s (some is)) ys (g (some is)))
    unary_among none q fs job s ys g = pend_among q fs _ ys (λ b R. job_among (job b R) (s none) ys (g none))

    pub walk_among : (p : Plan) (at : ℕ) (q : Option (List Item)) → Among (walk_scans M C p at q) (scans_of p at)
    unfolding walk_scans scans_of binary_scans
    walk_among (leaf h) at q = pend_among q (leaf_fields C h) _ _ (leaf_among h at)
    walk_among (unary h p) at q = unary_among (items_of h) q _ _ _ _ (λ q. walk_among p (suc at) q)
    walk_among (binary h p₁ p₂) at q =
        pend_among q (binary_fields h (fields_of C p₁) (fields_of C p₂)) _ _ (λ b R. Into_++ (walk_among p₁ (suc at) none true _) (walk_among p₂ (suc (at + plan_nodes p₁)) none true _))

-- ── with rising numbers ─────────────────────────────────────────────────────────────────────

rising_from : {end least : ℕ} (before : ℕ) {xs : List Numbered} → before ≤ least → Rising end least xs → Rising end before xs
rising_from before l r[] = r[]
rising_from before l (◌r∷◌ {x = x} h hs) = ◌r∷◌ {least = before} {x = x} (omega (arith, h.0), h.1) hs

rising_++ : {end middle least : ℕ} {xs ys : List Numbered} → least ≤ middle → middle ≤ end → Rising middle least xs → Rising end middle ys → Rising end least (xs ++ ys)
rising_++ l m r[] k = rising_from _ l k
rising_++ l m (◌r∷◌ {least = least} {x = x} h hs) k = ◌r∷◌ {least = least} {x = x} (h.0, omega (arith, h.1)) (rising_++ (omega (arith, h.1)) m hs k)

pub rising : (p : Plan) (at : ℕ) → Rising (at + plan_nodes p) at (scans_of p at)
unfolding scans_of plan_nodes numbered leaf_scans
rising (leaf (scan t q is es)) at = ◌r∷◌ {least = at} {x = record { number = at; head = scan t q is es }} (omega arith, omega arith) r[]
rising (leaf (empty b cs)) at = r[]
rising (unary h p) at = rising_from at (omega arith) (let e : suc at + plan_nodes p ≡ at + suc (plan_nodes p) = omega arith in subst (λ n. Rising n (suc at) (scans_of p (suc at))) e (rising p (suc at)))
rising (binary h p₁ p₂) at =
    let m = suc (at + plan_nodes p₁) in
    let e₁ : suc at + plan_nodes p₁ ≡ m = omega arith in
    let e₂ : m + plan_nodes p₂ ≡ at + suc (plan_nodes p₁ + plan_nodes p₂) = omega arith in
    rising_++ (omega arith) (omega arith) (rising_from at (omega arith) (subst (λ n. Rising n (suc at) (scans_of p₁ (suc at))) e₁ (rising p₁ (suc at))))
    (subst (λ n. Rising n m (scans_of p₂ m)) e₂ (rising p₂ m))

rising_part : {C : Catalogue} {end least : ℕ} {xs ys : List Numbered} → Into (NarrowerAt C) xs ys → Rising end least ys → Rising end least xs
rising_part i[] r[] = r[]
rising_part {end} {least} (◌i∷◌ {x = x} {y = y} {xs = xs} w hs) (k r∷ ks) =
    let e : y.number ≡ x.number = sym w.same_node in
    ◌r∷◌ {x = x} (subst (λ n. (least ≤ n) × (n < end)) e k) (subst (λ n. Rising end (suc n) xs) e (rising_part hs ks))
rising_part (pass hs) (k r∷ ks) = rising_from _ (omega (arith, k.0)) (rising_part hs ks)

-- the pass from the root
pub followed : (M : Merge) (C : Catalogue) (p : Plan) (R : Mask) → Followed C p (rewrite M C p R).plan (scans_under M C p R)
followed M C p R =
    let among = walk_among C M p 0 none false R in
    let e : 0 + plan_nodes p ≡ plan_nodes p = omega arith in
    record {
      new_scans = walk_same M C p 0 none false R;
      old_scans = among;
      numbers_rise = rising_part among (subst (λ n. Rising n 0 (scans_of p 0)) e (rising p 0));
    }
