-- The pass looks at the names of a table alone: with other table numbers, and the same names at them, it does the same.
use mathlib.Core.Path.{◌≡◌, refl, sym, ◌∙◌, ap, ap₂}
use mathlib.Core.List.{List, [], ◌∷◌, ◌++◌, map}
use mathlib.Core.Bool.{Bool, true, false, cond, ◌||◌}
use mathlib.Core.Option.{Option, none, some}
use Prim.Native.Nat.{ℕ, suc, ◌+◌}
use lib.Dec.{ltb}
use lib.ListN.{length}
use Rattle.cpl.specs.Plan.{Pair, Item, bare, Agg, Win, Leaf, scan, empty, Unary, projection, filter, sort, limit, aggregate, window, subquery_alias, distinct, Binary, Plan, leaf, unary, binary, Catalogue, names_of, item_pair}
use Rattle.cpl.specs.Exprs.{plan_nodes}
use Rattle.cpl.specs.Fields.{columns_of, scan_field, leaf_fields, unary_fields, binary_fields, fields_of}
use Rattle.cpl.proofs.Bools.{cond-ap}
use Rattle.cpl.proofs.Lists.{map_++}
use Rattle.rules.specs.Mask.{Mask, select, count_m}
use Rattle.rules.specs.Keys.{carried, declared, leaf_key, unary_key, key_of}
use Rattle.rules.specs.Merge.{Merge}
use Rattle.rules.specs.Rules.{top_up, same_columns, over_child, leaf_rule, leaf_kept, Job, done, ask, projection_job, aggregate_job, window_job, unary_job, left_ask, right_ask, binary_kept}
use Rattle.rules.specs.Rewrite.{Walked, Go, input, run_job, pend, measured, merged, leaf_walk, node_walk, unary_walk, binary_walk, walk}
use Rattle.rules.specs.Scans.{leaf_scans, Numbered, numbered, Left, job_scans, pend_scans, merged_scans, leaf_left, items_of, unary_scans, binary_scans, walk_scans}
use Rattle.rules.specs.OwnTables.{retable_leaf, retable}

module _ (u : ℕ → ℕ) (C D : Catalogue) (names : (t : ℕ) → names_of C (u t) ≡ names_of D t)
    (declares : (t : ℕ) → declared C.keys (u t) ≡ declared D.keys t) where
  abbrev walked : Walked → Walked
  walked w = record { plan = retable u w.plan; kept = w.kept; overlong = w.overlong }

  abbrev found : Numbered → Numbered
  found x = record { number = x.number; head = retable_leaf u x.head }

  -- ── fields ────────────────────────────────────────────────────────────────────────────────

  leaf_fields_lem : (h : Leaf) → leaf_fields C (retable_leaf u h) ≡ leaf_fields D h
  unfolding leaf_fields retable_leaf
  leaf_fields_lem (scan t q is es) = ap (λ ns. map (scan_field ns q) (columns_of ns is)) (names t)
  leaf_fields_lem (empty b cs) = refl

  fields : (p : Plan) → fields_of C (retable u p) ≡ fields_of D p
  unfolding fields_of retable
  fields (leaf h) = leaf_fields_lem h
  fields (unary h p) = ap (unary_fields h) (fields p)
  fields (binary h p₁ p₂) = ap₂ (binary_fields h) (fields p₁) (fields p₂)

  key-same : (p : Plan) → key_of C (retable u p) ≡ key_of D p
  unfolding key_of retable retable_leaf leaf_key
  key-same (leaf (scan t q is es)) = ap₂ (λ k ns. carried k (map some (columns_of ns is))) (declares t) (names t)
  key-same (leaf (empty b cs)) = refl
  key-same (unary h p) = ap₂ (unary_key h) (fields p) (key-same p)
  key-same (binary h p₁ p₂) = refl

  -- ── rules ─────────────────────────────────────────────────────────────────────────────────

  leaf_rule_lem : (h : Leaf) (R : Mask) → leaf_rule C (retable_leaf u h) R ≡ retable_leaf u (leaf_rule D h R)
  unfolding leaf_rule retable_leaf
  leaf_rule_lem (scan t q is es) R = ap (λ ns. scan (u t) q (some (select R (columns_of ns is))) es) (names t)
  leaf_rule_lem (empty b cs) R = refl

  leaf-kept : (h : Leaf) (R : Mask) → leaf_kept (retable_leaf u h) R ≡ leaf_kept h R
  unfolding leaf_kept retable_leaf
  leaf-kept (scan t q is es) R = refl
  leaf-kept (empty b cs) R = refl

  top_up_lem : (fs : List Pair) (Q : Mask) (p' : Plan) → top_up C fs Q (retable u p') ≡ retable u (top_up D fs Q p')
  unfolding top_up retable
  top_up_lem fs Q p' =
      let h = projection (map bare (select Q fs)) in
      ap (λ gs. cond (ltb (count_m Q) (length gs)) (unary h (retable u p')) (retable u p')) (fields p') ∙ cond-ap (retable u) (ltb (count_m Q) (length (fields_of D p'))) (unary h p') p'

  put_in : (fs : List Pair) (topped : Bool) (Q : Mask) (p' : Plan) → input C fs topped Q (retable u p') ≡ retable u (input D fs topped Q p')
  unfolding input
  put_in fs true Q p' = top_up_lem fs Q p'
  put_in fs false Q p' = refl

  over_child_lem : (is : List Item) (p' : Plan) → over_child C is (retable u p') ≡ retable u (over_child D is p')
  unfolding over_child retable
  over_child_lem is p' =
      ap (λ gs. cond (same_columns is gs) (retable u p') (unary (projection is) (retable u p'))) (fields p') ∙ cond-ap (retable u) (same_columns is (fields_of D p')) p' (unary (projection is) p')

  data Like : Job → Job → Type 0 where
    both-done : {r r' : Plan} {K : Mask} → r ≡ retable u r' → Like (done r K) (done r' K)
    both-ask : {b t : Bool} {Q : Mask} {n n' : Plan → Plan} {l : Mask → Mask} → ((p' : Plan) → n (retable u p') ≡ retable u (n' p')) → Like (ask b Q t n l) (ask b Q t n' l)

  projection_like : (is : List Item) (fs : List Pair) (R : Mask) → Like (projection_job C is fs R) (projection_job D is fs R)
  unfolding projection_job
  projection_like is fs R = both-ask (over_child_lem (select R is))

  aggregate_like : (gs : List Item) (vs : List Agg) (fs : List Pair) (K : Mask) → Like (aggregate_job gs vs fs K) (aggregate_job gs vs fs K)
  unfolding aggregate_job retable retable_leaf
  aggregate_like [] [] fs K = both-done refl
  aggregate_like [] (v ∷ vs) fs K = both-ask (λ p'. refl)
  aggregate_like (g ∷ gs) vs fs K = both-ask (λ p'. refl)

  window_like : (ws : List Win) (fs : List Pair) (b : Bool) (R S : Mask) → Like (window_job ws fs b R S) (window_job ws fs b R S)
  unfolding window_job retable
  window_like [] fs b R S = both-ask (λ p'. refl)
  window_like (w ∷ ws) fs b R S = both-ask (λ p'. refl)

  module _ (key : List ℕ) (fs : List Pair) where
    unary_like : (h : Unary) (b : Bool) (R : Mask) → Like (unary_job C h key fs b R) (unary_job D h key fs b R)
    unfolding unary_job retable
    unary_like (projection is) b R = projection_like is fs R
    unary_like (filter e) b R = both-ask (λ p'. refl)
    unary_like (sort ks) b R = both-ask (λ p'. refl)
    unary_like (limit s n) b R = both-ask (λ p'. refl)
    unary_like (aggregate gs vs) b R = aggregate_like _ _ fs _
    unary_like (window ws) b R = window_like _ fs b _ _
    unary_like (subquery_alias q) b R = both-ask (λ p'. refl)
    unary_like distinct b R = both-ask (λ p'. refl)

  -- ── the pass ──────────────────────────────────────────────────────────────────────────────

  abbrev SameGo : Go → Go → Type 0
  SameGo go go' = (b : Bool) (R : Mask) → go b R ≡ walked (go' b R)

  run-same : (fs : List Pair) {j j' : Job} → Like j j' → (go go' : Go) → SameGo go go' → run_job C fs j go ≡ walked (run_job D fs j' go')
  unfolding run_job
  run-same fs (both-done {K = K} e) go go' g = ap (λ p. record { plan = p; kept = K; overlong = false }) e
  run-same fs (both-ask {b = b} {t = t} {Q = Q} {n = n} {l = l} k) go go' g =
      let w = go' b Q in
      ap (λ w. record { plan = n (input C fs t Q w.plan); kept = l (cond t Q w.kept); overlong = w.overlong }) (g b Q)
      ∙ ap (λ p. record { plan = p; kept = l (cond t Q w.kept); overlong = w.overlong }) (ap n (put_in fs t Q w.plan) ∙ k (input D fs t Q w.plan))

  pend_go : (q : Option (List Item)) (fs : List Pair) (go go' : Go) → SameGo go go' → SameGo (pend C q fs go) (pend D q fs go')
  unfolding pend
  pend_go none fs go go' g = g
  pend_go (some is) fs go go' g = λ b R. run-same fs (projection_like is fs R) go go' g

  merged_go : (r : Option (List Item)) (go go' : List Item → Go) (stop stop' : Go) → ((ks : List Item) → SameGo (go ks) (go' ks)) → SameGo stop stop' → SameGo (merged r go stop) (merged r go' stop')
  unfolding merged measured
  merged_go none go go' stop stop' g h = h
  merged_go (some ks) go go' stop stop' g h = λ b R. ap (measured ks) (g ks b R)

  leaf_go : (h : Leaf) → SameGo (leaf_walk C (retable_leaf u h)) (leaf_walk D h)
  unfolding leaf_walk retable
  leaf_go h b R = ap₂ (λ h' K. record { plan = leaf h'; kept = K; overlong = false }) (leaf_rule_lem h R) (leaf-kept h R)

  binary_go : (h : Binary) (fl fr : List Pair) (go₁ go₁' go₂ go₂' : Go) → SameGo go₁ go₁' → SameGo go₂ go₂' → SameGo (binary_walk C h fl fr go₁ go₂) (binary_walk D h fl fr go₁' go₂')
  unfolding binary_walk retable
  binary_go h fl fr go₁ go₁' go₂ go₂' g₁ g₂ b R =
      let Q₁ = left_ask h fl fr R in
      let Q₂ = right_ask h fl fr R in
      let w₁ = go₁' true Q₁ in
      let w₂ = go₂' true Q₂ in
      ap₂ (λ v₁ v₂. record { plan = binary h (top_up C fl Q₁ v₁.plan) (top_up C fr Q₂ v₂.plan); kept = binary_kept h fl fr R; overlong = v₁.overlong || v₂.overlong }) (g₁ true Q₁) (g₂ true Q₂)
      ∙ ap₂ (λ p₁ p₂. record { plan = binary h p₁ p₂; kept = binary_kept h fl fr R; overlong = w₁.overlong || w₂.overlong }) (top_up_lem fl Q₁ w₁.plan) (top_up_lem fr Q₂ w₂.plan)

  module _ (M : Merge) (key : List ℕ) (fs : List Pair) (go go' : Option (List Item) → Go) (g : (q : Option (List Item)) → SameGo (go q) (go' q)) where
    node_go : (h : Unary) (q : Option (List Item)) → SameGo (node_walk C h key fs go q) (node_walk D h key fs go' q)
    unfolding node_walk
    node_go h q = pend_go q (unary_fields h fs) _ _ (λ b R. run-same fs (unary_like key fs h b R) (go none) (go' none) (g none))

    unary_go : (h : Unary) (q : Option (List Item)) → SameGo (unary_walk M C h key fs go q) (unary_walk M D h key fs go' q)
    unfolding unary_walk
    unary_go (projection is) none = g (some is)
    unary_go (projection is) (some js) = merged_go (M js is) _ _ _ _ (λ ks. g (some ks)) (pend_go (some js) (map item_pair is) (go (some is)) (go' (some is)) (g (some is)))
    unary_go (filter e) q = node_go (filter e) q
    unary_go (sort ks) q = node_go (sort ks) q
    unary_go (limit s n) q = node_go (limit s n) q
    unary_go (aggregate gs vs) q = node_go (aggregate gs vs) q
    unary_go (window ws) q = node_go (window ws) q
    unary_go (subquery_alias x) q = node_go (subquery_alias x) q
    unary_go distinct q = node_go distinct q

  module _ (M : Merge) where
    pub walk-retable : (p : Plan) (q : Option (List Item)) → SameGo (walk M C (retable u p) q) (walk M D p q)
    unfolding walk retable
    walk-retable (leaf h) q = λ b R. ap (λ fs. pend C q fs (leaf_walk C (retable_leaf u h)) b R) (leaf_fields_lem h) ∙ pend_go q (leaf_fields D h) _ _ (leaf_go h) b R
    walk-retable (unary h p) q = λ b R. ap₂ (λ key fs. unary_walk M C h key fs (λ q b R. walk M C (retable u p) q b R) q b R) (key-same p) (fields p) ∙ unary_go M (key_of D p) (fields_of D p) _ _ (λ q. walk-retable p q) h q b R
    walk-retable (binary h p₁ p₂) q = λ b R.
        ap₂ (λ fl fr. pend C q (binary_fields h fl fr) (binary_walk C h fl fr (λ b R. walk M C (retable u p₁) none b R) (λ b R. walk M C (retable u p₂) none b R)) b R) (fields p₁) (fields p₂)
        ∙ pend_go q (binary_fields h (fields_of D p₁) (fields_of D p₂)) _ _ (binary_go h (fields_of D p₁) (fields_of D p₂) _ _ _ _ (walk-retable p₁ none) (walk-retable p₂ none)) b R

  -- ── the scans that are left ───────────────────────────────────────────────────────────────

  abbrev SameLeft : Left → Left → Type 0
  SameLeft s s' = (b : Bool) (R : Mask) → s b R ≡ map found (s' b R)

  job-left : {j j' : Job} → Like j j' → (s s' : Left) → SameLeft s s' → job_scans j s ≡ map found (job_scans j' s')
  unfolding job_scans
  job-left (both-done e) s s' g = refl
  job-left (both-ask {b = b} {Q = Q} k) s s' g = g b Q

  pend-left : (q : Option (List Item)) (fs : List Pair) (s s' : Left) → SameLeft s s' → SameLeft (pend_scans C q fs s) (pend_scans D q fs s')
  unfolding pend_scans
  pend-left none fs s s' g = g
  pend-left (some is) fs s s' g = λ b R. job-left (projection_like is fs R) s s' g

  merged-left : (r : Option (List Item)) (s s' : List Item → Left) (t t' : Left) → ((ks : List Item) → SameLeft (s ks) (s' ks)) → SameLeft t t' → SameLeft (merged_scans r s t) (merged_scans r s' t')
  unfolding merged_scans
  merged-left none s s' t t' g h = h
  merged-left (some ks) s s' t t' g h = g ks

  leaf-scans : (at : ℕ) (h : Leaf) → numbered at (leaf_scans (retable_leaf u h)) ≡ map found (numbered at (leaf_scans h))
  unfolding numbered leaf_scans retable_leaf
  leaf-scans at (scan t q is es) = refl
  leaf-scans at (empty b cs) = refl

  leaf-left : (h : Leaf) (at : ℕ) → SameLeft (leaf_left C (retable_leaf u h) at) (leaf_left D h at)
  unfolding leaf_left
  leaf-left h at b R = ap (λ k. numbered at (leaf_scans k)) (leaf_rule_lem h R) ∙ leaf-scans at (leaf_rule D h R)

  binary-left : (h : Binary) (fl fr : List Pair) (s₁ s₁' s₂ s₂' : Left) → SameLeft s₁ s₁' → SameLeft s₂ s₂' → SameLeft (binary_scans h fl fr s₁ s₂) (binary_scans h fl fr s₁' s₂')
  unfolding binary_scans
  binary-left h fl fr s₁ s₁' s₂ s₂' g₁ g₂ b R = ap₂ ◌++◌ (g₁ true _) (g₂ true _) ∙ sym (map_++ found (s₁' true (left_ask h fl fr R)) (s₂' true (right_ask h fl fr R)))

  nodes-same : (p : Plan) → plan_nodes (retable u p) ≡ plan_nodes p
  unfolding plan_nodes retable
  nodes-same (leaf h) = refl
  nodes-same (unary h p) = ap suc (nodes-same p)
  nodes-same (binary h p₁ p₂) = ap₂ (λ m n. suc (m + n)) (nodes-same p₁) (nodes-same p₂)

  module _ (M : Merge) where
    unary-left : (own q : Option (List Item)) (fs : List Pair) (job job' : Bool → Mask → Job) → ((b : Bool) (R : Mask) → Like (job b R) (job' b R))
        → (s s' : Option (List Item) → Left) → ((q : Option (List Item)) → SameLeft (s q) (s' q)) → SameLeft (unary_scans M C own q fs job s) (unary_scans M D own q fs job' s')
    unfolding unary_scans
    unary-left (some is) none fs job job' k s s' g = g (some is)
    unary-left (some is) (some js) fs job job' k s s' g = merged-left (M js is) _ _ _ _ (λ ks. g (some ks)) (pend-left (some js) fs (s (some is)) (s' (some is)) (g (some is)))
    unary-left none q fs job job' k s s' g = pend-left q fs _ _ (λ b R. job-left (k b R) (s none) (s' none) (g none))

    pub left-retable : (p : Plan) (at : ℕ) (q : Option (List Item)) → SameLeft (walk_scans M C (retable u p) at q) (walk_scans M D p at q)
    unfolding walk_scans retable
    left-retable (leaf h) at q = λ b R. ap (λ fs. pend_scans C q fs (leaf_left C (retable_leaf u h) at) b R) (leaf_fields_lem h) ∙ pend-left q (leaf_fields D h) _ _ (leaf-left h at) b R
    left-retable (unary h p) at q = λ b R.
        ap₂ (λ key fs. unary_scans M C (items_of h) q (unary_fields h fs) (unary_job C h key fs) (λ q b R. walk_scans M C (retable u p) (suc at) q b R) b R) (key-same p) (fields p)
        ∙ unary-left (items_of h) q _ _ _ (unary_like (key_of D p) (fields_of D p) h) _ _ (λ q. left-retable p (suc at) q) b R
    left-retable (binary h p₁ p₂) at q = λ b R.
        ap₂ (λ fl fr. pend_scans C q (binary_fields h fl fr) (binary_scans h fl fr (λ b R. walk_scans M C (retable u p₁) (suc at) none b R) (λ b R. walk_scans M C (retable u p₂) (suc (at + plan_nodes (retable u p₁))) none b R)) b R) (fields p₁) (fields p₂)
        ∙ (ap (λ n. pend_scans C q (binary_fields h (fields_of D p₁) (fields_of D p₂)) (binary_scans h (fields_of D p₁) (fields_of D p₂) (λ b R. walk_scans M C (retable u p₁) (suc at) none b R) (λ b R. walk_scans M C (retable u p₂) (suc (at + n)) none b R)) b R) (nodes-same p₁)
        ∙ pend-left q (binary_fields h (fields_of D p₁) (fields_of D p₂)) _ _ (binary-left h (fields_of D p₁) (fields_of D p₂) _ _ _ _ (left-retable p₁ (suc at) none) (left-retable p₂ (suc (at + plan_nodes p₁)) none)) b R)
