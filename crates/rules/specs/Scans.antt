-- Which scans of the old plan the pass leaves, each followed "by its node number in the old plan" (document 02, request 10), and what they then read.
use Rattle.std.specs.Prelude.{◌≡◌, List, [], ◌∷◌, ◌++◌, map, Bool, true, false, ◌&&◌, ℕ, suc, ◌+◌, ◌≤◌, ◌<◌, T, eqb}
use Rattle.std.proofs.Math.Option.{Option, none, some}
use Rattle.cpl.specs.Tests.{any_b}
use Rattle.cpl.specs.Plan.{Pair, Expr, Item, Leaf, scan, empty, Unary, projection, filter, sort, limit, aggregate, window, subquery_alias, distinct, Binary, Plan, leaf, unary, binary, Catalogue, names_of}
use Rattle.cpl.specs.Exprs.{plan_nodes}
use Rattle.cpl.specs.Fields.{columns_of, leaf_fields, unary_fields, binary_fields, fields_of}
use Rattle.rules.specs.Mask.{Mask}
use Rattle.rules.specs.Keys.{key_of}
use Rattle.rules.specs.Merge.{Merge}
use Rattle.rules.specs.Rules.{leaf_rule, Job, done, ask, projection_job, unary_job, left_ask, right_ask}

-- ── the scans of a plan ─────────────────────────────────────────────────────────────────────

unfoldable pub leaf_scans : Leaf → List Leaf
leaf_scans (scan t q is es) = scan t q is es ∷ []
leaf_scans (empty b cs) = []

-- in prefix order, as they stand in the file
unfoldable pub scans : Plan → List Leaf
scans (leaf h) = leaf_scans h
scans (unary h p) = scans p
scans (binary h p₁ p₂) = scans p₁ ++ scans p₂

-- a scan with the number of its node in the old plan
pub record Numbered : Type 0 where
  pub number : ℕ
  pub head : Leaf

unfoldable pub numbered : (at : ℕ) → List Leaf → List Numbered
numbered at hs = map (λ h. record { number = at; head = h }) hs

-- those of a plan whose root is node `at`. "Nodes are numbered in prefix order from 0."
unfoldable pub scans_of : Plan → (at : ℕ) → List Numbered
scans_of (leaf h) at = numbered at (leaf_scans h)
scans_of (unary h p) at = scans_of p (suc at)
scans_of (binary h p₁ p₂) at = scans_of p₁ (suc at) ++ scans_of p₂ (suc (at + plan_nodes p₁))

-- ── the scans that the pass leaves: each definition follows the one of Rewrite that is named beside it ──

-- the scans that are left of an input, by its request (Go)
abbrev pub Left : Type 0
Left = Bool → Mask → List Numbered

-- run_job: of an input that is not walked none is left
unfoldable pub job_scans : Job → Left → List Numbered
job_scans (done result K) go = []
job_scans (ask b Q topped node left) go = go b Q

-- pend
unfoldable pub pend_scans : Catalogue → Option (List Item) → (fields : List Pair) → Left → Left
pend_scans C none fs go = go
pend_scans C (some is) fs go = λ b R. job_scans (projection_job C is fs R) go

-- merged
unfoldable pub merged_scans : Option (List Item) → (List Item → Left) → Left → Left
merged_scans none on-down stop = stop
merged_scans (some ks) on-down stop = on-down ks

-- leaf_walk
unfoldable pub leaf_left : Catalogue → Leaf → (at : ℕ) → Left
leaf_left C h at b R = numbered at (leaf_scans (leaf_rule C h R))

-- a projection's list
unfoldable pub items_of : Unary → Option (List Item)
items_of (projection is) = some is
items_of (filter e) = none
items_of (sort ks) = none
items_of (limit s n) = none
items_of (aggregate gs vs) = none
items_of (window ws) = none
items_of (subquery_alias x) = none
items_of distinct = none

-- unary_walk and node_walk: `own` is the node's list if it is a projection, `pending` the one that comes from above, `fields` are the node's, `job` is its rule
unfoldable pub unary_scans : Merge → Catalogue → (own pending : Option (List Item)) (fields : List Pair) (job : Bool → Mask → Job) → (Option (List Item) → Left) → Left
unary_scans M C (some is) none fs job go = go (some is)
unary_scans M C (some is) (some js) fs job go = merged_scans (M js is) (λ ks. go (some ks)) (pend_scans C (some js) fs (go (some is)))
unary_scans M C none q fs job go = pend_scans C q fs (λ b R. job_scans (job b R) (go none))

-- binary_walk
unfoldable pub binary_scans : Binary → (fl fr : List Pair) → Left → Left → Left
binary_scans h fl fr go₁ go₂ b R =
    let l = go₁ true (left_ask h fl fr R) in
    let r = go₂ true (right_ask h fl fr R) in
    l ++ r

-- walk, with the number of the plan's root
unfoldable pub walk_scans : Merge → Catalogue → Plan → (at : ℕ) → (q : Option (List Item)) → Left
walk_scans M C (leaf h) at q = pend_scans C q (leaf_fields C h) (leaf_left C h at)
walk_scans M C (unary h p) at q = unary_scans M C (items_of h) q (unary_fields h (fields_of C p)) (unary_job C h (key_of C p) (fields_of C p)) (λ q b R. walk_scans M C p (suc at) q b R)
walk_scans M C (binary h p₁ p₂) at q =
    let fl = fields_of C p₁ in
    let fr = fields_of C p₂ in
    pend_scans C q (binary_fields h fl fr) (binary_scans h fl fr (λ b R. walk_scans M C p₁ (suc at) none b R) (λ b R. walk_scans M C p₂ (suc (at + plan_nodes p₁)) none b R))

-- rewrite
abbrev pub scans_under : Merge → Catalogue → Plan → Mask → List Numbered
scans_under M C p R = walk_scans M C p 0 none false R

-- ── what they read ──────────────────────────────────────────────────────────────────────────

unfoldable pub leaf_columns : Catalogue → Leaf → List ℕ
leaf_columns C (scan t q is es) = columns_of (names_of C t) is
leaf_columns C (empty b cs) = []

-- is the scan of this number among them?
unfoldable pub survives : List Numbered → (node : ℕ) → Bool
survives xs n = any_b (λ x. eqb n x.number) xs

-- and does it read this column of its table?
unfoldable pub reads_at : Catalogue → List Numbered → (node column : ℕ) → Bool
reads_at C xs n i = any_b (λ x. eqb n x.number && any_b (eqb i) (leaf_columns C x.head)) xs

-- "each scan of the old plan that survives under the first survives under the second, and the columns it reads under the first are among those it
-- reads under the second"
pub record NoLess (C : Catalogue) (xs ys : List Numbered) : Type 0 where
  pub survive : (n : ℕ) → T (survives xs n) → T (survives ys n)
  pub columns : (n i : ℕ) → T (reads_at C xs n i) → T (reads_at C ys n i)

-- ── that they are the scans of the rewritten plan ───────────────────────────────────────────

-- each of the first list, in order, stands at one of the second
pub data Into {A B : Type 0} (Q : A → B → Type 0) : List A → List B → Type 0 where
  i[] : Into Q [] []
  ◌i∷◌ : {x : A} {y : B} {xs : List A} {ys : List B} → Q x y → Into Q xs ys → Into Q (x ∷ xs) (y ∷ ys)
  pass : {y : B} {xs : List A} {ys : List B} → Into Q xs ys → Into Q xs (y ∷ ys)

infixr 30 ◌i∷◌
-- part of a list, in its order
abbrev pub Part : {A : Type 0} → List A → List A → Type 0
Part {A} xs ys = Into {A = A} {B = A} (λ x y. x ≡ y) xs ys

-- the same scan, of the same table, with part of the columns
pub data Narrower (C : Catalogue) : Leaf → Leaf → Type 0 where
  narrower : {t q : ℕ} {is js : Option (List ℕ)} {es : List Expr} → Part (columns_of (names_of C t) is) (columns_of (names_of C t) js) → Narrower C (scan t q is es) (scan t q js es)

pub record NarrowerAt (C : Catalogue) (x y : Numbered) : Type 0 where
  pub same_node : x.number ≡ y.number
  pub scan_within : Narrower C x.head y.head

-- numbers that rise, from `least` on and below `end`
pub data Rising (end : ℕ) : (least : ℕ) → List Numbered → Type 0 where
  r[] : {least : ℕ} → Rising end least []
  ◌r∷◌ : {least : ℕ} {x : Numbered} {xs : List Numbered} → (least ≤ x.number) × (x.number < end) → Rising end (suc x.number) xs → Rising end least (x ∷ xs)

infixr 30 ◌r∷◌
-- they are the new plan's scans, all of them, in order, exactly as they stand there; each with the number of a scan of the old plan of which it reads a
-- part; and no number comes twice
pub record Followed (C : Catalogue) (old new : Plan) (xs : List Numbered) : Type 0 where
  pub new_scans : map (λ x. x.head) xs ≡ scans new
  pub old_scans : Into (NarrowerAt C) xs (scans_of old 0)
  pub numbers_rise : Rising (plan_nodes old) 0 xs
