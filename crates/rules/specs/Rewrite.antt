-- The pass over a whole plan: document 01's rules applied from the root downwards, with merges.
use Rattle.std.specs.Prelude.{List, map, Bool, true, false, cond, ◌||◌, ℕ, ltb}
use Rattle.std.proofs.Math.Option.{Option, none, some}
use Rattle.cpl.specs.Tests.{sum_of}
use Rattle.cpl.specs.Limits.{max_tags}
use Rattle.cpl.specs.Plan.{Pair, Item, Leaf, Unary, projection, filter, sort, limit, aggregate, window, subquery_alias, distinct, Binary, Plan, leaf, unary, binary, Catalogue, item_pair}
use Rattle.cpl.specs.Exprs.{item_tags}
use Rattle.cpl.specs.Fields.{leaf_fields, unary_fields, binary_fields, fields_of}
use Rattle.rules.specs.Mask.{Mask}
use Rattle.rules.specs.Keys.{key_of}
use Rattle.rules.specs.Merge.{Merge}
use Rattle.rules.specs.Rules.{top_up, leaf_rule, leaf_kept, Job, done, ask, projection_job, unary_job, left_ask, right_ask, binary_kept}

-- what the pass makes of a plan: the new plan, which of the old fields it has, and whether "a merge step's list is over 4,096 tags"
pub record Walked : Type 0 where
  pub plan : Plan
  pub kept : Mask
  pub overlong : Bool

-- the pass over an input: whether its request is beneficial, and the request
abbrev pub Go : Type 0
Go = Bool → Mask → Walked

-- an input, asked with Q
unfoldable pub input : Catalogue → List Pair → (topped : Bool) → Mask → Plan → Plan
input C fs topped Q p' = cond topped (top_up C fs Q p') p'

unfoldable pub run_job : Catalogue → (fields : List Pair) → Job → Go → Walked
run_job C fs (done result K) go = record { plan = result; kept = K; overlong = false }
run_job C fs (ask b Q topped node left) go =
    let w = go b Q in
    record { plan = node (input C fs topped Q w.plan); kept = left (cond topped Q w.kept); overlong = w.overlong }

-- ── a projection on its way down: "Merge, repeated while the child is a Projection and a step applies" ──

-- a projection that is still to be put on top of a plan with these fields, if any
unfoldable pub pend : Catalogue → Option (List Item) → (fields : List Pair) → Go → Go
pend C none fs go = go
pend C (some is) fs go = λ b R. run_job C fs (projection_job C is fs R) go

unfoldable pub too_long : List Item → Bool
too_long is = ltb max_tags (sum_of item_tags is)

unfoldable pub measured : List Item → Walked → Walked
measured ks w = record { plan = w.plan; kept = w.kept; overlong = too_long ks || w.overlong }

-- the merged list goes on down, or the upper list stops over the lower one
unfoldable pub merged : Option (List Item) → (List Item → Go) → Go → Go
merged none on-down stop = stop
merged (some ks) on-down stop = λ b R. measured ks (on-down ks b R)

-- ── one node ────────────────────────────────────────────────────────────────────────────────

unfoldable pub leaf_walk : Catalogue → Leaf → Go
leaf_walk C h b R = record { plan = leaf (leaf_rule C h R); kept = leaf_kept h R; overlong = false }

-- a node that is no projection, over an input with this key and these fields
unfoldable pub node_walk : Catalogue → Unary → (key : List ℕ) (fields : List Pair) → (Option (List Item) → Go) → Option (List Item) → Go
node_walk C h key fs go q = pend C q (unary_fields h fs) (λ b R. run_job C fs (unary_job C h key fs b R) (go none))

unfoldable pub unary_walk : Merge → Catalogue → Unary → (key : List ℕ) (fields : List Pair) → (Option (List Item) → Go) → Option (List Item) → Go
unary_walk M C (projection is) key fs go none = go (some is)
unary_walk M C (projection is) key fs go (some js) = merged (M js is) (λ ks. go (some ks)) (pend C (some js) (map item_pair is) (go (some is)))
unary_walk M C (filter e) key fs go q = node_walk C (filter e) key fs go q
unary_walk M C (sort ks) key fs go q = node_walk C (sort ks) key fs go q
unary_walk M C (limit s n) key fs go q = node_walk C (limit s n) key fs go q
unary_walk M C (aggregate gs vs) key fs go q = node_walk C (aggregate gs vs) key fs go q
unary_walk M C (window ws) key fs go q = node_walk C (window ws) key fs go q
unary_walk M C (subquery_alias x) key fs go q = node_walk C (subquery_alias x) key fs go q
unary_walk M C distinct key fs go q = node_walk C distinct key fs go q

unfoldable pub binary_walk : Catalogue → Binary → (fl fr : List Pair) → Go → Go → Go
binary_walk C h fl fr go₁ go₂ b R =
    let Q₁ = left_ask h fl fr R in
    let Q₂ = right_ask h fl fr R in
    let w₁ = go₁ true Q₁ in
    let w₂ = go₂ true Q₂ in
    record { plan = binary h (top_up C fl Q₁ w₁.plan) (top_up C fr Q₂ w₂.plan); kept = binary_kept h fl fr R; overlong = w₁.overlong || w₂.overlong }

-- ── the pass ────────────────────────────────────────────────────────────────────────────────

-- `q`: a projection still to be put on top of the plan
unfoldable pub walk : Merge → Catalogue → Plan → (q : Option (List Item)) → Go
walk M C (leaf h) q = pend C q (leaf_fields C h) (leaf_walk C h)
walk M C (unary h p) q = unary_walk M C h (key_of C p) (fields_of C p) (λ q b R. walk M C p q b R) q
walk M C (binary h p₁ p₂) q =
    let fl = fields_of C p₁ in
    let fr = fields_of C p₂ in
    pend C q (binary_fields h fl fr) (binary_walk C h fl fr (λ b R. walk M C p₁ none b R) (λ b R. walk M C p₂ none b R))

-- the plan's pass from the root
abbrev pub rewrite : Merge → Catalogue → Plan → Mask → Walked
rewrite M C p R = walk M C p none false R
