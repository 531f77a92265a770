-- The rewritten plan in lent arrays: a record for each node, the inputs' records before it. A record names an old node and the part of it that is
-- left, so nothing is copied but the merged projections, whose items stand in rows and cells of their own.
use Rattle.std.specs.Prelude.{true, List, [], map, ℕ, zero, suc, ◌+◌, ◌*◌, ◌/◌, ◌^◌, eqb, length, get_or}
use Rattle.cpl.specs.Plan.{Pair, bare, Leaf, empty, Unary, projection, filter, sort, limit, aggregate, window, subquery_alias, distinct, Plan, leaf, unary, binary, Catalogue}
use Rattle.cpl.specs.Fields.{leaf_fields, fields_of}
use Rattle.cpl.specs.Read.{pick}
use Rattle.cpl.specs.ReadPlan.{Head, h0, h1, h2}
use Rattle.rules.specs.Mask.{select}
use Rattle.rules.specs.Rules.{leaf_rule}
use Rattle.required_indices.specs.Set.{set_mask}
use Rattle.required_indices.specs.Request.{stored_at, stored_n}
use Rattle.arena.specs.Rows.{items_at}
use Rattle.tree.specs.Node.{node_at}
use Rattle.tree.specs.Tree.{Arrays, head_of, plan_at}

-- the lent arrays: records, and the rows and cells of merged projections
pub record Results : Type 0 where
  pub records : List ℕ
  pub items : List ℕ
  pub cells : List ℕ

-- ── a record: its form, a number, its inputs' records, a set as it is stored ────────────────

-- numbers to a record
abbrev pub record_n : ℕ
record_n = 4 + stored_n

abbrev pub form_at : List ℕ → ℕ → ℕ
form_at s i = get_or s (i * record_n) 0

abbrev pub old_at : List ℕ → ℕ → ℕ
old_at s i = get_or s (i * record_n + 1) 0

abbrev pub first_at : List ℕ → ℕ → ℕ
first_at s i = get_or s (i * record_n + 2) 0

abbrev pub second_at : List ℕ → ℕ → ℕ
second_at s i = get_or s (i * record_n + 3) 0

-- the set of a record
abbrev pub set_at : List ℕ → ℕ → ℕ
set_at s i = stored_at s (i * record_n + 4)

-- ── what a record stands for ────────────────────────────────────────────────────────────────

-- an old node with the part of its own list that the set has: columns of a scan, groups and behind them aggregates, window expressions
unfoldable pub leaf_part : Catalogue → (set : ℕ) → Leaf → Leaf
leaf_part C s h = leaf_rule C h (set_mask (length (leaf_fields C h)) s)

unfoldable pub unary_part : (set : ℕ) → Unary → Unary
unary_part s (projection is) = projection is
unary_part s (filter e) = filter e
unary_part s (sort ks) = sort ks
unary_part s (limit k n) = limit k n
unary_part s (aggregate gs vs) = aggregate (select (set_mask (length gs) s) gs) (select (set_mask (length vs) (s / 2 ^ length gs)) vs)
unary_part s (window ws) = window (select (set_mask (length ws) s) ws)
unary_part s (subquery_alias q) = subquery_alias q
unary_part s distinct = distinct

-- form 0: that node over the records of its inputs
abbrev pub kept_node : Catalogue → (set : ℕ) → Head → (first second : Plan) → Plan
kept_node C s (h0 h) p q = leaf (leaf_part C s h)
kept_node C s (h1 h) p q = unary (unary_part s h) p
kept_node C s (h2 h) p q = binary h p q

-- form 1: a projection of an old node's fields at the set, as columns
unfoldable pub columns_node : List Pair → (set : ℕ) → Plan → Plan
columns_node fs s p = unary (projection (map bare (select (set_mask (length fs) s) fs))) p

-- form 3: "one-row Empty with no fields"
abbrev pub nothing_left : Plan
nothing_left = leaf (empty true [])

-- form 2 is a projection of items that stand in the result's own rows and cells: the first row, and how many (in the second input's place)
unfoldable pub formed : Catalogue → Arrays → Results → (form old first second set : ℕ) (p q : Plan) → Plan
formed C a r form old first second s p q =
    pick (eqb form 0) (kept_node C s (head_of a (node_at a.nodes old)) p q)
    (pick (eqb form 1) (columns_node (fields_of C (plan_at a old)) s p)
    (pick (eqb form 2) (unary (projection (items_at r.items r.cells old second)) p) nothing_left))

-- the plan of record i, as far as it is nested less than `deep` deep
unfoldable pub result_to : (deep : ℕ) → Catalogue → Arrays → Results → ℕ → Plan
result_to zero C a r i = nothing_left
result_to (suc deep) C a r i =
    let s = r.records in
    let p = result_to deep C a r (first_at s i) in
    let q = result_to deep C a r (second_at s i) in
    formed C a r (form_at s i) (old_at s i) (first_at s i) (second_at s i) (set_at s i) p q

-- the plan of record i: its inputs have smaller numbers
unfoldable pub result_at : Catalogue → Arrays → Results → ℕ → Plan
result_at C a r i = result_to (suc i) C a r i
