-- What the lent arrays stand for: a plan at each node, whatever numbers they hold; and when code can walk it.
use Rattle.std.specs.Prelude.{◌≡◌, Bool, true, false, List, [], ℕ, zero, suc, ◌+◌, ◌<◌, ◌≤◌}
use Rattle.std.proofs.Math.Option.{Option, none, some}
use Rattle.cpl.specs.Limits.{max_nodes, max_tags}
use Rattle.cpl.specs.Exprs.{plan_nodes, plan_tags}
use Rattle.cpl.specs.Plan.{Catalogue, scan, empty, projection, filter, sort, limit, aggregate, window, subquery_alias, distinct, union, join, Plan, leaf, unary, binary}
use Rattle.cpl.specs.ReadPlan.{Head, h0, h1, h2, fetch_of}
use Rattle.cpl.specs.Writable.{FitPlan}
use Rattle.arena.specs.Cells.{expr_at, Wf}
use Rattle.arena.specs.Rows.{items_at, RowsOk}
use Rattle.tree.specs.Rows.{AllAt, EachOk, AggOk, ExprOk, Inside, KeyOk, OnOk, WinOk, aggs_at, columns_at, exprs_at, keys_at, ons_at, pairs_at, win_size, wins_at}
use Rattle.tree.specs.Node.{NodeFits, join_is, node_at}
use Rattle.tree.specs.declared.Node.{Node}
use Rattle.tree.specs.declared.Node.TheVariants.{Projection, Filter, Sort, Limit, Aggregate, Window, SubqueryAlias, Union, Distinct, Join, Scan, Empty}

-- the three lent arrays
pub record Arrays : Type 0 where
  pub cells : List ℕ
  pub rows : List ℕ
  pub nodes : List ℕ

abbrev pub lent : (cells rows nodes : List ℕ) → Arrays
lent cells rows nodes = record { cells = cells; rows = rows; nodes = nodes }

-- ── nodes without their inputs ──────────────────────────────────────────────────────────────

-- what may be missing
abbrev pub if? : {A : Type 0} → Bool → A → Option A
if? true x = some x
if? false x = none

-- what a node stands for, without its inputs
abbrev pub head_of : Arrays → Node → Head
head_of a (Projection f n) = h1 (projection (items_at a.rows a.cells f n))
head_of a (Filter r) = h1 (filter (expr_at a.cells r))
head_of a (Sort f n) = h1 (sort (keys_at a.rows a.cells f n))
head_of a (Limit s n) = h1 (limit s (fetch_of n))
head_of a (Aggregate f g v) = h1 (aggregate (items_at a.rows a.cells f g) (aggs_at a.rows a.cells (f + g) v))
head_of a (Window f n) = h1 (window (wins_at a.rows a.cells f n))
head_of a (SubqueryAlias q) = h1 (subquery_alias q)
head_of a (Union r) = h2 union
head_of a Distinct = h1 distinct
head_of a (Join j) =
    h2 (join (join_is j.join_type) (ons_at a.rows a.cells j.first j.n) (if? j.has_filter (expr_at a.cells j.filter)))
head_of a (Scan s) =
    h0 (scan s.table s.qualifier (if? s.given (columns_at a.rows s.first s.n)) (exprs_at a.rows a.cells (s.first + s.n) s.filters))
head_of a (Empty b f n) = h0 (empty b (pairs_at a.rows f n))

-- the number of the second input, where there is one
abbrev pub right_of : Node → ℕ
right_of (Projection f n) = 0
right_of (Filter r) = 0
right_of (Sort f n) = 0
right_of (Limit s n) = 0
right_of (Aggregate f g v) = 0
right_of (Window f n) = 0
right_of (SubqueryAlias q) = 0
right_of (Union r) = r
right_of Distinct = 0
right_of (Join j) = j.right
right_of (Scan s) = 0
right_of (Empty b f n) = 0

-- the rows of a node lie in the array, and every root in it is that of a well formed expression
abbrev pub PartsOk : Arrays → Node → Type 0
PartsOk a (Projection f n) = RowsOk a.rows a.cells f n
PartsOk a (Filter r) = Wf a.cells (r + 1)
PartsOk a (Sort f n) = EachOk (KeyOk a.rows a.cells) a.rows f n
PartsOk a (Limit s n) = Unit {0}
PartsOk a (Aggregate f g v) = RowsOk a.rows a.cells f g × EachOk (AggOk a.rows a.cells) a.rows (f + g) v
PartsOk a (Window f n) = AllAt (WinOk a.rows a.cells) (win_size a.rows) f n
PartsOk a (SubqueryAlias q) = Unit {0}
PartsOk a (Union r) = Unit {0}
PartsOk a Distinct = Unit {0}
PartsOk a (Join j) = EachOk (OnOk a.rows a.cells) a.rows j.first j.n × (j.has_filter ≡ true → Wf a.cells (j.filter + 1))
PartsOk a (Scan s) = EachOk (Inside a.rows) a.rows s.first s.n × EachOk (ExprOk a.rows a.cells) a.rows (s.first + s.n) s.filters
PartsOk a (Empty b f n) = EachOk (Inside a.rows) a.rows f n

-- ── plans ───────────────────────────────────────────────────────────────────────────────────

-- a node over its inputs
abbrev pub build : Head → (first second : Plan) → Plan
build (h0 h) p q = leaf h
build (h1 h) p q = unary h p
build (h2 h) p q = binary h p q

-- the plan at node k as far as it is nested less than `deep` deep: the first input is the next node, the second is named by the node
unfoldable pub plan_to : (deep : ℕ) → Arrays → ℕ → Plan
plan_to zero a k = leaf (empty false [])
plan_to (suc deep) a k =
    let n = node_at a.nodes k in
    let p = plan_to deep a (k + 1) in
    let q = plan_to deep a (right_of n) in
    build (head_of a n) p q

-- the plan at node k
unfoldable pub plan_at : Arrays → ℕ → Plan
plan_at a k = plan_to max_nodes a k

-- ── a tree that code can walk ───────────────────────────────────────────────────────────────

-- the inputs are nodes of the tree, and the second starts where the first ends
abbrev pub InputsOk : Arrays → (count k right : ℕ) → Head → Type 0
InputsOk a count k right (h0 h) = Unit {0}
InputsOk a count k right (h1 h) = k + 1 < count
InputsOk a count k right (h2 h) = (right ≡ k + 1 + plan_nodes (plan_at a (k + 1))) × (right < count)

-- node k of a tree of `count` nodes: its numbers, its rows and roots, its inputs; and its plan can be written
pub record WfNode (C : Catalogue) (a : Arrays) (count k : ℕ) : Type 0 where
  pub numbers : NodeFits a.nodes k
  pub parts : PartsOk a (node_at a.nodes k)
  pub inputs : InputsOk a count k (right_of (node_at a.nodes k)) (head_of a (node_at a.nodes k))
  pub fit : FitPlan C (plan_at a k)
  pub tags : plan_tags (plan_at a k) ≤ max_tags
  pub within : k + plan_nodes (plan_at a k) ≤ count

-- the first `count` nodes are such nodes: "At most 256 nodes"
pub record WfTree (C : Catalogue) (a : Arrays) (count : ℕ) : Type 0 where
  pub few : count ≤ max_nodes
  pub each : (k : ℕ) → k < count → WfNode C a count k
