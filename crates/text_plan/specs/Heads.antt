-- The text of a node, and of a plan, by what the lent arrays hold.
use Rattle.std.specs.Prelude.{◌≡◌, true, List, [], ℕ, ◌+◌, ◌<◌}
use Rattle.cpl.specs.Plan.{Catalogue, join, scan}
use Rattle.plan_text.specs.Write.{Text, binary_text, head_text, leaf_text}
use Rattle.arena.specs.Cells.{Wf, expr_at}
use Rattle.tree.specs.Node.{join_is}
use Rattle.tree.specs.Rows.{EachOk, ExprOk, Inside, OnOk, columns_at, exprs_at, ons_at}
use Rattle.tree.specs.Tree.{WfTree, PartsOk, head_of, if?, lent}
use Rattle.tree.specs.declared.JoinNode.{JoinNode}
use Rattle.tree.specs.declared.Node.{Node}
use Rattle.tree.specs.declared.ScanNode.{ScanNode}

-- ── nodes ───────────────────────────────────────────────────────────────────────────────────

abbrev pub join_at : (rows cells : List ℕ) → JoinNode → Text
join_at s cells j = binary_text (join (join_is j.join_type) (ons_at s cells j.first j.n) (if? j.has_filter (expr_at cells j.filter)))

abbrev pub JoinOk : (rows cells : List ℕ) → JoinNode → Type 0
JoinOk s cells j = EachOk (OnOk s cells) s j.first j.n × (j.has_filter ≡ true → Wf cells (j.filter + 1))

abbrev pub scan_at : (rows cells : List ℕ) → ScanNode → Text
scan_at s cells n = leaf_text (scan n.table n.qualifier (if? n.given (columns_at s n.first n.n)) (exprs_at s cells (n.first + n.n) n.filters))

abbrev pub ScanOk : (rows cells : List ℕ) → ScanNode → Type 0
ScanOk s cells n = EachOk (Inside s) s n.first n.n × EachOk (ExprOk s cells) s (n.first + n.n) n.filters

-- a node without its inputs; nothing of it stands in the array of nodes but what it was taken apart into
abbrev pub node_text : (rows cells : List ℕ) → Node → Text
node_text s cells n = head_text (head_of (lent cells s []) n)

abbrev pub NodeOk : (rows cells : List ℕ) → Node → Type 0
NodeOk s cells n = PartsOk (lent cells s []) n

-- ── plans ───────────────────────────────────────────────────────────────────────────────────

-- node k of a plan that code can walk
pub record Walks (cells rows nodes : List ℕ) (k : ℕ) : Type 0 where
  pub C : Catalogue
  pub count : ℕ
  pub tree : WfTree C (lent cells rows nodes) count
  pub below : k < count
