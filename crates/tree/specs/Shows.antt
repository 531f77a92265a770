-- What a node, or a row, that was taken apart says of the plan.
use Rattle.std.specs.Prelude.{◌≡◌, List, ℕ, ◌+◌, ◌<◌}
use Rattle.cpl.specs.Exprs.{plan_nodes}
use Rattle.cpl.specs.Plan.{agg, Catalogue, on, Unary, Binary, leaf, unary, binary, pair, win}
use Rattle.cpl.specs.ReadPlan.{Head, h0, h1, h2}
use Rattle.arena.specs.Cells.{expr_at, Wf}
use Rattle.arena.specs.Rows.{pair_at, mark_at, root_at}
use Rattle.tree.specs.Rows.{AggOk, EachOk, ExprOk, KeyOk, OnOk, WinOk, agg_at, call_of, exprs_at, key_at, key_of, keys_at, keys_row, number_at, on_at, win_at, win_size}
use Rattle.tree.specs.Node.{node_at}
use Rattle.tree.specs.Tree.{Arrays, PartsOk, WfTree, head_of, lent, plan_at, right_of}
use Rattle.tree.specs.declared.Node.{Node}

-- ── nodes ───────────────────────────────────────────────────────────────────────────────────

pub record HasInput (a : Arrays) (count k : ℕ) (h : Unary) : Type 0 where
  pub plan : plan_at a k ≡ unary h (plan_at a (k + 1))
  pub below : k + 1 < count

-- the second input starts where the first ends
pub record HasInputs (a : Arrays) (count k right : ℕ) (h : Binary) : Type 0 where
  pub plan : plan_at a k ≡ binary h (plan_at a (k + 1)) (plan_at a right)
  pub after : k + 1 < right
  pub ends : right ≡ k + 1 + plan_nodes (plan_at a (k + 1))
  pub below : right < count

abbrev pub Stands : Arrays → (count k right : ℕ) → Head → Type 0
Stands a count k right (h0 h) = plan_at a k ≡ leaf h
Stands a count k right (h1 h) = HasInput a count k h
Stands a count k right (h2 h) = HasInputs a count k right h

-- the plan at node k is what the node says, over its inputs; its rows and roots can be gone through
abbrev pub Shows : Arrays → (count k : ℕ) → Node → Type 0
Shows a count k n = Stands a count k (right_of n) (head_of a n) × PartsOk a n

-- n is what the numbers of node k say, so in any tree that these numbers are part of it shows the plan at k
pub record TakenApart (nodes : List ℕ) (k : ℕ) (n : Node) : Type 0 where
  pub is : n ≡ node_at nodes k
  pub shows : (C : Catalogue) (cells rows : List ℕ) (count : ℕ) → WfTree C (lent cells rows nodes) count → k < count → Shows (lent cells rows nodes) count k n

-- ── rows ────────────────────────────────────────────────────────────────────────────────────

pub record KeyIs (s : List ℕ) (i flags root : ℕ) : Type 0 where
  pub flags_is : flags ≡ number_at s i
  pub root_is : root ≡ root_at s i
  pub means : (cells : List ℕ) → key_at s cells i ≡ key_of flags (expr_at cells root)
  pub node : (cells : List ℕ) → KeyOk s cells i → Wf cells (root + 1)

pub record AggIs (s : List ℕ) (i q n f root : ℕ) : Type 0 where
  pub pair_is : pair q n ≡ pair_at s i
  pub function_is : f ≡ mark_at s i
  pub root_is : root ≡ root_at s i
  pub means : (cells : List ℕ) → agg_at s cells i ≡ agg (pair q n) (call_of f (expr_at cells root))
  pub node : (cells : List ℕ) → AggOk s cells i → 0 < f → Wf cells (root + 1)

-- p parts from row i + 1 on, k keys from row `key` on, the next window at row `next`
pub record WinIs (s : List ℕ) (i q n f p key k root next : ℕ) : Type 0 where
  pub pair_is : pair q n ≡ pair_at s i
  pub function_is : f ≡ mark_at s i
  pub parts_are : p ≡ root_at s i
  pub key_is : key ≡ keys_row s i + 1
  pub keys_are : k ≡ number_at s (keys_row s i)
  pub root_is : root ≡ root_at s (keys_row s i)
  pub next_is : next ≡ i + win_size s i
  pub means : (cells : List ℕ) → win_at s cells i ≡ win (pair q n) (call_of f (expr_at cells root)) (exprs_at s cells (i + 1) p) (keys_at s cells key k)
  pub parts : (cells : List ℕ) → WinOk s cells i → EachOk (ExprOk s cells) s (i + 1) p
  pub keys : (cells : List ℕ) → WinOk s cells i → EachOk (KeyOk s cells) s key k
  pub node : (cells : List ℕ) → WinOk s cells i → 0 < f → Wf cells (root + 1)

pub record OnIs (s : List ℕ) (i left right : ℕ) : Type 0 where
  pub left_is : left ≡ mark_at s i
  pub right_is : right ≡ root_at s i
  pub means : (cells : List ℕ) → on_at s cells i ≡ on (expr_at cells left) (expr_at cells right)
  pub left_node : (cells : List ℕ) → OnOk s cells i → Wf cells (left + 1)
  pub right_node : (cells : List ℕ) → OnOk s cells i → Wf cells (right + 1)
