-- What the seven numbers of a node stand for, whatever they are. Node k is the numbers at 7 * k.
use Rattle.std.specs.Prelude.{◌≡◌, List, [], ◌∷◌, ℕ, ◌+◌, ◌*◌, ◌^◌, ◌<◌, eqb, length, get_or}
use Rattle.cpl.specs.Codes.{join_number}
use Rattle.cpl.specs.Plan.{j_inner, j_left, j_right, j_full, j_lsemi, j_lanti, j_rsemi, j_ranti}
use Rattle.cpl.specs.Plan
use Rattle.cpl.specs.Read.{pick}
use Rattle.tree.specs.declared.Words.{Words}
use Rattle.tree.specs.declared.JoinType.{JoinType}
use Rattle.tree.specs.declared.JoinType.TheVariants.{Inner, Left, Right, Full, LeftSemi, LeftAnti, RightSemi, RightAnti}
use Rattle.tree.specs.declared.JoinNode.{JoinNode}
use Rattle.tree.specs.declared.Inputs.{Inputs}
use Rattle.tree.specs.declared.Inputs.TheVariants.{Nothing, One, Two}
use Rattle.tree.specs.declared.ScanNode.{ScanNode}
use Rattle.tree.specs.declared.Node.{Node}
use Rattle.tree.specs.declared.Node.TheVariants.{Projection, Filter, Sort, Limit, Aggregate, Window, SubqueryAlias, Union, Distinct, Join, Scan, Empty}

-- the numbers of node k
unfoldable pub words_at : List ℕ → ℕ → Words
words_at s k = record {
  kind = get_or s (k * 7) 0;
  right = get_or s (k * 7 + 1) 0;
  first = get_or s (k * 7 + 2) 0;
  n = get_or s (k * 7 + 3) 0;
  a = get_or s (k * 7 + 4) 0;
  b = get_or s (k * 7 + 5) 0;
  c = get_or s (k * 7 + 6) 0;
}

-- "Join types 0 to 7: Inner, Left, Right, Full, LeftSemi, LeftAnti, RightSemi, RightAnti."
unfoldable pub type_of : ℕ → JoinType
type_of x = get_or (Inner ∷ Left ∷ Right ∷ Full ∷ LeftSemi ∷ LeftAnti ∷ RightSemi ∷ RightAnti ∷ []) x RightAnti

-- the plan language's name of a type
abbrev pub join_is : JoinType → Plan.JoinType
join_is Inner = j_inner
join_is Left = j_left
join_is Right = j_right
join_is Full = j_full
join_is LeftSemi = j_lsemi
join_is LeftAnti = j_lanti
join_is RightSemi = j_rsemi
join_is RightAnti = j_ranti

-- the number of a type
abbrev pub type_number : JoinType → ℕ
type_number t = join_number (join_is t)

unfoldable pub join_node : Words → JoinNode
join_node w = record { join_type = type_of w.a; first = w.first; n = w.n; has_filter = eqb w.b 1; filter = w.c; right = w.right }

unfoldable pub scan_node : Words → ScanNode
scan_node w = record { table = w.a; qualifier = w.b; given = eqb w.c 1; first = w.first; n = w.n; filters = w.right }

-- a node by its kind, the file's tag
unfoldable pub node_of : Words → Node
node_of w =
    pick (eqb w.kind 1) (Projection w.first w.n)
    (pick (eqb w.kind 2) (Filter w.a)
    (pick (eqb w.kind 3) (Sort w.first w.n)
    (pick (eqb w.kind 4) (Limit w.a w.b)
    (pick (eqb w.kind 5) (Aggregate w.first w.n w.a)
    (pick (eqb w.kind 6) (Window w.first w.n)
    (pick (eqb w.kind 7) (SubqueryAlias w.a)
    (pick (eqb w.kind 8) (Union w.right)
    (pick (eqb w.kind 9) Distinct
    (pick (eqb w.kind 10) (Join (join_node w))
    (pick (eqb w.kind 11) (Scan (scan_node w))
    (Empty (eqb w.a 1) w.first w.n)))))))))))

abbrev pub node_at : List ℕ → ℕ → Node
node_at s k = node_of (words_at s k)

-- the numbers of a node fit their types: the two of a Limit, a qualifier
pub record Fits (w : Words) : Type 0 where
  pub limit : w.kind ≡ 4 → (w.a < 2 ^ 32) × (w.b < 2 ^ 32)
  pub alias : w.kind ≡ 7 → w.a < 2 ^ 16
  pub scan : w.kind ≡ 11 → w.b < 2 ^ 16

-- node k lies in the array, and its numbers fit
pub record NodeFits (s : List ℕ) (k : ℕ) : Type 0 where
  pub inside : k * 7 + 6 < length s
  pub numbers : Fits (words_at s k)

-- the inputs of a node: none, the next node, or that and the node with this number
abbrev pub inputs_of : Node → Inputs
inputs_of (Projection f n) = One
inputs_of (Filter r) = One
inputs_of (Sort f n) = One
inputs_of (Limit s n) = One
inputs_of (Aggregate f g v) = One
inputs_of (Window f n) = One
inputs_of (SubqueryAlias q) = One
inputs_of (Union r) = Two r
inputs_of Distinct = One
inputs_of (Join j) = Two j.right
inputs_of (Scan s) = Nothing
inputs_of (Empty b f n) = Nothing
