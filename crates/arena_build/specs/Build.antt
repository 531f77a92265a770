-- What is written into cells, and what building an expression answers.
use Rattle.std.specs.Prelude.{◌≡◌, cond, List, Option, Some, None, Result, Ok, Err, ℕ, zero, suc, ◌+◌, ◌*◌, ◌/◌, ◌<◌, ◌≤◌, length, set}
use Rattle.cpl.specs.Exprs.{expr_tags, fits}
use Rattle.cpl.specs.Plan.{Expr, Item, Pair, col}
use Rattle.rules.specs.Merge.{def_of}
use Rattle.arena.specs.Cells.{Wf, expr_at}
use Rattle.arena.specs.declared.Full.{Full}
use Rattle.arena.specs.Kept.{Kept}
use Rattle.arena.specs.Rows.{pair_at, root_at}
use Rattle.arena_build.specs.declared.Built.{Built}
use Rattle.arena_build.specs.declared.Level.{Level}
use Rattle.arena_build.specs.declared.Level.TheVariants.{Copy, Replace}

-- the numbers of node i
unfoldable pub put_node : List ℕ → (i tag x y : ℕ) → List ℕ
put_node s i t x y = set (set (set s (i * 3) t) (i * 3 + 1) x) (i * 3 + 2) y

-- one node more behind the nodes in use
pub record Stored (s : List ℕ) (used t x y node more : ℕ) (s' : List ℕ) : Type 0 where
  pub room : used * 3 + 2 < length s
  pub node_is : node ≡ used
  pub more_is : more ≡ used + 1
  pub stored : s' ≡ put_node s used t x y

-- no room for a node
pub record Filled (s : List ℕ) (used : ℕ) (s' : List ℕ) : Type 0 where
  pub full : length s / 3 ≤ used
  pub same : s' ≡ s

abbrev pub Pushed : List ℕ → ℕ → ℕ → ℕ → ℕ → Result Built Full → List ℕ → Type 0
Pushed s used t x y (Ok b) s' = Stored s used t x y b.node b.used s'
Pushed s used t x y (Err full) s' = Filled s used s'

-- e was built behind the nodes in use: `node`, the last of the `more` nodes now in use, stands for it
pub record Made (e : Expr) (s : List ℕ) (used node more : ℕ) (s' : List ℕ) : Type 0 where
  pub kept : Kept (used * 3) s s'
  pub means : expr_at s' node ≡ e
  pub last : more ≡ node + 1
  pub grown : more ≡ used + expr_tags e
  pub wf : Wf s' more

-- there is no room for e
pub record Refused (e : Expr) (s : List ℕ) (used : ℕ) (s' : List ℕ) : Type 0 where
  pub kept : Kept (used * 3) s s'
  pub tight : length s / 3 < used + expr_tags e

abbrev pub Answer : Expr → List ℕ → ℕ → Result Built Full → List ℕ → Type 0
Answer e s used (Ok b) s' = Made e s used b.node b.used s'
Answer e s used (Err full) s' = Refused e s used s'

-- the node of the row that a column finds
unfoldable pub find_in : (items : List ℕ) (first count : ℕ) → Pair → Option ℕ
find_in s i zero c = None
find_in s i (suc n) c = let r = find_in s (suc i) n c in cond (fits c (pair_at s i)) (Some (root_at s i)) r

-- the level of a number
unfoldable pub level_of : ℕ → Level
level_of zero = Copy
level_of (suc k) = Replace

-- what stands for a column: at level Copy the column itself, at level Replace its definition
unfoldable pub put_for : Level → List Item → Pair → Expr
put_for Copy is c = col c
put_for Replace is c = def_of c is
