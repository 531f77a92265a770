-- What the functions that build requests say of the masks that the requests ask for.
use Rattle.std.specs.Prelude.{◌≡◌, List, ℕ, ◌+◌, ◌*◌, ◌<◌, ◌≤◌, length, get_or}
use Rattle.cpl.specs.Fields.{join_fields}
use Rattle.cpl.specs.Lists.{Fit}
use Rattle.cpl.specs.Plan.{Expr, Pair}
use Rattle.rules.specs.Mask.{Mask}
use Rattle.rules.specs.Rules.{plus, left_part, right_part}
use Rattle.required_indices.specs.Request.{Asks, flag_of, words_n}
use Rattle.required_indices.specs.declared.RequiredIndices.{RequiredIndices}
use Rattle.required_indices.specs.declared.Split.{Split}
use Rattle.arena.specs.Cells.{expr_at, Wf}
use Rattle.tree.specs.Node.{join_is}
use Rattle.tree.specs.Rows.{EachOk, list_at, one}
use Rattle.tree.specs.declared.JoinType.{JoinType}
use Rattle.lookup.specs.Fields.{RowIn}
use Rattle.lookup.specs.declared.Schema.{Schema}

-- the fields of an input lie in the array, and a set has room for them
pub record Below (fields : List ℕ) (start width : ℕ) : Type 0 where
  pub inside : RowIn fields start width
  pub few : width ≤ words_n * 64

abbrev pub SchemaBelow : Schema → Type 0
SchemaBelow s = Below s.fields.now s.first s.width

-- a request with the columns that the references of the expressions find; the flag stays
pub record Adds (es : List Expr) (fs : List Pair) (r out : RequiredIndices) : Type 0 where
  pub flag : flag_of out ≡ flag_of r
  pub asks : (R : Mask) → Fit R fs → Asks r R → Asks out (plus es fs R)

-- the number at a place of row i
abbrev pub place_at : (s : List ℕ) (at i : ℕ) → ℕ
place_at s at i = get_or s (i * 4 + at) 0

-- the expressions whose roots are number `at` of the rows
abbrev pub roots_at : (s cells : List ℕ) (at first count : ℕ) → List Expr
roots_at s cells at = list_at (λ i. expr_at cells (place_at s at i)) one

pub record RootsOk (s cells : List ℕ) (at first count : ℕ) : Type 0 where
  pub place : at < 4
  pub rows : EachOk (λ i. Wf cells (place_at s at i + 1)) s first count

-- a join's request, split at the left's count: "semi and anti give the request to their own side"
pub record Parted (t : JoinType) (left : ℕ) (r : RequiredIndices) (s : Split) : Type 0 where
  pub parts : (fl fr : List Pair) (R : Mask) → left ≡ length fl → Fit R (join_fields (join_is t) fl fr) → Asks r R
      → Asks s.below (left_part (join_is t) fl R) × Asks s.rest (right_part (join_is t) fl fr R)
