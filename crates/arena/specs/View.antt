-- What a node taken apart says of the expression that it stands for.
use Rattle.std.specs.Prelude.{◌≡◌, List, ℕ, ◌<◌, ◌≤◌}
use Rattle.cpl.specs.Codes.{op1_of, op2_of, signed}
use Rattle.cpl.specs.Plan.{col, lit, miss, un, bin, pair}
use Rattle.arena.specs.Cells.{NodeIs, expr_at, y_at}
use Rattle.arena.specs.declared.View.{View}
use Rattle.arena.specs.declared.View.TheVariants.{Col, Lit, Miss, One, Two}

-- an operator, named by its tag, with one operand or with two, which stand below their node
pub record HasOne (s : List ℕ) (i t x : ℕ) : Type 0 where
  pub means : expr_at s i ≡ un (op1_of t) (expr_at s x)
  pub below : x < i
  pub least : 3 ≤ t
  pub most : t < 5
  pub reads : NodeIs s i t x (y_at s i)

pub record HasTwo (s : List ℕ) (i t x y : ℕ) : Type 0 where
  pub means : expr_at s i ≡ bin (op2_of t) (expr_at s x) (expr_at s y)
  pub first : x < i
  pub second : y < i
  pub least : 5 ≤ t
  pub most : t < 12
  pub reads : NodeIs s i t x y

abbrev pub Shows : List ℕ → ℕ → View → Type 0
Shows s i (Col q n) = expr_at s i ≡ col (pair q n)
Shows s i (Lit v) = expr_at s i ≡ lit (signed v)
Shows s i Miss = expr_at s i ≡ miss
Shows s i (One t x) = HasOne s i t x
Shows s i (Two t x y) = HasTwo s i t x y
