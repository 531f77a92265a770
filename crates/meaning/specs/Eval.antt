-- The value of an expression over the fields and the values of a row.
use Rattle.std.specs.Prelude.{List, map, ℕ, get_or}
use Rattle.std.proofs.Math.Option.{Option, none, some}
use Rattle.cpl.specs.Plan.{Pair, Expr, col, lit, miss, un, bin}
use Rattle.cpl.specs.Exprs.{find}
use Rattle.meaning.specs.Value.{Val, missing, num, Row, op1, op2}

-- the value at a place of the row
unfoldable pub value_at : Row → Option ℕ → Val
value_at r none = missing
value_at r (some i) = get_or r i missing

-- a reference has the value of the field that it finds. (A reference of an accepted plan finds one, and no second one fits.)
unfoldable pub lookup : List Pair → Row → Pair → Val
lookup fs r c = value_at r (find c fs)

unfoldable pub eval : List Pair → Row → Expr → Val
eval fs r (col c) = lookup fs r c
eval fs r (lit z) = num z
eval fs r miss = missing
eval fs r (un o a) = op1 o (eval fs r a)
eval fs r (bin o a b) = op2 o (eval fs r a) (eval fs r b)

unfoldable pub eval_all : List Pair → Row → List Expr → Row
eval_all fs r es = map (eval fs r) es
