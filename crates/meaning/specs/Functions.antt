-- The functions of Aggregate and Window over a list of rows.
use Rattle.std.specs.Prelude.{List, [], ◌∷◌, map, cond, ℤ, pos, ◌+ℤ◌, length}
use Rattle.std.specs.Int.Signed.{lt_z}
use Rattle.cpl.specs.Plan.{Pair, Fn, f_count, f_sum, f_min, f_max, Call, rows, over}
use Rattle.meaning.specs.Value.{Val, missing, num, Row}
use Rattle.meaning.specs.Eval.{eval}

-- the values that are present
unfoldable pub numbers : List Val → List ℤ
numbers [] = []
numbers (missing ∷ vs) = numbers vs
numbers (num z ∷ vs) = z ∷ numbers vs

unfoldable pub fold_from : (ℤ → ℤ → ℤ) → ℤ → List ℤ → ℤ
fold_from g a [] = a
fold_from g a (z ∷ zs) = fold_from g (g a z) zs

-- "Sum, min and max of no present value are missing."
unfoldable pub fold : (ℤ → ℤ → ℤ) → List ℤ → Val
fold g [] = missing
fold g (z ∷ zs) = num (fold_from g z zs)

-- "1 count of present values, 2 sum, 3 min, 4 max"
unfoldable pub apply : Fn → List ℤ → Val
apply f_count zs = num (pos (length zs))
apply f_sum zs = fold ◌+ℤ◌ zs
apply f_min zs = fold (λ a b. cond (lt_z b a) b a) zs
apply f_max zs = fold (λ a b. cond (lt_z a b) b a) zs

-- "0 counts rows"; the others take the values of E
unfoldable pub call_over : List Pair → List Row → Call → Val
call_over fs rs rows = num (pos (length rs))
call_over fs rs (over f e) = apply f (numbers (map (λ r. eval fs r e) rs))
