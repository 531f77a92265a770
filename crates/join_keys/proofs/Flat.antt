-- 1,024 pairs are enough for any predicate.
use Prim.Native.Nat.{◌+◌, ◌*◌, ◌≤◌, ◌<◌}
use native.Mathlib.Omega.{arith}
use Rattle.cpl.specs.Limits.{max_tags}
use Rattle.cpl.specs.Plan.{o_add, o_sub, o_mul, o_eq, o_lt, o_and, o_or, Expr, col, lit, miss, un, bin}
use Rattle.cpl.specs.Exprs.{expr_tags}
use Rattle.join_keys.specs.Flat.{room_pairs, equalities}

tags-some : (e : Expr) → 0 < expr_tags e
unfolding expr_tags
tags-some (col c) = omega arith
tags-some (lit z) = omega arith
tags-some miss = omega arith
tags-some (un o a) = omega arith
tags-some (bin o a b) = omega arith

-- an equality has three tags or more, and one joins two of them
pub equality_tags : (e : Expr) → 4 * equalities e ≤ expr_tags e + 1
unfolding equalities expr_tags
equality_tags (bin o_eq a b) = omega (arith, tags-some a, tags-some b)
equality_tags (bin o_and a b) = omega (arith, equality_tags a, equality_tags b)
equality_tags (bin o_or a b) = omega (arith, equality_tags a, equality_tags b)
equality_tags (bin o_add a b) = omega arith
equality_tags (bin o_sub a b) = omega arith
equality_tags (bin o_mul a b) = omega arith
equality_tags (bin o_lt a b) = omega arith
equality_tags (col c) = omega arith
equality_tags (lit z) = omega arith
equality_tags miss = omega arith
equality_tags (un o a) = omega arith

pub pairs_enough : (e : Expr) → expr_tags e ≤ max_tags → equalities e ≤ room_pairs
pairs_enough e h = omega (arith, equality_tags e)
