-- All sets stand in one array of pairs, none on the stack: the sides of an `or` are worked out in the pairs behind the set being filled. So the array
-- needs a pair for each equality.
use Rattle.std.specs.Prelude.{ℕ, ◌+◌}
use Rattle.cpl.specs.Plan.{o_add, o_sub, o_mul, o_eq, o_lt, o_and, o_or, Expr, col, lit, miss, un, bin}

-- n equalities are three tags each and n - 1 more that join them: 4,096 tags hold at most 1,024
abbrev pub room_pairs : ℕ
room_pairs = 1024

-- the equalities that are looked into: each may take a pair
unfoldable pub equalities : Expr → ℕ
equalities (bin o_eq a b) = 1
equalities (bin o_and a b) = equalities a + equalities b
equalities (bin o_or a b) = equalities a + equalities b
equalities (bin o_add a b) = 0
equalities (bin o_sub a b) = 0
equalities (bin o_mul a b) = 0
equalities (bin o_lt a b) = 0
equalities (col c) = 0
equalities (lit z) = 0
equalities miss = 0
equalities (un o a) = 0
