-- The bytes of a plan file: document 01's "The plan file", from the plan to its bytes.
use Rattle.std.specs.Prelude.{ℕ, zero, suc, ◌+◌, ◌*◌, ◌/◌, ◌%◌, List, [], ◌∷◌, ◌++◌, length}
use Rattle.std.proofs.Math.Option.{Option, none, some}
use Rattle.cpl.specs.Tests.{concat_map}
use Rattle.cpl.specs.Limits.{Version, no_fetch}
use Rattle.cpl.specs.Codes.{op1_tag, op2_tag, alias_tag, unsigned, fn_number, join_number, bit}
use Rattle.cpl.specs.Plan.{Pair, pair, Expr, col, lit, miss, un, bin, Item, bare, named, Key, key, Call, rows, over, Agg, agg, Win, win, On, on, Leaf, scan, empty, Unary, projection, filter, sort, limit, aggregate, window, subquery_alias, distinct, Binary, union, join, Plan, leaf, unary, binary, TableKey, Catalogue, Source}
use Rattle.cpl.specs.ReadPlan.{mark_bytes}

-- "Numbers are little-endian": the k bytes of x, the lowest first
unfoldable pub bytes : ℕ → ℕ → List ℕ
bytes zero x = []
bytes (suc k) x = x % 256 ∷ bytes k (x / 256)

-- a count of k bytes, and the elements
unfoldable pub counted_bytes : {A : Type 0} → ℕ → (A → List ℕ) → List A → List ℕ
counted_bytes k w xs = bytes k (length xs) ++ concat_map w xs

unfoldable pub pair_bytes : Pair → List ℕ
pair_bytes (pair q n) = bytes 2 q ++ bytes 2 n

unfoldable pub expr_bytes : Expr → List ℕ
expr_bytes (col c) = 0 ∷ pair_bytes c
expr_bytes (lit z) = 1 ∷ bytes 8 (unsigned z)
expr_bytes miss = 2 ∷ []
expr_bytes (un o a) = op1_tag o ∷ expr_bytes a
expr_bytes (bin o a b) = op2_tag o ∷ (expr_bytes a ++ expr_bytes b)

unfoldable pub item_bytes : Item → List ℕ
item_bytes (bare c) = 0 ∷ pair_bytes c
item_bytes (named c e) = alias_tag ∷ (pair_bytes c ++ expr_bytes e)

unfoldable pub key_bytes : Key → List ℕ
key_bytes (key d m e) = (bit d + 2 * bit m) ∷ expr_bytes e

-- a function's number, and what stands at the end of its entry
unfoldable pub call_number : Call → ℕ
call_number rows = 0
call_number (over f e) = fn_number f

unfoldable pub call_bytes : Call → List ℕ
call_bytes rows = []
call_bytes (over f e) = expr_bytes e

unfoldable pub agg_bytes : Agg → List ℕ
agg_bytes (agg c g) = pair_bytes c ++ call_number g ∷ call_bytes g

unfoldable pub win_bytes : Win → List ℕ
win_bytes (win c g ps ks) = pair_bytes c ++ call_number g ∷ (counted_bytes 1 expr_bytes ps ++ (counted_bytes 1 key_bytes ks ++ call_bytes g))

unfoldable pub on_bytes : On → List ℕ
on_bytes (on a b) = expr_bytes a ++ expr_bytes b

unfoldable pub cond_bytes : Option Expr → List ℕ
cond_bytes none = 0 ∷ []
cond_bytes (some e) = 1 ∷ expr_bytes e

unfoldable pub columns_bytes : Version → Option (List ℕ) → List ℕ
columns_bytes v none = 0 ∷ []
columns_bytes v (some is) = 1 ∷ counted_bytes v.wide (bytes v.wide) is

unfoldable pub fetch_number : Option ℕ → ℕ
fetch_number none = no_fetch
fetch_number (some n) = n

-- ── nodes: the tag, then the node's own fields ──────────────────────────────────────────────

unfoldable pub leaf_bytes : Version → Leaf → List ℕ
leaf_bytes v (scan t q is es) = 11 ∷ (bytes 1 t ++ (bytes 2 q ++ (columns_bytes v is ++ counted_bytes v.late expr_bytes es)))
leaf_bytes v (empty b cs) = 12 ∷ bit b ∷ counted_bytes v.wide pair_bytes cs

unfoldable pub unary_bytes : Version → Unary → List ℕ
unary_bytes v (projection is) = 1 ∷ counted_bytes v.wide item_bytes is
unary_bytes v (filter e) = 2 ∷ expr_bytes e
unary_bytes v (sort ks) = 3 ∷ counted_bytes 1 key_bytes ks
unary_bytes v (limit s n) = 4 ∷ (bytes 4 s ++ bytes 4 (fetch_number n))
unary_bytes v (aggregate gs vs) = 5 ∷ (counted_bytes v.wide item_bytes gs ++ counted_bytes v.wide agg_bytes vs)
unary_bytes v (window ws) = 6 ∷ counted_bytes v.wide win_bytes ws
unary_bytes v (subquery_alias q) = 7 ∷ bytes 2 q
unary_bytes v distinct = 9 ∷ []

unfoldable pub binary_bytes : Binary → List ℕ
binary_bytes union = 8 ∷ []
binary_bytes (join t os c) = 10 ∷ join_number t ∷ (counted_bytes 1 on_bytes os ++ cond_bytes c)

-- ── plans and files ─────────────────────────────────────────────────────────────────────────

unfoldable pub plan_bytes : Version → Plan → List ℕ
plan_bytes v (leaf h) = leaf_bytes v h
plan_bytes v (unary h p) = unary_bytes v h ++ plan_bytes v p
plan_bytes v (binary h p₁ p₂) = binary_bytes h ++ (plan_bytes v p₁ ++ plan_bytes v p₂)

unfoldable pub table_key_bytes : Version → TableKey → List ℕ
table_key_bytes v k = bytes 1 k.table ++ counted_bytes v.wide (bytes v.wide) k.columns

unfoldable pub catalogue_bytes : Catalogue → List ℕ
catalogue_bytes C =
    let v = C.version in
    counted_bytes 1 (counted_bytes v.wide (bytes 2)) C.tables ++ counted_bytes v.late (table_key_bytes v) C.keys

unfoldable pub bytes_of : Source → List ℕ
bytes_of s = let v = s.catalogue.version in mark_bytes v ++ (catalogue_bytes s.catalogue ++ plan_bytes v s.plan)
