-- The fields of a plan: document 01's "Fields and meaning", first paragraph.
use Rattle.std.specs.Prelude.{List, [], ◌++◌, map, ℕ, length, get_or}
use Rattle.std.proofs.Math.Option.{Option, none, some}
use Rattle.cpl.specs.Tests.{iota}
use Rattle.cpl.specs.Plan.{Pair, pair, JoinType, j_inner, j_left, j_right, j_full, j_lsemi, j_lanti, j_rsemi, j_ranti, Leaf, scan, empty, Unary, projection, filter, sort, limit, aggregate, window, subquery_alias, distinct, Binary, union, join, Plan, leaf, unary, binary, Catalogue, names_of, item_pair, agg_pair, win_pair}

-- the columns of a scan: "the names at its projection, or all"
unfoldable pub columns_of : List ℕ → Option (List ℕ) → List ℕ
columns_of names none = iota 0 (length names)
columns_of names (some is) = is

-- "A scan has its qualifier with the names at its projection, or all."
unfoldable pub scan_field : (names : List ℕ) (qualifier column : ℕ) → Pair
scan_field names q i = pair q (get_or names i 0)

unfoldable pub leaf_fields : Catalogue → Leaf → List Pair
leaf_fields C (scan t q is es) = map (scan_field (names_of C t) q) (columns_of (names_of C t) is)
leaf_fields C (empty b cs) = cs

-- "all its table's columns under the scan's qualifier"
unfoldable pub table_fields : Catalogue → (table qualifier : ℕ) → List Pair
table_fields C t q = map (pair q) (names_of C t)

-- what a leaf's own expressions, a scan's filters, are over
unfoldable pub leaf_input : Catalogue → Leaf → List Pair
leaf_input C (scan t q is es) = table_fields C t q
leaf_input C (empty b cs) = []

-- "SubqueryAlias sets every qualifier."
unfoldable pub requalify : ℕ → Pair → Pair
requalify q (pair r n) = pair q n

-- of the input's fields. "A projection's item keeps its pair. An Aggregate's fields are groups, then aggregates; a Window's are its child's, then its own."
unfoldable pub unary_fields : Unary → List Pair → List Pair
unary_fields (projection is) fs = map item_pair is
unary_fields (filter e) fs = fs
unary_fields (sort ks) fs = fs
unary_fields (limit s n) fs = fs
unary_fields (aggregate gs vs) fs = map item_pair gs ++ map agg_pair vs
unary_fields (window ws) fs = fs ++ map win_pair ws
unary_fields (subquery_alias q) fs = map (requalify q) fs
unary_fields distinct fs = fs

-- "Semi and anti joins have one side's fields; other joins left then right."
unfoldable pub join_fields : {A : Type 0} → JoinType → List A → List A → List A
join_fields j_inner fl fr = fl ++ fr
join_fields j_left fl fr = fl ++ fr
join_fields j_right fl fr = fl ++ fr
join_fields j_full fl fr = fl ++ fr
join_fields j_lsemi fl fr = fl
join_fields j_lanti fl fr = fl
join_fields j_rsemi fl fr = fr
join_fields j_ranti fl fr = fr

-- "A Union takes the first input's pairs."
unfoldable pub binary_fields : Binary → List Pair → List Pair → List Pair
binary_fields union fl fr = fl
binary_fields (join t os c) fl fr = join_fields t fl fr

unfoldable pub fields_of : Catalogue → Plan → List Pair
fields_of C (leaf h) = leaf_fields C h
fields_of C (unary h p) = unary_fields h (fields_of C p)
fields_of C (binary h p₁ p₂) = binary_fields h (fields_of C p₁) (fields_of C p₂)
