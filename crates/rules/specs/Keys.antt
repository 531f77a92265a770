-- Keys, document 02's request 5: which fields of a plan are a key of its rows, and which groups an Aggregate keeps by it. "All this is judged on the old plan."
-- A key is given by places, among a table's columns or a plan's fields. It is a nonempty list, so that no key is the empty one.
use Rattle.std.specs.Prelude.{List, [], ◌∷◌, map, Bool, false, cond, not, ◌&&◌, ℕ, suc, eqb, take, get_or}
use Rattle.std.proofs.Math.Option.{Option, none, some}
use Rattle.cpl.specs.Tests.{any_b, all_b}
use Rattle.cpl.specs.Plan.{Pair, Expr, col, lit, miss, un, bin, Item, Leaf, scan, empty, Unary, projection, filter, sort, limit, aggregate, window, subquery_alias, distinct, Plan, leaf, unary, binary, TableKey, Catalogue, names_of, item_expr}
use Rattle.cpl.specs.Exprs.{find}
use Rattle.cpl.specs.Fields.{columns_of, fields_of}
use Rattle.rules.specs.Mask.{Mask, or_m, ones}

-- ── places ──────────────────────────────────────────────────────────────────────────────────

-- the place of the field that an expression is; none where it is computed
unfoldable pub field_place : List Pair → Expr → Option ℕ
field_place fs (col c) = find c fs
field_place fs (lit z) = none
field_place fs miss = none
field_place fs (un o a) = none
field_place fs (bin o a b) = none

-- of each item, "bare or aliased", the place of the field that it is
unfoldable pub places_of : List Pair → List Item → List (Option ℕ)
places_of fs is = map (λ i. field_place fs (item_expr i)) is

unfoldable pub is_place : ℕ → Option ℕ → Bool
is_place k none = false
is_place k (some i) = eqb k i

-- is each column of the key among these?
unfoldable pub has_all : (key : List ℕ) → List (Option ℕ) → Bool
has_all key ps = all_b (λ k. any_b (is_place k) ps) key

-- where it stands first
unfoldable pub first_at : ℕ → List (Option ℕ) → ℕ
first_at k [] = 0
first_at k (p ∷ ps) = cond (is_place k p) 0 (suc (first_at k ps))

-- a key carried on to a list of items: of each column the first item that is it; no key where one lacks
unfoldable pub carried : (key : List ℕ) → List (Option ℕ) → List ℕ
carried key ps = cond (has_all key ps) (map (λ k. first_at k ps) key) []

-- ── a key as a set of places, and what a loop over items finds of it ────────────────────────

abbrev pub member : ℕ → List ℕ → Bool
member k ks = any_b (eqb k) ks

-- is this a column of the key that none of those before is?
abbrev pub fresh_place : (key : List ℕ) (before : List (Option ℕ)) → Option ℕ → Bool
fresh_place key before none = false
fresh_place key before (some j) = member j key && not (any_b (is_place j) before)

-- is the item at place m the first that is some column of the key?
abbrev pub fresh_at : (key : List ℕ) → List (Option ℕ) → (m : ℕ) → Bool
fresh_at key ps m = fresh_place key (take m ps) (get_or ps m none)

-- ── the key of a plan ───────────────────────────────────────────────────────────────────────

-- the key that a table declares: its columns
unfoldable pub declared : List TableKey → (table : ℕ) → List ℕ
declared [] t = []
declared (k ∷ ks) t = cond (eqb k.table t) k.columns (declared ks t)

-- "a Scan that has all its columns"
unfoldable pub leaf_key : Catalogue → Leaf → List ℕ
leaf_key C (scan t q is es) = carried (declared C.keys t) (map some (columns_of (names_of C t) is))
leaf_key C (empty b cs) = []

-- "A key passes up through Filter, Sort, Limit, SubqueryAlias … and a Projection that has them all as bare columns, aliased or not; nothing else."
unfoldable pub unary_key : Unary → (fields : List Pair) (key : List ℕ) → List ℕ
unary_key (projection is) fs key = carried key (places_of fs is)
unary_key (filter e) fs key = key
unary_key (sort ks) fs key = key
unary_key (limit s n) fs key = key
unary_key (aggregate gs vs) fs key = []
unary_key (window ws) fs key = []
unary_key (subquery_alias q) fs key = key
unary_key distinct fs key = []

-- the places of the key in the plan's fields
unfoldable pub key_of : Catalogue → Plan → List ℕ
key_of C (leaf h) = leaf_key C h
key_of C (unary h p) = unary_key h (fields_of C p) (key_of C p)
key_of C (binary h p₁ p₂) = []

-- ── the groups of an Aggregate ──────────────────────────────────────────────────────────────

unfoldable pub is_key_place : (key : List ℕ) → Option ℕ → Bool
is_key_place key p = any_b (λ k. is_place k p) key

-- `key`: the input's, `ps`: the groups' places, `R`: the groups' part of the request. "If all key columns are groups of an Aggregate, bare or aliased,
-- its other groups that were not requested are dropped"; "with no such key all groups stay".
unfoldable pub kept_groups : (key : List ℕ) → List (Option ℕ) → (R : Mask) → Mask
kept_groups [] ps R = ones ps
kept_groups (k ∷ ks) ps R = cond (has_all (k ∷ ks) ps) (or_m R (map (is_key_place (k ∷ ks)) ps)) (ones ps)
