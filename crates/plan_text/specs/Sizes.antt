-- What a file asks of the numbers and lists of a listing: document 02, request 13, codes 4 and 5. "the first fault in the order in which the file would have the
-- fields": a count before its list, at one count 4 before 5, node and tag limits before the value.
use Rattle.std.specs.Prelude.{List, [], ◌∷◌, ◌++◌, Bool, not, ◌&&◌, ℕ, suc, ◌^◌, eqb, ltb, leb, length}
use Rattle.std.proofs.Math.Option.{Option, none, some}
use Rattle.std.specs.Int.Signed.{mag}
use Rattle.cpl.specs.Tests.{concat_map}
use Rattle.cpl.specs.Limits.{Version, max_keys, max_nodes, max_tags, no_fetch}
use Rattle.cpl.specs.Codes.{VALUE, MANY}
use Rattle.cpl.specs.Plan.{Pair, pair, Expr, col, lit, miss, un, bin, Item, bare, named, Key, key, Call, rows, over, Agg, agg, Win, win, On, on, Leaf, scan, empty, Unary, projection, filter, sort, limit, aggregate, window, subquery_alias, distinct, Binary, union, join, Catalogue, names_of}
use Rattle.cpl.specs.Accept.{Fault, fault}
use Rattle.cpl.specs.Read.{pick, is_not}
use Rattle.cpl.specs.ReadPlan.{Head, h0, h1, h2}

-- ── demands ─────────────────────────────────────────────────────────────────────────────────

-- what a field asks: that its number is allowed (else 4), that a count is within its limit (else 5), one more expression tag (5 from the 4,097th on)
pub data Demand : Type 0 where
  allowed few : Bool → Demand
  tagged : Demand

-- the tags counted, or the code of the first demand that is not met
pub data Weighed : Type 0 where
  fine : (tags : ℕ) → Weighed
  unmet : (code : ℕ) → Weighed

unfoldable pub weigh : (tags : ℕ) → List Demand → Weighed
weigh tags [] = fine tags
weigh tags (allowed b ∷ ds) = let r = weigh tags ds in pick b r (unmet VALUE)
weigh tags (few b ∷ ds) = let r = weigh tags ds in pick b r (unmet MANY)
weigh tags (tagged ∷ ds) = let r = weigh (suc tags) ds in pick (ltb tags max_tags) r (unmet MANY)

-- ── of each part, in file order ─────────────────────────────────────────────────────────────

-- "u16, never 0"
unfoldable pub is_name : ℕ → Bool
is_name n = is_not 0 n && ltb n (2 ^ 16)

unfoldable pub pair_asks : Pair → List Demand
pair_asks (pair q n) = allowed (ltb q (2 ^ 16)) ∷ allowed (is_name n) ∷ []

unfoldable pub expr_asks : Expr → List Demand
expr_asks (col c) = tagged ∷ pair_asks c
expr_asks (lit z) = tagged ∷ allowed (ltb (mag z) (2 ^ 63)) ∷ []
expr_asks miss = tagged ∷ []
expr_asks (un o a) = tagged ∷ expr_asks a
expr_asks (bin o a b) = tagged ∷ (expr_asks a ++ expr_asks b)

-- a count that may be any number up to its limit, then the members
unfoldable pub list_asks : {A : Type 0} → (A → List Demand) → (most : ℕ) → List A → List Demand
list_asks asks most xs = few (leb (length xs) most) ∷ concat_map asks xs

-- the same where the count is not 0
unfoldable pub some_asks : {A : Type 0} → (A → List Demand) → (most : ℕ) → List A → List Demand
some_asks asks most xs = allowed (is_not 0 (length xs)) ∷ list_asks asks most xs

unfoldable pub item_asks : Item → List Demand
item_asks (bare c) = tagged ∷ pair_asks c
item_asks (named c e) = tagged ∷ (pair_asks c ++ expr_asks e)

unfoldable pub key_asks : Key → List Demand
key_asks (key d m e) = expr_asks e

unfoldable pub call_asks : Call → List Demand
call_asks rows = []
call_asks (over f e) = expr_asks e

unfoldable pub agg_asks : Agg → List Demand
agg_asks (agg c g) = pair_asks c ++ call_asks g

unfoldable pub win_asks : Win → List Demand
win_asks (win c g ps ks) = pair_asks c ++ (list_asks expr_asks max_keys ps ++ (list_asks key_asks max_keys ks ++ call_asks g))

unfoldable pub on_asks : On → List Demand
on_asks (on a b) = expr_asks a ++ expr_asks b

unfoldable pub cond_asks : Option Expr → List Demand
cond_asks none = []
cond_asks (some e) = expr_asks e

unfoldable pub fetch_asks : Option ℕ → List Demand
fetch_asks none = []
fetch_asks (some n) = allowed (ltb n no_fetch) ∷ []

unfoldable pub columns_asks : Version → (columns : ℕ) → Option (List ℕ) → List Demand
columns_asks v columns none = []
columns_asks v columns (some is) = list_asks (λ i. allowed (ltb i columns) ∷ []) v.max_columns is

unfoldable pub leaf_asks : Catalogue → Leaf → List Demand
leaf_asks C (scan t q is es) =
    allowed (ltb t (length C.tables)) ∷ allowed (is_name q) ∷ (columns_asks C.version (length (names_of C t)) is ++ list_asks expr_asks C.version.max_filters es)
leaf_asks C (empty b cs) = list_asks pair_asks C.version.max_items cs

-- "g and a to 128, not both 0": the second count is the one at fault
unfoldable pub unary_asks : Version → Unary → List Demand
unary_asks v (projection is) = list_asks item_asks v.max_items is
unary_asks v (filter e) = expr_asks e
unary_asks v (sort ks) = some_asks key_asks max_keys ks
unary_asks v (limit s n) = allowed (ltb s (2 ^ 32)) ∷ fetch_asks n
unary_asks v (aggregate gs vs) = list_asks item_asks v.max_items gs ++ allowed (not (eqb (length gs) 0 && eqb (length vs) 0)) ∷ list_asks agg_asks v.max_items vs
unary_asks v (window ws) = some_asks win_asks v.max_items ws
unary_asks v (subquery_alias q) = allowed (is_name q) ∷ []
unary_asks v distinct = []

unfoldable pub binary_asks : Binary → List Demand
binary_asks union = []
binary_asks (join t os c) = list_asks on_asks max_keys os ++ cond_asks c

unfoldable pub head_asks : Catalogue → Head → List Demand
head_asks C (h0 h) = leaf_asks C h
head_asks C (h1 h) = unary_asks C.version h
head_asks C (h2 h) = binary_asks h

-- ── of all nodes ────────────────────────────────────────────────────────────────────────────

unfoldable pub or_fault : (n : ℕ) → Weighed → (ℕ → Option Fault) → Option Fault
or_fault n (fine tags) k = k tags
or_fault n (unmet code) k = some (fault code n)

-- the first fault of the nodes from line n on, with so many tags before. "the 257th node" is line 257.
unfoldable pub size_fault : Catalogue → (n tags : ℕ) → List Head → Option Fault
size_fault C n tags [] = none
size_fault C n tags (h ∷ hs) = or_fault n (weigh tags (few (leb n max_nodes) ∷ head_asks C h)) (λ tags'. size_fault C (suc n) tags' hs)
