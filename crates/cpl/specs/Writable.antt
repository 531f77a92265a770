-- What can be written in a plan file: each number fits its field, each count its limit, each name is one. Every plan that a file reads as is so.
use Rattle.std.specs.Prelude.{ℕ, ◌+◌, ◌^◌, ◌<◌, ◌≤◌, ◌≡◌, true, List, [], length, get_or}
use Rattle.std.proofs.Math.Option.{Option, none, some}
use Rattle.std.specs.Int.Signed.{mag}
use Rattle.cpl.specs.Limits.{Version, IsVersion, max_tables, max_keys, max_nodes, max_tags, no_fetch}
use Rattle.cpl.specs.Lists.{All, AllAfter}
use Rattle.cpl.specs.Read.{fresh}
use Rattle.cpl.specs.Exprs.{plan_nodes, plan_tags}
use Rattle.cpl.specs.Plan.{Pair, pair, Expr, col, lit, miss, un, bin, Item, bare, named, Key, key, Call, rows, over, Agg, agg, Win, win, On, on, Leaf, scan, empty, Unary, projection, filter, sort, limit, aggregate, window, subquery_alias, distinct, Binary, union, join, Plan, leaf, unary, binary, TableKey, Catalogue, Source, names_of, keyed_tables}

-- at most `most` of them, each one fit
unfoldable pub FitList : {A : Type 0} → (A → Type 0) → (most : ℕ) → List A → Type 0
FitList P most xs = (length xs ≤ most) × All P xs

-- the same, where what is fit depends on the elements before
unfoldable pub FitAfter : {A : Type 0} → (List A → A → Type 0) → (most : ℕ) → List A → Type 0
FitAfter P most xs = (length xs ≤ most) × AllAfter P [] xs

-- a name, or a qualifier that has to be there: a u16, not 0
unfoldable pub FitName : ℕ → Type 0
FitName n = (0 < n) × (n < 2 ^ 16)

unfoldable pub FitPair : Pair → Type 0
FitPair (pair q n) = (q < 2 ^ 16) × FitName n

unfoldable pub FitExpr : Expr → Type 0
FitExpr (col c) = FitPair c
FitExpr (lit z) = mag z < 2 ^ 63
FitExpr miss = Unit {0}
FitExpr (un o a) = FitExpr a
FitExpr (bin o a b) = FitExpr a × FitExpr b

unfoldable pub FitItem : Item → Type 0
FitItem (bare c) = FitPair c
FitItem (named c e) = FitPair c × FitExpr e

unfoldable pub FitKey : Key → Type 0
FitKey (key d m e) = FitExpr e

unfoldable pub FitCall : Call → Type 0
FitCall rows = Unit {0}
FitCall (over f e) = FitExpr e

unfoldable pub FitAgg : Agg → Type 0
FitAgg (agg c g) = FitPair c × FitCall g

unfoldable pub FitWin : Win → Type 0
FitWin (win c g ps ks) = FitPair c × FitCall g × FitList FitExpr max_keys ps × FitList FitKey max_keys ks

unfoldable pub FitOn : On → Type 0
FitOn (on a b) = FitExpr a × FitExpr b

unfoldable pub FitCond : Option Expr → Type 0
FitCond none = Unit {0}
FitCond (some e) = FitExpr e

unfoldable pub FitFetch : Option ℕ → Type 0
FitFetch none = Unit {0}
FitFetch (some n) = n < no_fetch

-- column indices of a table that has that many columns
unfoldable pub FitColumns : Version → (columns : ℕ) → Option (List ℕ) → Type 0
FitColumns v columns none = Unit {0}
FitColumns v columns (some is) = FitList (λ i. i < columns) v.max_columns is

unfoldable pub FitLeaf : Catalogue → Leaf → Type 0
FitLeaf C (scan t q is es) = (t < length C.tables) × FitName q × FitColumns C.version (length (names_of C t)) is × FitList FitExpr C.version.max_filters es
FitLeaf C (empty b cs) = FitList FitPair C.version.max_items cs

unfoldable pub FitUnary : Version → Unary → Type 0
FitUnary v (projection is) = FitList FitItem v.max_items is
FitUnary v (filter e) = FitExpr e
FitUnary v (sort ks) = (0 < length ks) × FitList FitKey max_keys ks
FitUnary v (limit s n) = (s < 2 ^ 32) × FitFetch n
FitUnary v (aggregate gs vs) = (0 < length gs + length vs) × FitList FitItem v.max_items gs × FitList FitAgg v.max_items vs
FitUnary v (window ws) = (0 < length ws) × FitList FitWin v.max_items ws
FitUnary v (subquery_alias q) = FitName q
FitUnary v distinct = Unit {0}

unfoldable pub FitBinary : Binary → Type 0
FitBinary union = Unit {0}
FitBinary (join t os c) = FitList FitOn max_keys os × FitCond c

unfoldable pub FitPlan : Catalogue → Plan → Type 0
FitPlan C (leaf h) = FitLeaf C h
FitPlan C (unary h p) = FitUnary C.version h × FitPlan C p
FitPlan C (binary h p₁ p₂) = FitBinary h × FitPlan C p₁ × FitPlan C p₂

-- a key of one of these tables, behind these keys: of another table than theirs, and of some columns, none twice
pub record FitTableKey (v : Version) (tables : List (List ℕ)) (before : List TableKey) (k : TableKey) : Type 0 where
  pub table_fresh : fresh (length tables) (keyed_tables before) k.table ≡ true
  pub some_columns : 0 < length k.columns
  pub columns_fresh : FitAfter (λ taken i. fresh (length (get_or tables k.table [])) taken i ≡ true) v.max_columns k.columns

pub record FitCatalogue (C : Catalogue) : Type 0 where
  pub version_is : IsVersion C.version
  pub tables_fit : FitList (FitList FitName C.version.max_columns) max_tables C.tables
  pub keys_fit : FitAfter (FitTableKey C.version C.tables) C.version.max_table_keys C.keys

-- "At most 256 nodes and 4,096 expression tags in a file."
pub record Writable (s : Source) : Type 0 where
  pub tables : FitCatalogue s.catalogue
  pub nodes_fit : FitPlan s.catalogue s.plan
  pub few_nodes : plan_nodes s.plan ≤ max_nodes
  pub few_tags : plan_tags s.plan ≤ max_tags
