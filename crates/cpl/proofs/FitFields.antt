-- The fields of a writable plan are writable pairs.
use mathlib.Core.Path.{◌≡◌, refl, ap}
use mathlib.Core.List.{List, []}
use mathlib.Core.Option.{Option, none, some}
use Prim.Native.Nat.{ℕ, zero, suc, ◌+◌, ◌<◌, ◌≤◌}
use native.Mathlib.Omega.{arith}
use lib.ListN.{length, get_or}
use Rattle.cpl.specs.Tests.{iota}
use Rattle.cpl.specs.Limits.{Version}
use Rattle.cpl.specs.Lists.{All, a[], ◌a∷◌}
use Rattle.cpl.specs.Plan.{Pair, pair, Item, bare, named, Agg, agg, Win, win, JoinType, j_inner, j_left, j_right, j_full, j_lsemi, j_lanti, j_rsemi, j_ranti, Leaf, scan, empty, Unary, projection, filter, sort, limit, aggregate, window, subquery_alias, distinct, Binary, union, join, Plan, leaf, unary, binary, Catalogue, names_of, item_pair, agg_pair, win_pair}
use Rattle.cpl.specs.Fields.{columns_of, scan_field, leaf_fields, requalify, unary_fields, join_fields, binary_fields, fields_of}
use Rattle.cpl.specs.Writable.{FitList, FitName, FitPair, FitItem, FitAgg, FitWin, FitColumns, FitLeaf, FitUnary, FitPlan, FitCatalogue}
use Rattle.cpl.proofs.Lists.{All_map, All_mapped, All_++}

pub All_get_d : {A : Type 0} {P : A → Type 0} (d : A) {xs : List A} (i : ℕ) → All P xs → i < length xs → P (get_or xs i d)
All_get_d d i a[] h = absurd (omega arith)
All_get_d d zero (k a∷ ks) h = k
All_get_d d (suc i) (k a∷ ks) h = All_get_d d i ks (omega arith)

iota-below : (from n : ℕ) → All (λ i. i < from + n) (iota from n)
unfolding iota
iota-below from zero = a[]
iota-below from (suc n) = let h : from < from + suc n = omega arith in h a∷ All_map (λ i h. omega arith) (iota-below (suc from) n)

-- the columns of a scan are columns of its table
pub columns-below : (v : Version) (names : List ℕ) (is : Option (List ℕ)) → FitColumns v (length names) is → All (λ i. i < length names) (columns_of names is)
unfolding FitColumns FitList columns_of
columns-below v names none h = All_map (λ i k. omega arith) (iota-below 0 (length names))
columns-below v names (some is) h = h.1

pub iota-length : (from n : ℕ) → length (iota from n) ≡ n
unfolding iota
iota-length from zero = refl
iota-length from (suc n) = ap suc (iota-length (suc from) n)

-- and as few as a table may have
pub columns-few : (C : Catalogue) → FitCatalogue C → (t : ℕ) → t < length C.tables → (is : Option (List ℕ)) → FitColumns C.version (length (names_of C t)) is → length (columns_of (names_of C t) is) ≤ C.version.max_columns
unfolding FitList FitColumns columns_of
columns-few C k t l none h = let m = (All_get_d [] t k.tables_fit.1 l).0 in let e = iota-length 0 (length (names_of C t)) in omega arith
columns-few C k t l (some is) h = h.0

item-pair-fits : (i : Item) → FitItem i → FitPair (item_pair i)
unfolding FitItem item_pair
item-pair-fits (bare c) h = h
item-pair-fits (named c e) h = h.0

agg-pair-fits : (a : Agg) → FitAgg a → FitPair (agg_pair a)
unfolding FitAgg agg_pair
agg-pair-fits (agg c g) h = h.0

win-pair-fits : (w : Win) → FitWin w → FitPair (win_pair w)
unfolding FitWin win_pair
win-pair-fits (win c g ps ks) h = h.0

pub leaf-pairs : (C : Catalogue) → FitCatalogue C → (h : Leaf) → FitLeaf C h → All FitPair (leaf_fields C h)
unfolding FitLeaf FitList leaf_fields scan_field FitPair FitName
leaf-pairs C k (scan t q is es) h =
    let names = All_get_d [] t k.tables_fit.1 h.0 in
    All_mapped _ (λ i l. (h.1.1, All_get_d 0 i names.1 l)) (columns-below C.version (names_of C t) is h.2)
leaf-pairs C k (empty b cs) h = h.1

pub unary-pairs : (v : Version) (h : Unary) → FitUnary v h → (fs : List Pair) → All FitPair fs → All FitPair (unary_fields h fs)
unfolding FitUnary FitList unary_fields requalify FitPair FitName
unary-pairs v (projection is) h fs k = All_mapped item_pair item-pair-fits h.1
unary-pairs v (filter e) h fs k = k
unary-pairs v (sort ks) h fs k = k
unary-pairs v (limit s n) h fs k = k
unary-pairs v (aggregate gs vs) h fs k = All_++ (All_mapped item_pair item-pair-fits h.1.1) (All_mapped agg_pair agg-pair-fits h.2.1)
unary-pairs v (window ws) h fs k = All_++ k (All_mapped win_pair win-pair-fits h.1.1)
unary-pairs v (subquery_alias q) h fs k = All_mapped (requalify q) each k
  where
    each : (c : Pair) → FitPair c → FitPair (requalify q c)
    each (pair r n) l = (h.1, l.1)
unary-pairs v distinct h fs k = k

join-pairs : {P : Pair → Type 0} (t : JoinType) {fl fr : List Pair} → All P fl → All P fr → All P (join_fields t fl fr)
unfolding join_fields
join-pairs j_inner h k = All_++ h k
join-pairs j_left h k = All_++ h k
join-pairs j_right h k = All_++ h k
join-pairs j_full h k = All_++ h k
join-pairs j_lsemi h k = h
join-pairs j_lanti h k = h
join-pairs j_rsemi h k = k
join-pairs j_ranti h k = k

pub binary-pairs : (h : Binary) {fl fr : List Pair} → All FitPair fl → All FitPair fr → All FitPair (binary_fields h fl fr)
unfolding binary_fields
binary-pairs union h k = h
binary-pairs (join t os c) h k = join-pairs t h k

pub field-pairs : (C : Catalogue) → FitCatalogue C → (p : Plan) → FitPlan C p → All FitPair (fields_of C p)
unfolding FitPlan fields_of
field-pairs C k (leaf h) f = leaf-pairs C k h f
field-pairs C k (unary h p) f = unary-pairs C.version h f.0 (fields_of C p) (field-pairs C k p f.1)
field-pairs C k (binary h p₁ p₂) f = binary-pairs h (field-pairs C k p₁ f.1) (field-pairs C k p₂ f.2)
