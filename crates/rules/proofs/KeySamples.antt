-- Keys by computation: where a key passes and where it does not, and which groups stay.
use mathlib.Core.Path.{◌≡◌, refl}
use mathlib.Core.List.{List, [], ◌∷◌, map}
use mathlib.Core.Bool.{true, false}
use mathlib.Core.Option.{none, some}
use Prim.Native.Nat.{ℕ}
use lib.IntN.{pos}
use Rattle.cpl.specs.Limits.{version2}
use Rattle.cpl.specs.Plan.{Pair, pair, o_add, o_lt, Expr, col, lit, bin, Item, bare, named, key, rows, agg, win, j_lsemi, scan, projection, filter, sort, limit, aggregate, window, subquery_alias, distinct, union, join, Plan, leaf, unary, binary, Catalogue, keyless}
use Rattle.rules.specs.Mask.{Mask}
use Rattle.rules.specs.Keys.{key_of}
use Rattle.rules.specs.Merge.{merge_step}
use Rattle.rules.specs.Rewrite.{rewrite}
use Rattle.rules.specs.Computes.{rules_computes}

-- "Scan S: table 0 with names 1, 2, 3, qualifier 1; its columns a, b, c", and a key of the table
abbrev keyed : (columns : List ℕ) → Catalogue
keyed is = record { version = version2; tables = (1 ∷ 2 ∷ 3 ∷ []) ∷ []; keys = record { table = 0; columns = is } ∷ [] }

abbrev a : Pair
a = pair 1 1

abbrev b : Pair
b = pair 1 2

abbrev c : Pair
c = pair 1 3

abbrev x : Pair
x = pair 0 7

abbrev y : Pair
y = pair 0 8

abbrev z : Pair
z = pair 0 9

abbrev S : Plan
S = leaf (scan 0 1 none [])

abbrev one : Expr
one = lit (pos 1)

-- the key's column twice, and b
abbrev copies : Plan
copies = unary (projection (named y (col c) ∷ named z (col c) ∷ bare b ∷ [])) S

-- the number of rows of each group
abbrev counts : List Item → Plan → Plan
counts gs p = unary (aggregate gs (agg x rows ∷ [])) p

-- which fields of that are kept for a request, where S has the key c
abbrev kept : List Item → Plan → Mask → Mask
kept gs p R = (rewrite (merge_step true 0) (keyed (2 ∷ [])) (counts gs p) R).kept

-- the same where S has the key c and a
abbrev kept2 : List Item → Mask → Mask
kept2 gs R = (rewrite (merge_step true 0) (keyed (2 ∷ 0 ∷ [])) (counts gs S) R).kept

record Keys : Type 0 where
  -- "a Scan that has all its columns"
  scan-all : key_of (keyed (2 ∷ 0 ∷ [])) S ≡ 2 ∷ 0 ∷ []
  scan-some : key_of (keyed (2 ∷ [])) (leaf (scan 0 1 (some (2 ∷ 0 ∷ [])) [])) ≡ 0 ∷ []
  scan_lacks : key_of (keyed (2 ∷ 0 ∷ [])) (leaf (scan 0 1 (some (2 ∷ 1 ∷ [])) [])) ≡ []
  -- its filters leave the key as it is, though they name none of its columns
  scan_filtered : key_of (keyed (2 ∷ [])) (leaf (scan 0 1 (some (2 ∷ 0 ∷ [])) (bin o_lt (col b) one ∷ []))) ≡ 0 ∷ []
  -- "Filter, Sort, Limit, SubqueryAlias"
  passes : key_of (keyed (2 ∷ [])) (unary (subquery_alias 5) (unary (limit 1 none) (unary (sort (key false false (col a) ∷ [])) (unary (filter (bin o_lt (col b) one)) S)))) ≡ 2 ∷ []
  -- "a Projection that has them all as bare columns, aliased or not": the first that is that column
  renamed : key_of (keyed (2 ∷ [])) (unary (projection (bare a ∷ named y (col c) ∷ named z (col c) ∷ [])) S) ≡ 1 ∷ []
  computed : key_of (keyed (2 ∷ [])) (unary (projection (named c (bin o_add (col c) one) ∷ [])) S) ≡ []
  -- "nothing else"
  nothing_else : map (key_of (keyed (2 ∷ []))) (unary distinct S ∷ unary (window (win x rows [] [] ∷ [])) S ∷ counts (bare c ∷ []) S ∷ binary union S S ∷ binary (join j_lsemi [] none) S S ∷ [])
      ≡ [] ∷ [] ∷ [] ∷ [] ∷ [] ∷ []
  -- "its other groups that were not requested are dropped", computed ones too
  others_go : kept (bare b ∷ bare c ∷ named z (bin o_add (col b) one) ∷ []) S (false ∷ false ∷ false ∷ true ∷ []) ≡ false ∷ true ∷ false ∷ true ∷ []
  requested_stay : kept (bare b ∷ bare c ∷ bare a ∷ []) S (true ∷ false ∷ false ∷ false ∷ []) ≡ true ∷ true ∷ false ∷ false ∷ []
  aliased_key : kept (bare b ∷ named y (col c) ∷ []) S (false ∷ false ∷ true ∷ []) ≡ false ∷ true ∷ true ∷ []
  -- a name without a qualifier is the column that it finds
  by_name : kept (bare b ∷ bare (pair 0 3) ∷ []) S (false ∷ false ∷ true ∷ []) ≡ false ∷ true ∷ true ∷ []
  -- groups that are the key's column stay, also twice; of two copies in the input the first is the key
  key_twice : kept (named y (col c) ∷ named z (col c) ∷ bare b ∷ []) S (false ∷ false ∷ false ∷ true ∷ []) ≡ true ∷ true ∷ false ∷ true ∷ []
  first_copy : kept (bare y ∷ bare b ∷ []) copies (false ∷ false ∷ true ∷ []) ≡ true ∷ false ∷ true ∷ []
  second_copy : kept (bare z ∷ bare b ∷ []) copies (false ∷ false ∷ true ∷ []) ≡ true ∷ true ∷ true ∷ []
  -- "with no such key all groups stay"
  not_grouped : kept (bare a ∷ bare b ∷ []) S (false ∷ false ∷ true ∷ []) ≡ true ∷ true ∷ true ∷ []
  half_grouped : kept2 (bare b ∷ bare c ∷ []) (false ∷ false ∷ true ∷ []) ≡ true ∷ true ∷ true ∷ []
  whole_grouped : kept2 (bare a ∷ bare b ∷ bare c ∷ []) (false ∷ false ∷ false ∷ true ∷ []) ≡ true ∷ false ∷ true ∷ true ∷ []
  no_keys : (rewrite (merge_step true 0) (keyless ((1 ∷ 2 ∷ 3 ∷ []) ∷ [])) (counts (bare b ∷ bare c ∷ []) S) (false ∷ false ∷ true ∷ [])).kept ≡ true ∷ true ∷ true ∷ []
  -- with groups and aggregates unrequested the key alone is read
  narrowed : (rewrite (merge_step false 0) (keyed (2 ∷ [])) (counts (bare b ∷ bare c ∷ []) S) (false ∷ false ∷ false ∷ [])).plan ≡ unary (aggregate (bare c ∷ []) []) (leaf (scan 0 1 (some (2 ∷ [])) []))

keys : Keys
unfolding rules_computes
keys =
    record {
      scan-all = refl;
      scan-some = refl;
      scan_lacks = refl;
      scan_filtered = refl;
      passes = refl;
      renamed = refl;
      computed = refl;
      nothing_else = refl;
      others_go = refl;
      requested_stay = refl;
      aliased_key = refl;
      by_name = refl;
      key_twice = refl;
      first_copy = refl;
      second_copy = refl;
      not_grouped = refl;
      half_grouped = refl;
      whole_grouped = refl;
      no_keys = refl;
      narrowed = refl;
    }
