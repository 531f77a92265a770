-- Rows of small plans, by computation: each operator, function, node and join type once, three stories of the pass, and keys.
use mathlib.Core.Path.{◌≡◌, refl}
use mathlib.Core.List.{List, [], ◌∷◌, map}
use mathlib.Core.Bool.{true, false, not}
use mathlib.Core.Option.{none, some}
use Prim.Native.Nat.{ℕ}
use lib.Dec.{T}
use lib.IntN.{pos, negsuc}
use Rattle.cpl.specs.Limits.{version2}
use Rattle.cpl.specs.Plan.{Pair, pair, o_not, o_missing, o_add, o_sub, o_mul, o_eq, o_lt, o_and, o_or, Expr, col, lit, miss, un, bin, bare, named, key, f_count, f_sum, f_min, f_max, rows, over, agg, win, JoinType, j_inner, j_left, j_right, j_full, j_lsemi, j_lanti, j_rsemi, j_ranti, on, scan, empty, projection, filter, sort, limit, aggregate, window, subquery_alias, distinct, union, join, Plan, leaf, unary, binary, Catalogue, keyless}
use Rattle.cpl.specs.Lists.{a[], ◌a∷◌}
use Rattle.rules.specs.Mask.{Mask}
use Rattle.rules.specs.Merge.{merge_step}
use Rattle.rules.specs.Rewrite.{Walked, rewrite}
use Rattle.meaning.specs.Value.{Val, missing, num, Log}
use Rattle.meaning.specs.Eval.{eval_all}
use Rattle.meaning.specs.Meaning.{table_rows, meaning}
use Rattle.meaning.specs.Reads.{reads}
use Rattle.meaning.specs.Keyed.{Pairwise, p[], ◌p∷◌, share, Unique, Keyed}
use Rattle.meaning.specs.Computes.{meaning_computes}

abbrev n : ℕ → Val
n k = num (pos k)

-- table 0 has the names 1, 2, 3, table 1 the names 4, 5
abbrev C : Catalogue
C = keyless ((1 ∷ 2 ∷ 3 ∷ []) ∷ (4 ∷ 5 ∷ []) ∷ [])

-- the same in version 2
abbrev C₂ : Catalogue
C₂ = record { version = version2; tables = C.tables; keys = [] }

abbrev D : Log
D =
    ((n 1 ∷ n 30 ∷ n 7 ∷ []) ∷ (n 2 ∷ missing ∷ n 8 ∷ []) ∷ (n 1 ∷ n 10 ∷ n 9 ∷ []) ∷ (missing ∷ n 5 ∷ n 6 ∷ []) ∷ [])
    ∷ ((n 1 ∷ n 70 ∷ []) ∷ (n 9 ∷ n 80 ∷ []) ∷ (n 1 ∷ n 90 ∷ []) ∷ [])
    ∷ []

-- the columns a and b of the first table, whose qualifier is 1; the second table, whose qualifier is 2
abbrev a : Pair
a = pair 1 1

abbrev b : Pair
b = pair 1 2

abbrev x : Pair
x = pair 0 7

abbrev y : Pair
y = pair 0 8

abbrev z : Pair
z = pair 0 9

abbrev S : Plan
S = leaf (scan 0 1 none [])

-- the first table's a and b
abbrev AB : Plan
AB = leaf (scan 0 1 (some (0 ∷ 1 ∷ [])) [])

-- b where a = 1, for which a is read too
abbrev B : Plan
B = leaf (scan 0 1 (some (1 ∷ [])) (bin o_eq (col a) (lit (pos 1)) ∷ []))

-- joined by a = the second table's first column
abbrev J : JoinType → Plan
J t = binary (join t (on (col a) (col (pair 2 4)) ∷ []) none) AB (leaf (scan 1 2 none []))

-- ── each operator, function, node and join type ─────────────────────────────────────────────

abbrev one : Expr
one = lit (pos 1)

abbrev nought : Expr
nought = lit (pos 0)

abbrev two : Expr
two = lit (pos 2)

abbrev three : Expr
three = lit (pos 3)

record Rows : Type 0 where
  -- 2 + 3, 2 - 3, 2 * 3, and with a missing operand
  counted : eval_all [] [] (bin o_add two three ∷ bin o_sub two three ∷ bin o_mul two three ∷ bin o_add two miss ∷ bin o_sub miss two ∷ bin o_mul miss miss ∷ []) ≡ n 5 ∷ num (negsuc 0) ∷ n 6 ∷ missing ∷ missing ∷ missing ∷ []
  -- 2 = 2, 2 = 3; 2 < 3, 3 < 2, 2 < missing; not 0, not 3; is-missing 0
  compared : eval_all [] [] (bin o_eq two two ∷ bin o_eq two three ∷ bin o_lt two three ∷ bin o_lt three two ∷ bin o_lt two miss ∷ un o_not nought ∷ un o_not three ∷ un o_missing nought ∷ []) ≡ n 1 ∷ n 0 ∷ n 1 ∷ n 0 ∷ missing ∷ n 1 ∷ n 0 ∷ n 0 ∷ []
  -- 0 and missing, 5 and missing, 5 and 1; 5 or missing, 0 or missing, 0 or 0
  three_valued : eval_all [] [] (bin o_and nought miss ∷ bin o_and (lit (pos 5)) miss ∷ bin o_and (lit (pos 5)) one ∷ bin o_or (lit (pos 5)) miss ∷ bin o_or nought miss ∷ bin o_or nought nought ∷ [])
      ≡ n 0 ∷ missing ∷ n 1 ∷ n 1 ∷ missing ∷ n 0 ∷ []
  -- missing = missing, not missing, is-missing missing
  with_missing : eval_all [] [] (bin o_eq miss miss ∷ un o_not miss ∷ un o_missing miss ∷ []) ≡ missing ∷ missing ∷ n 1 ∷ []
  -- a scan's columns, in the order in which it names them
  scanned : meaning C D (leaf (scan 1 2 (some (1 ∷ 0 ∷ [])) [])) ≡ (n 70 ∷ n 1 ∷ []) ∷ (n 80 ∷ n 9 ∷ []) ∷ (n 90 ∷ n 1 ∷ []) ∷ []
  -- those of the rows on which each filter is yes, whose columns are read too
  scan_filtered : meaning C₂ D B ≡ (n 30 ∷ []) ∷ (n 10 ∷ []) ∷ []
  scan-reads : map (reads C₂ B 0) (0 ∷ 1 ∷ 2 ∷ []) ≡ true ∷ true ∷ false ∷ []
  -- an Empty with a row, and one without
  one-row : meaning C D (leaf (empty true (a ∷ b ∷ []))) ≡ (missing ∷ missing ∷ []) ∷ []
  no_row : meaning C D (leaf (empty false (a ∷ b ∷ []))) ≡ []
  projected : meaning C D (unary (projection (named x (bin o_add (col b) one) ∷ bare a ∷ [])) AB) ≡ (n 31 ∷ n 1 ∷ []) ∷ (missing ∷ n 2 ∷ []) ∷ (n 11 ∷ n 1 ∷ []) ∷ (n 6 ∷ missing ∷ []) ∷ []
  -- under a new qualifier
  aliased : meaning C D (unary (filter (un o_missing (col (pair 9 1)))) (unary (subquery_alias 9) AB)) ≡ (missing ∷ n 5 ∷ []) ∷ []
  filtered : meaning C D (unary (filter (bin o_lt (col b) (lit (pos 20)))) AB) ≡ (n 1 ∷ n 10 ∷ []) ∷ (missing ∷ n 5 ∷ []) ∷ []
  -- a name without a qualifier has the value of the field that it finds
  by_name : meaning C D (unary (filter (bin o_lt (col (pair 0 2)) (lit (pos 20)))) AB) ≡ (n 1 ∷ n 10 ∷ []) ∷ (missing ∷ n 5 ∷ []) ∷ []
  -- the four flags: descending, missing first; descending, missing last; ascending, missing first; ascending, missing last, where equal keys stay in order
  sorted : meaning C D (unary (sort (key true true (col b) ∷ [])) AB) ≡ (n 2 ∷ missing ∷ []) ∷ (n 1 ∷ n 30 ∷ []) ∷ (n 1 ∷ n 10 ∷ []) ∷ (missing ∷ n 5 ∷ []) ∷ []
  descending : meaning C D (unary (sort (key true false (col b) ∷ [])) AB) ≡ (n 1 ∷ n 30 ∷ []) ∷ (n 1 ∷ n 10 ∷ []) ∷ (missing ∷ n 5 ∷ []) ∷ (n 2 ∷ missing ∷ []) ∷ []
  ascending : meaning C D (unary (sort (key false true (col b) ∷ [])) AB) ≡ (n 2 ∷ missing ∷ []) ∷ (missing ∷ n 5 ∷ []) ∷ (n 1 ∷ n 10 ∷ []) ∷ (n 1 ∷ n 30 ∷ []) ∷ []
  stable : meaning C D (unary (sort (key false false (col a) ∷ [])) AB) ≡ (n 1 ∷ n 30 ∷ []) ∷ (n 1 ∷ n 10 ∷ []) ∷ (n 2 ∷ missing ∷ []) ∷ (missing ∷ n 5 ∷ []) ∷ []
  -- the second key decides where the first does not
  two-keys : meaning C D (unary (sort (key false false (col a) ∷ key false false (col b) ∷ [])) AB) ≡ (n 1 ∷ n 10 ∷ []) ∷ (n 1 ∷ n 30 ∷ []) ∷ (n 2 ∷ missing ∷ []) ∷ (missing ∷ n 5 ∷ []) ∷ []
  paged : meaning C D (unary (limit 1 (some 2)) AB) ≡ (n 2 ∷ missing ∷ []) ∷ (n 1 ∷ n 10 ∷ []) ∷ []
  -- sum and number of rows; then number of present values, least and greatest
  grouped : meaning C D (unary (aggregate (bare a ∷ []) (agg x (over f_sum (col b)) ∷ agg y rows ∷ [])) AB) ≡ (n 1 ∷ n 40 ∷ n 2 ∷ []) ∷ (n 2 ∷ missing ∷ n 1 ∷ []) ∷ (missing ∷ n 5 ∷ n 1 ∷ []) ∷ []
  measured : meaning C D (unary (aggregate (bare a ∷ []) (agg x (over f_count (col b)) ∷ agg y (over f_min (col b)) ∷ agg z (over f_max (col b)) ∷ [])) AB) ≡ (n 1 ∷ n 2 ∷ n 10 ∷ n 30 ∷ []) ∷ (n 2 ∷ n 0 ∷ missing ∷ missing ∷ []) ∷ (missing ∷ n 1 ∷ n 5 ∷ n 5 ∷ []) ∷ []
  -- no groups over no rows: one row
  ungrouped : meaning C D (unary (aggregate [] (agg x (over f_min (col b)) ∷ agg y rows ∷ [])) (unary (limit 9 none) AB)) ≡ (missing ∷ n 0 ∷ []) ∷ []
  -- the sum over the partition, beside each row
  covered : meaning C D (unary (window (win x (over f_sum (col b)) (col a ∷ []) [] ∷ [])) AB) ≡ (n 1 ∷ n 30 ∷ n 40 ∷ []) ∷ (n 2 ∷ missing ∷ missing ∷ []) ∷ (n 1 ∷ n 10 ∷ n 40 ∷ []) ∷ (missing ∷ n 5 ∷ n 5 ∷ []) ∷ []
  -- the row number by b within a
  numbered : meaning C D (unary (window (win x rows (col a ∷ []) (key false false (col b) ∷ []) ∷ [])) AB) ≡ (n 1 ∷ n 30 ∷ n 2 ∷ []) ∷ (n 2 ∷ missing ∷ n 1 ∷ []) ∷ (n 1 ∷ n 10 ∷ n 1 ∷ []) ∷ (missing ∷ n 5 ∷ n 1 ∷ []) ∷ []
  -- number of present values, least and greatest over the partition
  spread : meaning C D (unary (window (win x (over f_count (col b)) (col a ∷ []) [] ∷ win y (over f_min (col b)) (col a ∷ []) [] ∷ win z (over f_max (col b)) (col a ∷ []) [] ∷ [])) AB)
      ≡ (n 1 ∷ n 30 ∷ n 2 ∷ n 10 ∷ n 30 ∷ []) ∷ (n 2 ∷ missing ∷ n 0 ∷ missing ∷ missing ∷ []) ∷ (n 1 ∷ n 10 ∷ n 2 ∷ n 10 ∷ n 30 ∷ []) ∷ (missing ∷ n 5 ∷ n 1 ∷ n 5 ∷ n 5 ∷ []) ∷ []
  -- the first input's rows, then the second's
  appended : meaning C D (binary union (unary (limit 3 none) AB) (leaf (scan 1 2 none []))) ≡ (missing ∷ n 5 ∷ []) ∷ (n 1 ∷ n 70 ∷ []) ∷ (n 9 ∷ n 80 ∷ []) ∷ (n 1 ∷ n 90 ∷ []) ∷ []
  unique : meaning C D (unary distinct (unary (projection (bare a ∷ [])) (binary union AB AB))) ≡ (n 1 ∷ []) ∷ (n 2 ∷ []) ∷ (missing ∷ []) ∷ []
  inner : meaning C D (J j_inner) ≡ (n 1 ∷ n 30 ∷ n 1 ∷ n 70 ∷ []) ∷ (n 1 ∷ n 30 ∷ n 1 ∷ n 90 ∷ []) ∷ (n 1 ∷ n 10 ∷ n 1 ∷ n 70 ∷ []) ∷ (n 1 ∷ n 10 ∷ n 1 ∷ n 90 ∷ []) ∷ []
  left : meaning C D (J j_left)
      ≡ (n 1 ∷ n 30 ∷ n 1 ∷ n 70 ∷ []) ∷ (n 1 ∷ n 30 ∷ n 1 ∷ n 90 ∷ []) ∷ (n 2 ∷ missing ∷ missing ∷ missing ∷ []) ∷ (n 1 ∷ n 10 ∷ n 1 ∷ n 70 ∷ []) ∷ (n 1 ∷ n 10 ∷ n 1 ∷ n 90 ∷ []) ∷ (missing ∷ n 5 ∷ missing ∷ missing ∷ []) ∷ []
  right : meaning C D (J j_right)
      ≡ (n 1 ∷ n 30 ∷ n 1 ∷ n 70 ∷ []) ∷ (n 1 ∷ n 10 ∷ n 1 ∷ n 70 ∷ []) ∷ (missing ∷ missing ∷ n 9 ∷ n 80 ∷ []) ∷ (n 1 ∷ n 30 ∷ n 1 ∷ n 90 ∷ []) ∷ (n 1 ∷ n 10 ∷ n 1 ∷ n 90 ∷ []) ∷ []
  full : meaning C D (J j_full)
      ≡ (n 1 ∷ n 30 ∷ n 1 ∷ n 70 ∷ []) ∷ (n 1 ∷ n 30 ∷ n 1 ∷ n 90 ∷ []) ∷ (n 2 ∷ missing ∷ missing ∷ missing ∷ []) ∷ (n 1 ∷ n 10 ∷ n 1 ∷ n 70 ∷ []) ∷ (n 1 ∷ n 10 ∷ n 1 ∷ n 90 ∷ []) ∷ (missing ∷ n 5 ∷ missing ∷ missing ∷ []) ∷ (missing ∷ missing ∷ n 9 ∷ n 80 ∷ []) ∷ []
  left_semi : meaning C D (J j_lsemi) ≡ (n 1 ∷ n 30 ∷ []) ∷ (n 1 ∷ n 10 ∷ []) ∷ []
  left_anti : meaning C D (J j_lanti) ≡ (n 2 ∷ missing ∷ []) ∷ (missing ∷ n 5 ∷ []) ∷ []
  right_semi : meaning C D (J j_rsemi) ≡ (n 1 ∷ n 70 ∷ []) ∷ (n 1 ∷ n 90 ∷ []) ∷ []
  right_anti : meaning C D (J j_ranti) ≡ (n 9 ∷ n 80 ∷ []) ∷ []
  -- with a condition on both sides and no pairs
  conditioned : meaning C D (binary (join j_inner [] (some (bin o_lt (bin o_add (col b) (lit (pos 65))) (col (pair 2 5))))) AB (leaf (scan 1 2 none []))) ≡ (n 1 ∷ n 10 ∷ n 9 ∷ n 80 ∷ []) ∷ (n 1 ∷ n 10 ∷ n 1 ∷ n 90 ∷ []) ∷ (missing ∷ n 5 ∷ n 9 ∷ n 80 ∷ []) ∷ (missing ∷ n 5 ∷ n 1 ∷ n 90 ∷ []) ∷ []

all-rows : Rows
unfolding meaning_computes
all-rows =
    record {
      counted = refl;
      compared = refl;
      three_valued = refl;
      with_missing = refl;
      scanned = refl;
      scan_filtered = refl;
      scan-reads = refl;
      one-row = refl;
      no_row = refl;
      projected = refl;
      aliased = refl;
      filtered = refl;
      by_name = refl;
      sorted = refl;
      descending = refl;
      ascending = refl;
      stable = refl;
      two-keys = refl;
      paged = refl;
      grouped = refl;
      measured = refl;
      ungrouped = refl;
      covered = refl;
      numbered = refl;
      spread = refl;
      appended = refl;
      unique = refl;
      inner = refl;
      left = refl;
      right = refl;
      full = refl;
      left_semi = refl;
      left_anti = refl;
      right_semi = refl;
      right_anti = refl;
      conditioned = refl;
    }

-- ── three stories of the pass ───────────────────────────────────────────────────────────────

abbrev crate : Plan → Mask → Walked
crate p R = rewrite (merge_step false 0) C p R

abbrev house : Plan → Mask → Walked
house p R = rewrite (merge_step true 0) C p R

-- a gateway and a view that each add one under the same name: [y+1 as y], [y+1 as y], [a as y], S
abbrev add-one : Plan → Plan
add-one p = unary (projection (named y (bin o_add (col y) one) ∷ [])) p

abbrev twice : Plan
twice = add-one (add-one (unary (projection (named y (col a) ∷ [])) S))

-- the row number alone, by b within a: nobody prints a or b
abbrev row_number : Plan → Plan
row_number p = unary (projection (bare x ∷ [])) (unary (window (win x rows (col a ∷ []) (key false false (col b) ∷ []) ∷ [])) p)

-- the sum of b within a, and the number of rows
abbrev sums : Plan
sums = unary (aggregate (bare a ∷ []) (agg x (over f_sum (col b)) ∷ agg y rows ∷ [])) S

record Stories : Type 0 where
  -- crate mode loses one of the two additions, house mode none
  twice-before : meaning C D twice ≡ (n 3 ∷ []) ∷ (n 4 ∷ []) ∷ (n 3 ∷ []) ∷ (missing ∷ []) ∷ []
  twice_crate : meaning C D (crate twice (true ∷ [])).plan ≡ (n 2 ∷ []) ∷ (n 3 ∷ []) ∷ (n 2 ∷ []) ∷ (missing ∷ []) ∷ []
  twice_house : meaning C D (house twice (true ∷ [])).plan ≡ meaning C D twice
  -- the scan keeps the partition's column and the order's, and drops the third
  numbered-plan : (house (row_number S) (true ∷ [])).plan ≡ row_number AB
  numbered-reads : map (reads C (house (row_number S) (true ∷ [])).plan 0) (0 ∷ 1 ∷ 2 ∷ []) ≡ true ∷ true ∷ false ∷ []
  numbered-before : meaning C D (row_number S) ≡ (n 2 ∷ []) ∷ (n 1 ∷ []) ∷ (n 1 ∷ []) ∷ (n 1 ∷ []) ∷ []
  numbered-after : meaning C D (house (row_number S) (true ∷ [])).plan ≡ meaning C D (row_number S)
  -- only the sum is requested: the group column stays with it, since it decides the rows
  sums_kept : (house sums (false ∷ true ∷ false ∷ [])).kept ≡ true ∷ true ∷ false ∷ []
  sums_before : meaning C D sums ≡ (n 1 ∷ n 40 ∷ n 2 ∷ []) ∷ (n 2 ∷ missing ∷ n 1 ∷ []) ∷ (missing ∷ n 5 ∷ n 1 ∷ []) ∷ []
  sums_after : meaning C D (house sums (false ∷ true ∷ false ∷ [])).plan ≡ (n 1 ∷ n 40 ∷ []) ∷ (n 2 ∷ missing ∷ []) ∷ (missing ∷ n 5 ∷ []) ∷ []

stories : Stories
unfolding meaning_computes
stories =
    record {
      twice-before = refl;
      twice_crate = refl;
      twice_house = refl;
      numbered-plan = refl;
      numbered-reads = refl;
      numbered-before = refl;
      numbered-after = refl;
      sums_kept = refl;
      sums_before = refl;
      sums_after = refl;
    }

-- ── a key lets a group column go ────────────────────────────────────────────────────────────

-- the same tables, where the first has a key
abbrev keyed : (columns : List ℕ) → Catalogue
keyed is = record { version = version2; tables = C.tables; keys = record { table = 0; columns = is } ∷ [] }

abbrev c : Pair
c = pair 1 3

-- the sum of a, grouped by the third column and by b
abbrev by_c : Plan
by_c = unary (aggregate (bare c ∷ bare b ∷ []) (agg x (over f_sum (col a)) ∷ [])) S

-- the number of rows, grouped by a and b
abbrev by_a : Plan
by_a = unary (aggregate (bare a ∷ bare b ∷ []) (agg x rows ∷ [])) S

-- only the third field is requested, where the first table has this key
abbrev third : (columns : List ℕ) → Plan → Walked
third is p = rewrite (merge_step true 0) (keyed is) p (false ∷ false ∷ true ∷ [])

record Keys : Type 0 where
  -- the third column is a key of the rows, and a is none
  holds : Keyed (keyed (2 ∷ [])) D
  broken : ¬ (Keyed (keyed (0 ∷ [])) D)
  -- the key's column stays, b goes, and the scan no longer reads it
  gone : (third (2 ∷ []) by_c).plan ≡ unary (aggregate (bare c ∷ []) (agg x (over f_sum (col a)) ∷ [])) (leaf (scan 0 1 (some (0 ∷ 2 ∷ [])) []))
  before : meaning (keyed (2 ∷ [])) D by_c ≡ (n 7 ∷ n 30 ∷ n 1 ∷ []) ∷ (n 8 ∷ missing ∷ n 2 ∷ []) ∷ (n 9 ∷ n 10 ∷ n 1 ∷ []) ∷ (n 6 ∷ n 5 ∷ missing ∷ []) ∷ []
  after : meaning (keyed (2 ∷ [])) D (third (2 ∷ []) by_c).plan ≡ (n 7 ∷ n 1 ∷ []) ∷ (n 8 ∷ n 2 ∷ []) ∷ (n 9 ∷ n 1 ∷ []) ∷ (n 6 ∷ missing ∷ []) ∷ []
  -- the premise is needed: where a is declared as the key, b goes, and rows with it
  broken-before : meaning (keyed (0 ∷ [])) D by_a ≡ (n 1 ∷ n 30 ∷ n 1 ∷ []) ∷ (n 2 ∷ missing ∷ n 1 ∷ []) ∷ (n 1 ∷ n 10 ∷ n 1 ∷ []) ∷ (missing ∷ n 5 ∷ n 1 ∷ []) ∷ []
  broken-after : meaning (keyed (0 ∷ [])) D (third (0 ∷ []) by_a).plan ≡ (n 1 ∷ n 2 ∷ []) ∷ (n 2 ∷ n 1 ∷ []) ∷ (missing ∷ n 1 ∷ []) ∷ []

keys : Keys
unfolding meaning_computes
keys =
    record {
      holds = record { no_two = (tt a∷ tt a∷ tt a∷ a[]) p∷ (tt a∷ tt a∷ a[]) p∷ (tt a∷ a[]) p∷ a[] p∷ p[]; none_missing = tt a∷ tt a∷ tt a∷ tt a∷ a[] } a∷ a[];
      broken = not-keyed;
      gone = refl;
      before = refl;
      after = refl;
      broken-before = refl;
      broken-after = refl;
    }
  where
    -- the first row and the third share a
    not-two : Unique (0 ∷ []) (table_rows D 0) → ⊥
    not-two u = two u.no_two
      where
        two : Pairwise (λ r s. T (not (share (0 ∷ []) r s))) (table_rows D 0) → ⊥
        two ((h a∷ k a∷ l) p∷ ls) = k

    not-keyed : Keyed (keyed (0 ∷ [])) D → ⊥
    not-keyed (u a∷ us) = not-two u
