-- Names without a qualifier, by computation: what a reference finds, and the order of UNKNOWN, AMBIGUOUS and the codes after them.
use mathlib.Core.Path.{◌≡◌, refl}
use mathlib.Core.List.{[], ◌∷◌}
use mathlib.Core.Option.{none, some}
use Prim.Native.Nat.{ℕ}
use Rattle.cpl.specs.Codes.{CLASH, UNKNOWN, AMBIGUOUS}
use Rattle.cpl.specs.Plan.{pair, o_add, Expr, col, bin, bare, j_inner, on, scan, projection, filter, join, Plan, leaf, unary, binary, Catalogue, keyless}
use Rattle.cpl.specs.Exprs.{find}
use Rattle.cpl.specs.Accept.{fault, check}
use Rattle.cpl.specs.Computes.{cpl_computes}

-- two tables that share the name 1, and one that has a name twice
abbrev C : Catalogue
C = keyless ((1 ∷ 2 ∷ []) ∷ (1 ∷ 3 ∷ []) ∷ (4 ∷ 4 ∷ 5 ∷ []) ∷ [])

abbrev L : Plan
L = leaf (scan 0 1 none [])

abbrev R : Plan
R = leaf (scan 1 2 none [])

-- a name without a qualifier
abbrev c : ℕ → Expr
c n = col (pair 0 n)

-- joined by that condition, and by the pair of halves c1 = c1
abbrev under : Expr → Plan
under e = binary (join j_inner [] (some e)) L R

abbrev halves : Plan → Plan → Plan
halves p q = binary (join j_inner (on (c 1) (c 1) ∷ []) none) p q

-- the third table under qualifier 3, its last column, where that is so
abbrev where_so : Expr → Plan
where_so e = leaf (scan 2 3 (some (2 ∷ [])) (e ∷ []))

record Found : Type 0 where
  -- a name alone finds the qualified field; a qualified reference needs the exact pair, also where the field has no qualifier
  name_alone : find (pair 0 2) (pair 1 1 ∷ pair 1 2 ∷ []) ≡ some 1
  other_qualifier : find (pair 3 2) (pair 1 1 ∷ pair 1 2 ∷ []) ≡ none
  no_qualifier : find (pair 3 2) (pair 0 1 ∷ pair 0 2 ∷ []) ≡ none
  -- "the first that fits"
  first : find (pair 0 1) (pair 3 4 ∷ pair 2 1 ∷ pair 1 1 ∷ []) ≡ some 1

record Codes : Type 0 where
  known : check C (unary (filter (c 2)) L) 0 ≡ none
  unknown : check C (unary (filter (col (pair 3 2))) L) 0 ≡ some (fault UNKNOWN 0)
  -- a join's halves each in their own side, the condition in both
  each-side : check C (halves L R) 0 ≡ none
  both_sides : check C (under (c 1)) 0 ≡ some (fault AMBIGUOUS 0)
  one_side : check C (under (bin o_add (c 2) (c 3))) 0 ≡ none
  -- UNKNOWN comes before AMBIGUOUS, and that before CLASH: two equal pairs, and two sides with a pair in common
  unknown_first : check C (under (bin o_add (c 1) (c 9))) 0 ≡ some (fault UNKNOWN 0)
  clash-last : check C (unary (projection (bare (pair 0 1) ∷ bare (pair 0 1) ∷ [])) (halves L R)) 0 ≡ some (fault AMBIGUOUS 0)
  sides_last : check C (binary (join j_inner [] (some (col (pair 1 1)))) L L) 0 ≡ some (fault AMBIGUOUS 0)
  -- "a scan filter's column that its table lacks is 8 at that scan, two fitting 17": the filter sees all columns, the name twice with its qualifier too
  filtered : check C (where_so (c 5)) 0 ≡ none
  filter_lacks : check C (where_so (bin o_add (c 4) (c 1))) 0 ≡ some (fault UNKNOWN 0)
  filter-twice : check C (where_so (c 4)) 0 ≡ some (fault AMBIGUOUS 0)
  filter-pair-twice : check C (where_so (col (pair 3 4))) 0 ≡ some (fault AMBIGUOUS 0)
  sides_clash : check C (binary (join j_inner [] none) L L) 0 ≡ some (fault CLASH 0)

found_so : Found
unfolding cpl_computes
found_so = record { name_alone = refl; other_qualifier = refl; no_qualifier = refl; first = refl }

codes_so : Codes
unfolding cpl_computes
codes_so =
    record {
      known = refl;
      unknown = refl;
      each-side = refl;
      both_sides = refl;
      one_side = refl;
      unknown_first = refl;
      clash-last = refl;
      sides_last = refl;
      filtered = refl;
      filter_lacks = refl;
      filter-twice = refl;
      filter-pair-twice = refl;
      sides_clash = refl;
    }
