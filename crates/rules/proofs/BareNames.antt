-- Names without a qualifier in the rules, by computation, in house mode with mask 0.
use mathlib.Core.Path.{◌≡◌, refl}
use mathlib.Core.List.{List, [], ◌∷◌}
use mathlib.Core.Bool.{true, false}
use mathlib.Core.Option.{Option, none, some}
use Prim.Native.Nat.{ℕ}
use lib.IntN.{pos}
use Rattle.cpl.specs.Plan.{Pair, pair, o_add, Expr, col, lit, bin, Item, bare, named, j_inner, on, scan, projection, join, Plan, leaf, unary, binary, Catalogue, keyless}
use Rattle.rules.specs.Mask.{Mask}
use Rattle.rules.specs.Merge.{merge_step}
use Rattle.rules.specs.Rewrite.{rewrite}
use Rattle.rules.specs.Computes.{rules_computes}

abbrev C : Catalogue
C = keyless ((1 ∷ 2 ∷ 3 ∷ []) ∷ (2 ∷ 3 ∷ 4 ∷ []) ∷ [])

-- a name without a qualifier
abbrev c : ℕ → Pair
c n = pair 0 n

abbrev L : Option (List ℕ) → Plan
L is = leaf (scan 0 1 is [])

abbrev house : Plan → Mask → Plan
house p K = (rewrite (merge_step true 0) C p K).plan

-- left joined with right by c2 = c3
abbrev J : Option (List ℕ) → Option (List ℕ) → Plan
J is js = binary (join j_inner (on (col (c 2)) (col (c 3)) ∷ []) none) (L is) (leaf (scan 1 2 js []))

-- [q1.c1 + 1 as q1.c1] under one item
abbrev next : Expr
next = bin o_add (col (pair 1 1)) (lit (pos 1))

abbrev over : Item → Option (List ℕ) → Plan
over i is = unary (projection (i ∷ [])) (unary (projection (named (pair 1 1) next ∷ [])) (L is))

record Rewritten : Type 0 where
  -- a bare item keeps its written pair: the projection [c2] over q1.c2 is not dropped, as [q1.c2] is
  item-stays : house (unary (projection (bare (c 2) ∷ [])) (L none)) (true ∷ []) ≡ unary (projection (bare (c 2) ∷ [])) (L (some (1 ∷ [])))
  item_goes : house (unary (projection (bare (pair 1 2) ∷ [])) (L none)) (true ∷ []) ≡ L (some (1 ∷ []))
  -- "so a side may be asked for a column too many": the left for c3 and the right for c2
  too_many : house (J none none) (true ∷ false ∷ false ∷ false ∷ false ∷ false ∷ []) ≡ J (some (0 ∷ 1 ∷ 2 ∷ [])) (some (0 ∷ 1 ∷ []))
  -- one pair written twice stops the merge; two pairs that find one definition, each written once, do not
  written_twice : house (over (named (c 9) (bin o_add (col (c 1)) (col (c 1)))) none) (true ∷ []) ≡ over (named (c 9) (bin o_add (col (c 1)) (col (c 1)))) (some (0 ∷ []))
  written_once : house (over (named (c 9) (bin o_add (col (c 1)) (col (pair 1 1)))) none) (true ∷ []) ≡ unary (projection (named (c 9) (bin o_add next next) ∷ [])) (L (some (0 ∷ [])))

rewritten_so : Rewritten
unfolding rules_computes
rewritten_so = record { item-stays = refl; item_goes = refl; too_many = refl; written_twice = refl; written_once = refl }
