-- A join's request, split. Assumes nothing.
use mathlib.Core.Path.{◌≡◌, sym, subst}
use mathlib.Core.Logic.{◌⊎◌, inl, inr}
use mathlib.Core.Bool.{Bool}
use mathlib.Core.List.{List, ◌++◌}
use Prim.Native.Nat.{ℕ, ◌/◌, ◌%◌, ◌^◌, ◌≤◌}
use native.Mathlib.Omega.{arith}
use lib.ListN.{drop, length, length-append, take}
use Rattle.cpl.specs.Fields.{join_fields}
use Rattle.cpl.specs.Lists.{Fit}
use Rattle.cpl.specs.Plan.{Pair}
use Rattle.cpl.proofs.Lists.{Fit-length}
use Rattle.rules.specs.Mask.{Mask}
use Rattle.rules.specs.Rules.{left_part, right_part}
use Rattle.required_indices.specs.Request.{Asks, Holds, set_of}
use Rattle.required_indices.specs.declared.RequiredIndices.{RequiredIndices}
use Rattle.required_indices.specs.declared.Split.{Split}
use Rattle.required_indices.proofs.Methods.{below-asks, new_asks, rest-asks}
use Rattle.tree.specs.declared.JoinType.{JoinType}
use Rattle.tree.specs.declared.JoinType.TheVariants.{Full, Inner, Left, LeftAnti, LeftSemi, Right, RightAnti, RightSemi}
use Rattle.requests.specs.Asked.{Parted}

module _ {n : ℕ} {r : RequiredIndices} {s : Split} where
  module _ {b : Bool} (h : Holds s.below (set_of r % 2 ^ n) b) (k : Holds s.rest (set_of r / 2 ^ n) b) where
    halves : (fl fr : List Pair) (R : Mask) → n ≡ length fl → Fit R (fl ++ fr) → Asks r R → Asks s.below (take (length fl) R) × Asks s.rest (drop (length fl) R)
    halves fl fr R e f a =
        let l : n ≤ length R = omega (arith, Fit-length f, length-append fl fr) in
        subst (λ m. Asks s.below (take m R) × Asks s.rest (drop m R)) e (below-asks n a l h, rest-asks n a l k)

    parted_inner : Parted Inner n r s
    unfolding join_fields left_part right_part
    parted_inner = record { parts = halves }

    parted_left : Parted Left n r s
    unfolding join_fields left_part right_part
    parted_left = record { parts = halves }

    parted_right : Parted Right n r s
    unfolding join_fields left_part right_part
    parted_right = record { parts = halves }

    parted_full : Parted Full n r s
    unfolding join_fields left_part right_part
    parted_full = record { parts = halves }

    -- a join that hands out the fields of both sides
    pub parted_both : {t : JoinType} → (t ≡ Inner) ⊎ ((t ≡ Left) ⊎ ((t ≡ Right) ⊎ (t ≡ Full))) → Parted t n r s
    parted_both (inl e) = rw e parted_inner
    parted_both (inr (inl e)) = rw e parted_left
    parted_both (inr (inr (inl e))) = rw e parted_right
    parted_both (inr (inr (inr e))) = rw e parted_full

  module _ {b : Bool} (h : s.below ≡ r) (k : Holds s.rest 0 b) where
    parted_left_semi : Parted LeftSemi n r s
    unfolding join_fields left_part right_part
    parted_left_semi = record { parts = λ fl fr R e f a. (subst (λ x. Asks x R) (sym h) a, new_asks fr k) }

    parted_left_anti : Parted LeftAnti n r s
    unfolding join_fields left_part right_part
    parted_left_anti = record { parts = λ fl fr R e f a. (subst (λ x. Asks x R) (sym h) a, new_asks fr k) }

    -- a join that hands out the fields of its left side
    pub parted_own_left : {t : JoinType} → (t ≡ LeftSemi) ⊎ (t ≡ LeftAnti) → Parted t n r s
    parted_own_left (inl e) = rw e parted_left_semi
    parted_own_left (inr e) = rw e parted_left_anti

  module _ {b : Bool} (h : Holds s.below 0 b) (k : s.rest ≡ r) where
    parted_right_semi : Parted RightSemi n r s
    unfolding join_fields left_part right_part
    parted_right_semi = record { parts = λ fl fr R e f a. (new_asks fl h, subst (λ x. Asks x R) (sym k) a) }

    parted_right_anti : Parted RightAnti n r s
    unfolding join_fields left_part right_part
    parted_right_anti = record { parts = λ fl fr R e f a. (new_asks fl h, subst (λ x. Asks x R) (sym k) a) }

    -- a join that hands out the fields of its right side
    pub parted_own_right : {t : JoinType} → (t ≡ RightSemi) ⊎ (t ≡ RightAnti) → Parted t n r s
    parted_own_right (inl e) = rw e parted_right_semi
    parted_own_right (inr e) = rw e parted_right_anti
