-- The test of values and rows, missings counted as equal, is equality.
use mathlib.Core.Path.{◌≡◌, refl, ap, ap₂}
use mathlib.Core.List.{[], ◌∷◌}
use mathlib.Core.Bool.{Bool, true, false, not}
use lib.Dec.{T, eqb→eq, eqb_refl}
use lib.IntN.{ℤ, pos, negsuc}
use Rattle.cpl.specs.Plan.{o_eq}
use Rattle.cpl.proofs.Bools.{halves, both-T, is_true}
use Rattle.meaning.specs.Value.{Val, missing, num, Row, eq_z, yes?, missing?, truth, if_present, op2, same, same_row}

pub eq_z-refl : (z : ℤ) → T (eq_z z z)
unfolding eq_z
eq_z-refl (pos a) = eqb_refl a
eq_z-refl (negsuc a) = eqb_refl a

eq_z_eq : (y z : ℤ) → T (eq_z y z) → y ≡ z
unfolding eq_z
eq_z_eq (pos a) (pos b) t = ap pos (eqb→eq a b t)
eq_z_eq (pos a) (negsuc b) t = absurd t
eq_z_eq (negsuc a) (pos b) t = absurd t
eq_z_eq (negsuc a) (negsuc b) t = ap negsuc (eqb→eq a b t)

-- a value that is there equals itself
pub equal_yes : (v : Val) → T (not (missing? v)) → T (yes? (op2 o_eq v v))
unfolding missing? yes? op2 if_present truth eq_z
equal_yes missing t = absurd t
equal_yes (num z) t = rw (is_true (eq_z z z) (eq_z-refl z)) tt

same_refl : (v : Val) → T (same v v)
unfolding same
same_refl missing = tt
same_refl (num z) = eq_z-refl z

same_eq : (u v : Val) → T (same u v) → u ≡ v
unfolding same
same_eq missing missing t = refl
same_eq missing (num z) t = absurd t
same_eq (num z) missing t = absurd t
same_eq (num y) (num z) t = ap num (eq_z_eq y z t)

same-row-refl : (r : Row) → T (same_row r r)
unfolding same_row
same-row-refl [] = tt
same-row-refl (v ∷ r) = both-T (same v v) (same_row r r) (same_refl v) (same-row-refl r)

same-row_eq : (r s : Row) → T (same_row r s) → r ≡ s
unfolding same_row
same-row_eq [] [] t = refl
same-row_eq [] (v ∷ s) t = absurd t
same-row_eq (u ∷ r) [] t = absurd t
same-row_eq (u ∷ r) (v ∷ s) t = let h = halves (same u v) (same_row r s) t in ap₂ ◌∷◌ (same_eq u v h.0) (same-row_eq r s h.1)

pub same_yes : (r : Row) → same_row r r ≡ true
same_yes r = is_true (same_row r r) (same-row-refl r)

pub same_no : (r s : Row) → ¬ (r ≡ s) → same_row r s ≡ false
same_no r s n = go (same_row r s) (λ t. same-row_eq r s t)
  where
    go : (b : Bool) → (T b → r ≡ s) → b ≡ false
    go true h = absurd (n (h tt))
    go false h = refl
