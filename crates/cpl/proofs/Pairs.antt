-- The test of pairs is equality.
use mathlib.Core.Path.{◌≡◌, ap₂}
use mathlib.Core.Bool.{true, ◌&&◌}
use lib.Dec.{T, eqb, eqb→eq, eqb_refl}
use Rattle.cpl.specs.Plan.{Pair, pair, eq_p}
use Rattle.cpl.proofs.Bools.{halves, is_true}

pub eq_p-refl : (c : Pair) → eq_p c c ≡ true
unfolding eq_p
eq_p-refl (pair q n) = ap₂ ◌&&◌ (is_true (eqb q q) (eqb_refl q)) (is_true (eqb n n) (eqb_refl n))

pub eq_p_eq : (c d : Pair) → T (eq_p c d) → c ≡ d
unfolding eq_p
eq_p_eq (pair q n) (pair r m) t = let h = halves (eqb q r) (eqb n m) t in ap₂ pair (eqb→eq q r h.0) (eqb→eq n m h.1)
