-- A set of indices is a number: i is in it where the number's binary digit i is 1. The same set as a mask.
use Rattle.std.specs.Prelude.{Bool, [], ◌∷◌, ℕ, zero, suc, ◌/◌, ◌%◌, ◌^◌, eqb}
use Rattle.rules.specs.Mask.{Mask}

abbrev pub odd : ℕ → Bool
odd n = eqb (n % 2) 1

-- is i in the set?
unfoldable pub has : ℕ → ℕ → Bool
has s i = odd (s / 2 ^ i)

-- the set as a mask over n fields: its first n digits, lowest first
unfoldable pub set_mask : ℕ → ℕ → Mask
set_mask zero s = []
set_mask (suc n) s = odd s ∷ set_mask n (s / 2)
