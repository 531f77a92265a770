-- Worked examples: numbers, and the program's input and output that document 01 shows. Assumes nothing.
use mathlib.Core.Path.{◌≡◌, refl}
use mathlib.Core.List.{List, [], ◌∷◌}
use Prim.Native.Nat.{ℕ}
use Rattle.rules.specs.Computes.{rules_computes}
use Rattle.plan_text.specs.Decimal.{decimal, digits_to}
use Rattle.listing.specs.Text.{program_text}
use Rattle.listing.specs.Computes.{listing_computes}

nothing : decimal 0 ≡ 48 ∷ []
unfolding decimal digits_to
nothing = refl

ten : decimal 10 ≡ 49 ∷ 48 ∷ []
unfolding decimal digits_to
ten = refl

bytes : decimal 65536 ≡ 54 ∷ 53 ∷ 53 ∷ 51 ∷ 54 ∷ []
unfolding decimal digits_to
bytes = refl

-- "S1, hex: 00 00 00 43 50 4C 01 00 01 03 01 00 02 00 03 00 01 01 00 01 00 01 00 0B 00 01 00 00"
s1 : List ℕ
s1 =
    0 ∷ 0 ∷ 0 ∷ 67 ∷ 80 ∷ 76 ∷ 1 ∷ 0 ∷ 1 ∷ 3 ∷ 1 ∷ 0 ∷ 2 ∷ 0 ∷ 3 ∷ 0 ∷ 1 ∷ 1 ∷ 0 ∷ 1 ∷ 0 ∷ 1 ∷ 0 ∷ 11 ∷ 0 ∷ 1 ∷ 0 ∷ 0 ∷ []

-- "Whole output: PLAN 1, 0 scan 1"
printed : program_text s1 ≡ 80 ∷ 76 ∷ 65 ∷ 78 ∷ 32 ∷ 49 ∷ 10 ∷ 48 ∷ 32 ∷ 115 ∷ 99 ∷ 97 ∷ 110 ∷ 32 ∷ 49 ∷ 10 ∷ []
unfolding listing_computes rules_computes s1
printed = refl

-- "Empty input prints REFUSED 2 0"
refused : program_text [] ≡ 82 ∷ 69 ∷ 70 ∷ 85 ∷ 83 ∷ 69 ∷ 68 ∷ 32 ∷ 50 ∷ 32 ∷ 48 ∷ 10 ∷ []
unfolding listing_computes rules_computes
refused = refl
