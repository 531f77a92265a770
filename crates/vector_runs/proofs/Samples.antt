-- Worked samples of what stands in a line. Assumes nothing.
use mathlib.Core.Path.{◌≡◌, refl}
use mathlib.Core.List.{List, [], ◌∷◌}
use Rattle.std.specs.Prelude.{Some, None}
use Prim.Native.Nat.{ℕ}
use Rattle.vector_runs.specs.Runs.{wanted_of}
use Rattle.vector_text.specs.Text.{below, decimal, digit_of, number_of}

-- the text `x 18 7 90`
abbrev line : List ℕ
line = 120 ∷ 32 ∷ 49 ∷ 56 ∷ 32 ∷ 55 ∷ 32 ∷ 57 ∷ 48 ∷ []

-- from field 1 on; the code not below `codes`; a word for the code; no third field
answers : (wanted_of 19 1 line ≡ Some (record { code = 18; length = 7; place = 90 })) × (wanted_of 18 1 line ≡ None)
    × (wanted_of 19 0 line ≡ None) × (wanted_of 19 2 line ≡ None)
unfolding number_of below decimal digit_of
answers = (refl, refl, refl, refl)
