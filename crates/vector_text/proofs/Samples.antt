-- Worked samples of what a text says. Assumes nothing.
use mathlib.Core.Path.{◌≡◌, refl}
use mathlib.Core.List.{List, [], ◌∷◌}
use Rattle.std.specs.Prelude.{Some, None}
use Prim.Native.Nat.{ℕ}
use Rattle.vector_text.specs.Text.{below, both, byte_of, bytes_of, dash, decimal, digit_of, field_of, list_of}
use Rattle.vector_text.specs.Text.{number_of, onto, pairs, pieces, shorts}

-- the text `1 23  -`
abbrev line : List ℕ
line = 49 ∷ 32 ∷ 50 ∷ 51 ∷ 32 ∷ 32 ∷ 45 ∷ []

fields : pieces 32 line ≡ (49 ∷ []) ∷ (50 ∷ 51 ∷ []) ∷ [] ∷ (45 ∷ []) ∷ []
fields = refl

second-field : number_of (field_of 1 line) ≡ Some 23
unfolding number_of below decimal digit_of
second-field = refl

fields-end : (field_of 2 line ≡ []) × (field_of 4 line ≡ [])
fields-end = (refl, refl)

-- nothing; `007`; `0999999999`; `1000000000`; `1a`
numbers : (number_of [] ≡ None) × (number_of (48 ∷ 48 ∷ 55 ∷ []) ≡ Some 7)
    × (number_of (48 ∷ 57 ∷ 57 ∷ 57 ∷ 57 ∷ 57 ∷ 57 ∷ 57 ∷ 57 ∷ 57 ∷ []) ≡ Some 999999999)
    × (number_of (49 ∷ 48 ∷ 48 ∷ 48 ∷ 48 ∷ 48 ∷ 48 ∷ 48 ∷ 48 ∷ 48 ∷ []) ≡ None) × (number_of (49 ∷ 97 ∷ []) ≡ None)
unfolding number_of below decimal digit_of
numbers = (refl, refl, refl, refl, refl)

-- nothing; `-`; `1,65535`; `1,`; `65536`
lists : (list_of [] ≡ None) × (list_of (45 ∷ []) ≡ Some []) × (list_of (49 ∷ 44 ∷ 54 ∷ 53 ∷ 53 ∷ 51 ∷ 53 ∷ []) ≡ Some (1 ∷ 65535 ∷ []))
    × (list_of (49 ∷ 44 ∷ []) ≡ None) × (list_of (54 ∷ 53 ∷ 53 ∷ 51 ∷ 54 ∷ []) ≡ None)
unfolding list_of dash shorts both onto number_of below decimal digit_of
lists = (refl, refl, refl, refl, refl)

-- nothing; `-`; `0aff`; `0af`; `0A`
hexadecimal : (bytes_of [] ≡ None) × (bytes_of (45 ∷ []) ≡ Some []) × (bytes_of (48 ∷ 97 ∷ 102 ∷ 102 ∷ []) ≡ Some (10 ∷ 255 ∷ []))
    × (bytes_of (48 ∷ 97 ∷ 102 ∷ []) ≡ None) × (bytes_of (48 ∷ 65 ∷ []) ≡ None)
unfolding bytes_of dash pairs both onto byte_of digit_of
hexadecimal = (refl, refl, refl, refl, refl)
