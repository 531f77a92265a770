-- A set as a list of words of 64 digits, the lowest word first.
use Rattle.std.specs.Prelude.{List, [], ◌∷◌, ℕ, ◌+◌, ◌*◌, ◌^◌, ◌<◌}

-- the set that the words hold
unfoldable pub number : List ℕ → ℕ
number [] = 0
number (w ∷ ws) = number ws * 2 ^ 64 + w

abbrev pub Word : ℕ → Type 0
Word w = w < 2 ^ 64
