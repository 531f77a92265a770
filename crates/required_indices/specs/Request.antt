-- What a request means: the set that its words hold, and the mask that it stands for. Every contract says it by `set_of`.
use Rattle.std.specs.Prelude.{◌≡◌, Bool, true, false, List, ◌∷◌, ℕ, ◌+◌, ◌^◌, ◌≤◌, ◌<◌, min, eqb, length, get_or, take, drop, Option, Some, None}
use Rattle.std.proofs.Common.{Fits}
use Rattle.std.specs.Int.{w64}
use Rattle.rules.specs.Mask.{Mask}
use Rattle.required_indices.specs.Set.{has, set_mask}
use Rattle.required_indices.specs.Words.{number}
use Rattle.required_indices.specs.declared.RequiredIndices.{RequiredIndices}

-- how many words there are: WORDS of src/lib.rt. A wider set needs these two numbers and nothing else.
abbrev pub words_n : ℕ
words_n = 8

-- the words that are in use: what the others hold does not matter
abbrev pub words_of : RequiredIndices → List ℕ
words_of r = take r.used r.indices

-- words that are lent: as many as there are, each of 64 digits
abbrev pub Lent : List ℕ → Type 0
Lent ws = (length ws ≡ words_n) × ((j : ℕ) → Fits w64 (get_or ws j 0))

-- the set that the first `used` of some words hold
abbrev pub set_in : List ℕ → ℕ → ℕ
set_in ws used = number (take used ws)

abbrev pub set_of : RequiredIndices → ℕ
set_of r = set_in r.indices r.used

-- the flag: `projection_beneficial` of the Rust, which stands as 1
abbrev pub flag_of : RequiredIndices → Bool
flag_of r = eqb r.projection_beneficial 1

-- the request holds the set s, with the flag b
pub record Holds (r : RequiredIndices) (s : ℕ) (b : Bool) : Type 0 where
  pub set : set_of r ≡ s
  pub flag : flag_of r ≡ b

-- the first index of s at or above from
abbrev pub IsNext : ℕ → ℕ → Option ℕ → Type 0
IsNext s from (Some i) = (from ≤ i) × (has s i ≡ true) × ((j : ℕ) → from ≤ j → j < i → has s j ≡ false)
IsNext s from None = (j : ℕ) → from ≤ j → has s j ≡ false

-- the request as a mask over n fields
abbrev pub request_mask : ℕ → RequiredIndices → Mask
request_mask n r = set_mask n (set_of r)

-- the request asks for the fields of the mask, and for no index past them
pub record Asks (r : RequiredIndices) (R : Mask) : Type 0 where
  pub mask : request_mask (length R) r ≡ R
  pub within : set_of r < 2 ^ length R

-- how many numbers a stored set takes
abbrev pub stored_n : ℕ
stored_n = 1 + words_n

-- the numbers that are stored of a set: how many words are in use, and these
abbrev pub stored_in : List ℕ → ℕ → List ℕ
stored_in ws used = length (take used ws) ∷ take used ws

abbrev pub stored : RequiredIndices → List ℕ
stored r = stored_in r.indices r.used

-- the set that is stored from at on
abbrev pub stored_at : List ℕ → ℕ → ℕ
stored_at s at = number (take (min (get_or s at 0) words_n) (drop (at + 1) s))
