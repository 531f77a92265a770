-- What an array that is written to keeps.
use Rattle.std.specs.Prelude.{◌≡◌, List, ℕ, ◌<◌, length, get_or}

-- the first m numbers, and the length, are the same
pub record Kept (m : ℕ) (s s' : List ℕ) : Type 0 where
  pub same : (k : ℕ) → k < m → get_or s' k 0 ≡ get_or s k 0
  pub long : length s' ≡ length s
