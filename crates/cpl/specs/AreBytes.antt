-- A file is a list of bytes.
use Rattle.std.specs.Prelude.{ℕ, ◌<◌, List}
use Rattle.cpl.specs.Lists.{All}

abbrev pub AreBytes : List ℕ → Type 0
AreBytes file = All (λ b. b < 256) file
