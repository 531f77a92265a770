-- The answers for the mark. Assumes nothing: these are definitions.
use Rattle.std.specs.Prelude.{ℕ, ◌≡◌, List, Option, Some, None}
use Rattle.cpl.specs.Codes.{MARK}
use Rattle.cpl.specs.Read.{ok, bad}
use Rattle.cpl.specs.ReadPlan.{read_mark}
use Rattle.versions.specs.Versions.{version_of, Known}
use Rattle.versions.specs.declared.Version.{Version}

-- the file's mark
abbrev pub MarkIs : (file : List ℕ) → Option Version → Type 0
MarkIs file (Some version) = ((tags n : ℕ) → read_mark file 0 tags n ≡ ok (version_of version) 5 tags n) × Known version
MarkIs file None = (tags n : ℕ) → read_mark file 0 tags n ≡ bad MARK 0
