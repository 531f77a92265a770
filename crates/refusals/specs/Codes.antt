-- The codes of document 01's "Numbers returned", by their names there; 17 and 18 are document 02's.
use Rattle.std.specs.Prelude.{ℕ}
use Rattle.refusals.specs.declared.Reason.{Reason}
use Rattle.refusals.specs.declared.Reason.TheVariants as reason

-- the code of a reason
abbrev pub code_of : Reason → ℕ
code_of reason.Setting = 1
code_of reason.Mark = 2
code_of reason.Cut = 3
code_of reason.Value = 4
code_of reason.Many = 5
code_of reason.Tail = 6
code_of reason.Clash = 7
code_of reason.Unknown = 8
code_of reason.Width = 9
code_of reason.Fields = 10
code_of reason.Request = 11
code_of reason.Large = 12
code_of reason.Room = 13
code_of reason.Ambiguous = 17
code_of reason.Pairs = 18
