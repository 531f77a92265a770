-- The loop of `read_names`: some names were read, the others are left. Assumes nothing.
use Rattle.std.proofs.Common.{◌+◌, ◌-◌}
use Rattle.catalogue.proofs.Names.{NamesLeft}
use Rattle.catalogue.proofs.read_names.Given as goal

abbrev pub invariant-loop-i : goal.invariant-loop-i
invariant-loop-i l = NamesLeft l.file l.n l.slot l.at l.fn.names (l.n - l.i) (l.slot + l.i) l.next l.names
