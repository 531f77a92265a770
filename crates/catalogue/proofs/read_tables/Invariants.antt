-- The loop of `read_tables`: some tables were read, the others are left. Assumes nothing.
use Rattle.std.proofs.Common.{◌+◌, ◌-◌}
use Rattle.versions.specs.Versions.{version_of}
use Rattle.catalogue.proofs.Names.{TablesLeft}
use Rattle.catalogue.proofs.read_tables.Given as goal

abbrev pub invariant-loop-i : goal.invariant-loop-i
invariant-loop-i l = TablesLeft (version_of l.version) l.file l.n l.t l.at l.fn.names (l.n - l.i) (l.t + l.i) l.next l.names
