-- The loop of `read_columns`: some columns were read, the others are left. Assumes nothing.
use Rattle.std.proofs.Common.{◌-◌}
use Rattle.catalogue.proofs.Keys.{ColumnsLeft}
use Rattle.catalogue.proofs.read_columns.Given as goal

abbrev pub invariant-loop : goal.invariant-loop
invariant-loop l = ColumnsLeft l.k l.columns l.file l.n l.at l.table l.keys (l.n - l.counter) l.next l.taken
