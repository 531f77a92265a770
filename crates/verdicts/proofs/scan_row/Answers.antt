-- `verdicts::scan_row` meets its contract. Assumes nothing.
use Rattle.verdicts.proofs.References.{columns-all, columns-given}
use Rattle.verdicts.proofs.Rowed.{row_new, rowed_is}
use Rattle.cpl.specs.Fields.{scan_field}
use Rattle.parts.specs.Catalogue.{table_at}
use Rattle.tree.specs.Rows.{columns_at}
use mathlib.Core.List.{map}
use mathlib.Core.Path.{ap}
use native.Mathlib.Omega.{arith}
use Rattle.verdicts.proofs.scan_row.Goals as goal

pub scan_given-requires : goal.scan_given-requires
scan_given-requires c = record { table_in = c.requires.scan_inside.table; row_in = (omega (arith, c.requires.row_in, c.requires.scan_inside.few c.if-s.true), c.requires.scan_inside.columns c.if-s.true) }

pub returns-then-s : goal.returns-then-s
returns-then-s c =
    rowed_is (row_new c.put_row.ensures (c.requires.scan_inside.few c.if-s.true) c.scan_given.ensures) (ap (map (scan_field (table_at c.args.names.now c.args.s.table) c.args.s.qualifier)) (columns-given (table_at c.args.names.now c.args.s.table) _ c.if-s.true))

pub returns : goal.returns
returns c =
    rowed_is (row_new (rw c.columns-width.ensures at c.put_row-2.ensures) c.requires.scan_inside.all_few c.scan_all.ensures) (ap (map (scan_field (table_at c.args.names.now c.args.s.table) c.args.s.qualifier)) (columns-all (table_at c.args.names.now c.args.s.table) (columns_at c.args.rows.now c.args.s.first c.args.s.n) c.if-s.false))
