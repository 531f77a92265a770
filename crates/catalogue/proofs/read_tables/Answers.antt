-- `read_tables` meets its contract. Assumes nothing.
use native.Mathlib.Omega.{arith}
use Rattle.std.proofs.lemmas.Result.{err_from_is_err_and}
use Rattle.catalogue.proofs.Names.{all_tables, one_table, table_refused, no_table}
use Rattle.versions.specs.Versions.{version_of}
use Rattle.catalogue.proofs.read_tables.Goals as goal

pub loop-i-init : goal.loop-i-init
loop-i-init c = all_tables (version_of c.args.version) _ _ _ _ _ (omega arith) (omega arith)

pub read_table-requires : goal.read_table-requires
read_table-requires c = omega (arith, c.loop-i.invariant.long, c.requires)

pub returns-in_err-next : goal.returns-in_err-next
returns-in_err-next c =
    let p = err_from_is_err_and c.from_residual.result c.from_residual.ensures.1 in
    rw (p.1, p.2) (table_refused c.loop-i.invariant (omega arith) c.read_table.new.names _ c.in_err-next.ensures)

pub loop-i-preserved : goal.loop-i-preserved
loop-i-preserved c =
    one_table c.loop-i.invariant (omega arith) c.requires.2 _ c.read_table.auto.names c.in_ok-next.ensures (omega arith) (omega arith)

pub returns : goal.returns
returns c = no_table c.loop-i.invariant (omega arith)
