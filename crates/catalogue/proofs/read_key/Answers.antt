-- `read_key` meets its contract. Assumes nothing.
use Rattle.std.proofs.lemmas.Result.{err_from_is_err_and}
use Rattle.cpl.specs.Plan.{keyed_tables}
use Rattle.cpl.specs.Read.{is_not}
use Rattle.reader_parts.proofs.Counts.{from_some}
use Rattle.catalogue.proofs.Keys.{key-bad, key-columns-bad, key-count-bad, key_right}
use Rattle.versions.specs.Versions.{version_of}
use mathlib.Core.Path.{◌∙◌, sym}
use native.Mathlib.Omega.{arith}
use Rattle.catalogue.proofs.read_key.Goals as goal

pub read_columns-requires : goal.read_columns-requires
read_columns-requires c =
    let e = rw c.in_ok-table.was at (c.read_fresh.ensures.by_index (keyed_tables c.requires.widths.1) c.requires.widths.3) in
    omega (arith, c.requires.tables_bound, c.requires.by_index c.in_ok-table.table.value e.1)

pub returns-in_err-table : goal.returns-in_err-table
returns-in_err-table c =
    let p = err_from_is_err_and c.from_residual.result c.from_residual.ensures.1 in
    λ C before wide st. rw (p.1, p.2) (key-bad (version_of c.args.version) C.tables before _ _ wide.count (rw c.in_err-table.was at (c.read_fresh.ensures.by_index (keyed_tables before) st)))

pub returns-in_err-count : goal.returns-in_err-count
returns-in_err-count c =
    let p = err_from_is_err_and c.from_residual-in_err-count.result c.from_residual-in_err-count.ensures.1 in
    λ C before wide st. let e = rw c.in_ok-table.was at (c.read_fresh.ensures.by_index (keyed_tables before) st) in
    rw (p.1, p.2) (key-count-bad (version_of c.args.version) C.tables before _ _ wide.count e.0 (rw c.in_err-count.was at (c.read_count.ensures (is_not 0) from_some)))

pub returns-in_err-next : goal.returns-in_err-next
returns-in_err-next c =
    let p = err_from_is_err_and c.from_residual-in_err-next.result c.from_residual-in_err-next.ensures.1 in
    λ C before wide st. let e = rw c.in_ok-table.was at (c.read_fresh.ensures.by_index (keyed_tables before) st) in
    let f = rw c.in_ok-count.was at (c.read_count.ensures (is_not 0) from_some) in
    rw (p.1, p.2) (key-columns-bad (version_of c.args.version) C.tables before _ _ wide.count e.0 f.0 (wide.columns _ e.1 ∙ sym c.from-columns.ensures) (rw c.in_err-next.was at c.read_columns.ensures))

pub returns : goal.returns
returns c =
    λ C before wide st. let e = rw c.in_ok-table.was at (c.read_fresh.ensures.by_index (keyed_tables before) st) in
    let f = rw c.in_ok-count.was at (c.read_count.ensures (is_not 0) from_some) in
    let l = rw c.in_ok-next.was at c.read_columns.ensures in
    key_right (version_of c.args.version) C.tables before _ _ wide.count e.0 f.0 (wide.columns _ e.1 ∙ sym c.from-columns.ensures) e.1 (sym (st _) ∙ rw c.in_ok-table.was at c.read_fresh.ensures.fresh_in) l.2 l.1
