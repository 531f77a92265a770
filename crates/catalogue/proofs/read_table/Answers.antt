-- `read_table` meets its contract. Assumes nothing.
use native.Mathlib.Omega.{arith}
use lib.ListN.{length-set}
use Rattle.std.proofs.lemmas.Result.{err_from_is_err_and}
use Rattle.cpl.specs.Read.{any, nonzero}
use Rattle.reader_parts.proofs.Counts.{from-any}
use Rattle.reader_parts.proofs.Parts.{list-bad}
use Rattle.versions.specs.Versions.{version_of}
use Rattle.catalogue.proofs.Names.{table-right}
use Rattle.catalogue.proofs.read_table.Goals as goal

pub overflow_cast-names : goal.overflow_cast-names
overflow_cast-names c =
    let e = rw c.in_ok-count.was at (c.read_count.ensures any from-any) in
    omega (arith, e.1)

pub read_names-requires : goal.read_names-requires
read_names-requires c =
    let e = rw c.in_ok-count.was at (c.read_count.ensures any from-any) in
    simp length-set (omega (arith, e.1, c.requires))

pub returns-in_err-count : goal.returns-in_err-count
returns-in_err-count c =
    let p = err_from_is_err_and c.from_residual.result c.from_residual.ensures.1 in
    rw (p.1, p.2) (λ tags n. list-bad c.args.version.wide any c.args.version.columns (nonzero 2) _ _ tags (rw c.in_err-count.was at (c.read_count.ensures any from-any)) n)

pub returns : goal.returns
returns c =
    let e = rw c.in_ok-count.was at (c.read_count.ensures any from-any) in
    table-right (version_of c.args.version) _ _ _ _ e.0 (omega (arith, c.requires)) _ c.read_names.result c.read_names.ensures
