-- `read_marked` meets its contract. Assumes nothing.
use Rattle.std.proofs.lemmas.Result.{err_from_is_err_and}
use Rattle.cpl.specs.Read.{any}
use Rattle.reader_parts.proofs.Counts.{from-any}
use Rattle.reader.proofs.Files.{file_count, file_keys, file_right, file_tables}
use Rattle.catalogue.proofs.Names.{catalogue_at, few-columns, widths}
use Rattle.versions.proofs.Small.{small}
use Rattle.versions.specs.Versions.{version_of}
use mathlib.Core.List.{[]}
use mathlib.Core.Path.{refl}
use native.Mathlib.Omega.{arith}
use Rattle.reader.proofs.read_marked.Goals as goal

pub read_tables-requires : goal.read_tables-requires
read_tables-requires c =
    let e = rw c.in_ok-count.was at (c.read_count.ensures any from-any) in
    omega (arith, e.1, c.requires.in_bounds, (small c.requires.known).wide-small, (small c.requires.known).columns-small)

pub read_all_keys-requires : goal.read_all_keys-requires
read_all_keys-requires c =
    let e = rw c.in_ok-count.was at (c.read_count.ensures any from-any) in
    let t = rw c.in_ok-next.was at c.read_tables.ensures in record { tables_bound = omega (arith, e.1, c.requires.in_bounds, c.read_tables.auto.names, (small c.requires.known).wide-small, (small c.requires.known).late-small); by_index = few-columns (version_of c.args.version) (small c.requires.known).columns-small _ _ _ _ t.0; widths = (catalogue_at (version_of c.args.version) _ _ [], widths (version_of c.args.version) _ _ []) }

pub read_body-requires : goal.read_body-requires
read_body-requires c =
    let e = rw c.in_ok-count.was at (c.read_count.ensures any from-any) in record { in_bounds = (omega (arith, c.requires.in_bounds), omega (arith, c.requires.in_bounds), omega (arith, c.requires.in_bounds), omega (arith, e.1, c.requires.in_bounds, c.read_tables.auto.names), omega (arith, e.1), (catalogue_at (version_of c.args.version) _ _ [], refl, widths (version_of c.args.version) _ _ [])); known = c.requires.known }

pub returns-in_err-count : goal.returns-in_err-count
returns-in_err-count c =
    let p = err_from_is_err_and c.from_residual.result c.from_residual.ensures.1 in
    λ mark. rw (p.1, p.2) (file_count _ c.args.version mark (rw c.in_err-count.was at (c.read_count.ensures any from-any)))

pub returns-in_err-next : goal.returns-in_err-next
returns-in_err-next c =
    let p = err_from_is_err_and c.from_residual-in_err-next.result c.from_residual-in_err-next.ensures.1 in
    λ mark. let e = rw c.in_ok-count.was at (c.read_count.ensures any from-any) in
    rw (p.1, p.2) (file_tables _ c.args.version mark e.0 (rw c.in_err-next.was at c.read_tables.ensures))

pub returns-in_err-start : goal.returns-in_err-start
returns-in_err-start c =
    let p = err_from_is_err_and c.from_residual-in_err-start.result c.from_residual-in_err-start.ensures.1 in
    λ mark. let e = rw c.in_ok-count.was at (c.read_count.ensures any from-any) in
    let t = rw c.in_ok-next.was at c.read_tables.ensures in
    rw (p.1, p.2) (file_keys _ c.args.version mark e.0 _ _ t.0 (rw c.in_err-start.was at (c.read_all_keys.ensures (catalogue_at (version_of c.args.version) _ _ []) (widths (version_of c.args.version) _ _ []))))

pub returns : goal.returns
returns c =
    λ mark. let e = rw c.in_ok-count.was at (c.read_count.ensures any from-any) in
    let t = rw c.in_ok-next.was at c.read_tables.ensures in
    let k = rw c.in_ok-start.was at (c.read_all_keys.ensures (catalogue_at (version_of c.args.version) _ _ []) (widths (version_of c.args.version) _ _ [])) in
    file_right _ c.args.version mark e.0 _ _ t.0 k.0 _ k.1 e.1 _ k.2 _ _ _ _ _ _ c.read_body.result (c.read_body.ensures (catalogue_at (version_of c.args.version) _ _ k.0) refl (widths (version_of c.args.version) _ _ k.0))
