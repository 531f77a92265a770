-- `read_scan` meets its contract. Assumes nothing.
use Rattle.std.proofs.lemmas.Result.{err_from_is_err_and}
use mathlib.Core.Path.{◌∙◌, sym}
use Rattle.reader_heads.proofs.Heads.{head_moved, scan-bad, scan-bad-name, scan-on}
use Rattle.versions.specs.Versions.{version_of}
use Rattle.reader_heads.proofs.read_scan.Goals as goal

pub returns-in_err-table : goal.returns-in_err-table
returns-in_err-table c =
    let p = err_from_is_err_and c.from_residual.result c.from_residual.ensures.1 in
    λ C wide place n. let e = rw c.in_err-table.was at c.read_below.ensures in
    rw (p.1, p.2) (scan-bad _ _ _ _ _ n (rw (← wide.count) at (e.0 c.args.s.tags n)))

pub returns-in_err-name : goal.returns-in_err-name
returns-in_err-name c =
    let p = err_from_is_err_and c.from_residual-in_err-name.result c.from_residual-in_err-name.ensures.1 in
    λ C wide place n. let e = rw c.in_ok-table.was at c.read_below.ensures in
    rw (p.1, p.2) (scan-bad-name _ _ _ _ _ n (rw (← wide.count) at (e.0.0 c.args.s.tags n)) (rw c.in_err-name.was at c.read_name.ensures _ n))

pub returns : goal.returns
returns c =
    λ C wide place n. let e = rw c.in_ok-table.was at c.read_below.ensures in
    let f = rw c.in_ok-name.was at c.read_name.ensures in
    head_moved (version_of c.args.version) 11 c.args.s _ _ _ _ _ n c.read_over.result (scan-on _ _ _ _ _ n (rw (← wide.count) at (e.0.0 c.args.s.tags n)) (f.0 _ n) (wide.columns _ e.0.1 ∙ sym c.from-columns.ensures)) (c.read_over.ensures n)
