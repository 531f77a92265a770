-- `read_rest` meets its contract. Assumes nothing.
use native.Mathlib.Omega.{arith}
use Rattle.std.proofs.lemmas.Result.{err_from_is_err_and}
use Rattle.cpl.specs.Read.{any}
use Rattle.reader_parts.proofs.Counts.{from-any}
use Rattle.reader_parts.proofs.Wins.{rest-bad, rest-keys-bad, rest_call_bad, rest-took}
use Rattle.reader_parts.proofs.read_rest.Goals as goal

pub returns-in_err-count : goal.returns-in_err-count
returns-in_err-count c =
    let p = err_from_is_err_and c.from_residual.result c.from_residual.ensures.1 in
    rw (p.1, p.2) (rest-bad _ _ _ _ (c.in_err-count.ensures any from-any))

pub read_parts-requires : goal.read_parts-requires
read_parts-requires c =
    let e = c.in_ok-count.ensures any from-any in
    omega (arith, e.1, c.requires)

pub returns-in_err-t : goal.returns-in_err-t
returns-in_err-t c =
    let p = err_from_is_err_and c.from_residual-in_err-t.result c.from_residual-in_err-t.ensures.1 in
    rw (p.1, p.2) (rest-keys-bad _ _ _ _ (c.in_ok-count.ensures any from-any).0 c.in_err-t.ensures)

pub read_call-requires : goal.read_call-requires
read_call-requires c =
    let g = c.in_ok-t.ensures 0 in
    omega (arith, g.made_is, g.grown, g.few, c.requires)

pub returns-in_err-u : goal.returns-in_err-u
returns-in_err-u c =
    let p = err_from_is_err_and c.from_residual-in_err-u.result c.from_residual-in_err-u.ensures.1 in
    λ n. rw (p.1, p.2) (rest_call_bad _ _ _ _ (c.in_ok-count.ensures any from-any).0 n (c.in_ok-t.ensures n).is (c.in_err-u.ensures n))

pub root-e-requires : goal.root-e-requires
root-e-requires c =
    let h = c.in_ok-u.ensures 0 in
    omega (arith, h.made_is)

pub put_row-requires : goal.put_row-requires
put_row-requires c =
    let e = c.in_ok-count.ensures any from-any in
    let g = c.in_ok-t.ensures 0 in
    let h = c.in_ok-u.ensures 0 in
    omega (arith, g.made_is, g.grown, g.few, h.made_is, h.grown, h.few, e.1, c.root-e.ensures.2, c.requires, c.read_parts.auto.rows)

pub returns : goal.returns
returns c =
    λ n. rest-took _ _ _ (c.in_ok-count.ensures any from-any).0 _ _ _ _ _ _ _ _ n (c.in_ok-t.ensures n) (c.in_ok-u.ensures n) _ c.root-e.ensures.0 c.root-e.ensures.1 c.put_row.ensures
