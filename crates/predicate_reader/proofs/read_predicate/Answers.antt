-- `predicate_reader::read_predicate` meets its contract. Assumes nothing.
use Rattle.std.proofs.lemmas.Result.{err_from_is_err_and}
use Rattle.predicate_reader.proofs.Reading.{are_bytes, predicate_bad, predicate_read}
use native.Mathlib.Omega.{arith}
use Rattle.predicate_reader.proofs.read_predicate.Goals as goal

pub returns-in_err-e : goal.returns-in_err-e
returns-in_err-e c =
    let p = err_from_is_err_and c.from_residual.result c.from_residual.ensures.1 in
    rw (p.1, p.2) (predicate_bad _ c.in_err-e.ensures)

pub returns : goal.returns
returns c =
    rw c.all_of.ensures (predicate_read _ _ _ (are_bytes _ (λ i. omega (arith, c.type_inv.bytes i))) c.requires c.in_ok-e.e c.in_ok-e.ensures)
