-- `predicate_keys::without_keys_in` meets its contract. Assumes nothing.
use Rattle.predicate_keys.proofs.Ways.{left_promised}
use Rattle.predicate_reader.proofs.Reading.{are_bytes}
use native.Mathlib.Omega.{arith}
use Rattle.predicate_keys.proofs.without_keys_in.Goals as goal

pub returns-clause-left_promise : goal.returns-clause-left_promise
returns-clause-left_promise c =
    rw c.from.ensures (left_promised _ _ _ (are_bytes _ (λ i. omega (arith, c.type_inv.predicate i))) (are_bytes _ (λ i. omega (arith, c.type_inv.keys i))) c.written_left.ensures)
