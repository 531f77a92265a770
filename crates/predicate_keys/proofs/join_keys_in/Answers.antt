-- `predicate_keys::join_keys_in` meets its contract. Assumes nothing.
use Rattle.predicate_keys.proofs.Ways.{keys_promised}
use Rattle.predicate_reader.proofs.Reading.{are_bytes}
use native.Mathlib.Omega.{arith}
use Rattle.predicate_keys.proofs.join_keys_in.Goals as goal

pub returns-clause-keys_promise : goal.returns-clause-keys_promise
returns-clause-keys_promise c =
    rw c.from.ensures (keys_promised _ _ (are_bytes _ (λ i. omega (arith, c.type_inv.predicate i))) c.written_keys.ensures)
