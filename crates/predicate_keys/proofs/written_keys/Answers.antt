-- `predicate_keys::written_keys` meets its contract. Assumes nothing.
use Rattle.std.proofs.lemmas.Result.{err_from_is_err_and}
use Rattle.predicate_keys.proofs.Ways.{extracted, few-keys, keys_countable, many_extracted, room_for_keys, root-wf, some-node, unread}
use mathlib.Core.Path.{refl}
use native.Mathlib.Omega.{arith}
use Rattle.predicate_keys.proofs.written_keys.Goals as goal

pub returns-in_err-read : goal.returns-in_err-read
returns-in_err-read c =
    let p = err_from_is_err_and c.from_residual.result c.from_residual.ensures.1 in
    rw (p.1, p.2) (unread _ _ c.in_err-read.ensures (refl, refl, refl))

pub overflow_sub-read : goal.overflow_sub-read
overflow_sub-read c =
    omega (arith, some-node c.in_ok-read.ensures)

pub extract_possible_join_keys-requires-clause-wf : goal.extract_possible_join_keys-requires-clause-wf
extract_possible_join_keys-requires-clause-wf c =
    root-wf c.in_ok-read.ensures

pub extract_possible_join_keys-requires-clause-node_in_bounds : goal.extract_possible_join_keys-requires-clause-node_in_bounds
extract_possible_join_keys-requires-clause-node_in_bounds c =
    omega (arith, c.new-none.ensures, room_for_keys c.in_ok-read.ensures)

pub returns-in_err-keys : goal.returns-in_err-keys
returns-in_err-keys c =
    let p = err_from_is_err_and c.from_residual-in_err-keys.result c.from_residual-in_err-keys.ensures.1 in
    rw p.1 (many_extracted c.in_ok-read.ensures _ _ (rw (c.new-none.ensures.0, c.new-none.ensures.1) at c.in_err-keys.ensures) (p.2.0, refl, p.2.1))

pub write_keys-requires-clause-n_bound : goal.write_keys-requires-clause-n_bound
write_keys-requires-clause-n_bound c =
    (few-keys c.in_ok-read.ensures _ (rw (c.new-none.ensures.0, c.new-none.ensures.1) at c.in_ok-keys.ensures), omega arith, omega arith)

pub write_keys-requires-clause-countable : goal.write_keys-requires-clause-countable
write_keys-requires-clause-countable c =
    keys_countable c.in_ok-read.ensures _ (rw (c.new-none.ensures.0, c.new-none.ensures.1) at c.in_ok-keys.ensures)

pub returns : goal.returns
returns c =
    extracted c.in_ok-read.ensures _ (rw (c.new-none.ensures.0, c.new-none.ensures.1) at c.in_ok-keys.ensures) _ c.write_keys.ensures
