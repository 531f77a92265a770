-- `predicate_keys::written_left` meets its contract. Assumes nothing.
use Rattle.std.proofs.lemmas.Result.{err_from_is_err_and}
use Rattle.predicate_keys.proofs.Ways.{keys_unread, left_unread, ready, removed, some-node}
use mathlib.Core.Path.{refl}
use native.Mathlib.Omega.{arith}
use Rattle.predicate_keys.proofs.written_left.Goals as goal

pub returns-in_err-read : goal.returns-in_err-read
returns-in_err-read c =
    let p = err_from_is_err_and c.from_residual.result c.from_residual.ensures.1 in
    rw (p.1, p.2) (left_unread _ _ _ c.in_err-read.ensures (refl, refl, refl))

pub returns-in_err-given : goal.returns-in_err-given
returns-in_err-given c =
    let p = err_from_is_err_and c.from_residual-in_err-given.result c.from_residual-in_err-given.ensures.1 in
    rw (p.1, p.2) (keys_unread _ _ _ c.in_ok-read.ensures.reads c.in_err-given.ensures (refl, refl, refl))

pub overflow_sub-read : goal.overflow_sub-read
overflow_sub-read c =
    omega (arith, some-node c.in_ok-read.ensures)

pub remove_given-requires : goal.remove_given-requires
remove_given-requires c =
    ready c.in_ok-read.ensures c.in_ok-given.ensures (omega arith)

pub returns : goal.returns
returns c =
    removed c.in_ok-read.ensures c.in_ok-given.ensures _ c.remove_given.ensures
