-- `predicate_keys::remove_given` meets its contract. Assumes nothing.
use Rattle.std.proofs.lemmas.Result.{err_from_is_err_and}
use Rattle.join_key_set.proofs.Laws.{in_ok}
use Rattle.predicate_keys.proofs.Ways.{left-ok, left_out, many_given, none_in, room_for_left}
use mathlib.Core.Path.{refl}
use Rattle.predicate_keys.proofs.remove_given.Goals as goal

pub insert_all-requires-clause-keys_ok_2 : goal.insert_all-requires-clause-keys_ok_2
insert_all-requires-clause-keys_ok_2 c =
    in_ok c.requires.wf c.requires.keys

pub returns-in_err-set : goal.returns-in_err-set
returns-in_err-set c =
    let p = err_from_is_err_and c.from_residual.result c.from_residual.ensures.1 in
    rw p.1 (many_given c.requires _ (rw (c.new.ensures.0, c.new.ensures.1) at c.in_err-set.ensures.fills) (p.2.0, refl, p.2.1))

pub remove_join_expressions-left-requires-clause-keys_in : goal.remove_join_expressions-left-requires-clause-keys_in
remove_join_expressions-left-requires-clause-keys_in c =
    c.in_ok-set.ensures.by_index c.args.used (rw (c.new.ensures.0, c.new.ensures.1) (none_in _ _)) c.requires.keys

pub remove_join_expressions-left-requires-clause-node_in_bounds : goal.remove_join_expressions-left-requires-clause-node_in_bounds
remove_join_expressions-left-requires-clause-node_in_bounds c =
    room_for_left c.requires

pub write_left-requires : goal.write_left-requires
write_left-requires c =
    left-ok c.requires (rw (c.new.ensures.0, c.new.ensures.1) at c.in_ok-set.ensures.fills) c.remove_join_expressions-left.result.node _ _ _ c.remove_join_expressions-left.ensures

pub returns : goal.returns
returns c =
    left_out c.requires (rw (c.new.ensures.0, c.new.ensures.1) at c.in_ok-set.ensures.fills) _ c.remove_join_expressions-left.result.node _ _ _ c.remove_join_expressions-left.ensures c.write_left.ensures
