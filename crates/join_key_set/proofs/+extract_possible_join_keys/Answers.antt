-- The proof of the cycle of calls {extract_possible_join_keys}. The measure is the node's number. Each way is a law of `Extract`. Assumes nothing.
use Rattle.std.proofs.lemmas.Result.{err_from_is_err_and}
use Rattle.join_key_set.proofs.Extract.{ask-and, ask-and-right, ask_eq, ask-left, ask-right, none-and, none_left, none_right, ret_and, ret_eq, ret_leaf, ret_or, ret_other}
use Rattle.join_keys.specs.Extract.{extract_possible_join_keys}
use mathlib.Core.Logic.{inl, inr}
use mathlib.Core.Path.{refl}
use Rattle.join_key_set.proofs.+extract_possible_join_keys.Goals as goal

pub insert-requires : goal.insert-requires
insert-requires t c = let w = ask_eq _ _ _ c.args.keys _ _ _ _ ((c.decreases, (c.requires.wf, (c.requires.keys_ok, c.requires.node_in_bounds)))) (rw c.in-Two.is at c.node_at.ensures) c.if-t-eq-EQ.true in record { keys_ok = w.0; wf = w.1.0; size_in_bounds = w.1.1 }

pub returns-then-t-eq-EQ : goal.returns-then-t-eq-EQ
returns-then-t-eq-EQ t c =
    ret_eq _ _ _ c.args.keys _ _ _ _ ((c.decreases, (c.requires.wf, (c.requires.keys_ok, c.requires.node_in_bounds)))) (rw c.in-Two.is at c.node_at.ensures) c.if-t-eq-EQ.true c.insert.result c.insert.new.pairs c.insert.ensures.fills

pub extract_possible_join_keys-requires : goal.extract_possible_join_keys-requires
extract_possible_join_keys-requires t c =
    ask-and _ _ _ c.args.keys _ _ _ _ ((c.decreases, (c.requires.wf, (c.requires.keys_ok, c.requires.node_in_bounds)))) (rw c.in-Two.is at c.node_at.ensures) c.if-t-eq-AND.true

pub returns-in_err-more-in-Two : goal.returns-in_err-more-in-Two
returns-in_err-more-in-Two t c =
    let p = err_from_is_err_and c.from_residual.result c.from_residual.ensures.1 in
    rw p.1 (none-and _ _ _ c.args.keys _ _ _ _ ((c.decreases, (c.requires.wf, (c.requires.keys_ok, c.requires.node_in_bounds)))) (rw c.in-Two.is at c.node_at.ensures) c.if-t-eq-AND.true (rw c.in_err-more-in-Two.was at c.extract_possible_join_keys.ensures))

pub extract_possible_join_keys-requires-then-t-eq-AND : goal.extract_possible_join_keys-requires-then-t-eq-AND
extract_possible_join_keys-requires-then-t-eq-AND t c =
    ask-and-right _ _ _ c.args.keys _ _ _ _ ((c.decreases, (c.requires.wf, (c.requires.keys_ok, c.requires.node_in_bounds)))) (rw c.in-Two.is at c.node_at.ensures) c.if-t-eq-AND.true _ _ (rw c.in_ok-more-in-Two.was at c.extract_possible_join_keys.ensures)

pub returns-then-t-eq-AND : goal.returns-then-t-eq-AND
returns-then-t-eq-AND t c =
    ret_and _ _ _ c.args.keys _ _ _ _ ((c.decreases, (c.requires.wf, (c.requires.keys_ok, c.requires.node_in_bounds)))) (rw c.in-Two.is at c.node_at.ensures) c.if-t-eq-AND.true _ _ (rw c.in_ok-more-in-Two.was at c.extract_possible_join_keys.ensures) c.extract_possible_join_keys-then-t-eq-AND.result c.extract_possible_join_keys-then-t-eq-AND.new.pairs c.extract_possible_join_keys-then-t-eq-AND.ensures

pub extract_possible_join_keys-requires-then-t-eq-OR : goal.extract_possible_join_keys-requires-then-t-eq-OR
extract_possible_join_keys-requires-then-t-eq-OR t c =
    ask-left _ _ _ c.args.keys _ _ _ _ ((c.decreases, (c.requires.wf, (c.requires.keys_ok, c.requires.node_in_bounds)))) (rw c.in-Two.is at c.node_at.ensures) c.if-t-eq-OR.true c.new-behind.result c.new-behind.ensures

pub returns-in_err-left_join_keys-in-Two : goal.returns-in_err-left_join_keys-in-Two
returns-in_err-left_join_keys-in-Two t c =
    let p = err_from_is_err_and c.from_residual-in_err-left_join_keys-in-Two.result c.from_residual-in_err-left_join_keys-in-Two.ensures.1 in
    rw p.1 (none_left _ _ _ c.args.keys _ _ _ _ ((c.decreases, (c.requires.wf, (c.requires.keys_ok, c.requires.node_in_bounds)))) (rw c.in-Two.is at c.node_at.ensures) c.if-t-eq-OR.true c.new-behind.result c.new-behind.ensures (rw c.in_err-left_join_keys-in-Two.was at c.extract_possible_join_keys-then-t-eq-OR.ensures))

pub extract_possible_join_keys-requires-then-t-eq-OR-2 : goal.extract_possible_join_keys-requires-then-t-eq-OR-2
extract_possible_join_keys-requires-then-t-eq-OR-2 t c =
    ask-right _ _ _ c.args.keys _ _ _ _ ((c.decreases, (c.requires.wf, (c.requires.keys_ok, c.requires.node_in_bounds)))) (rw c.in-Two.is at c.node_at.ensures) c.if-t-eq-OR.true c.new-behind.result c.new-behind.ensures _ _ (rw c.in_ok-left_join_keys-in-Two.was at c.extract_possible_join_keys-then-t-eq-OR.ensures) c.new-behind-then-t-eq-OR.result c.new-behind-then-t-eq-OR.ensures

pub returns-in_err-right_join_keys-in-Two : goal.returns-in_err-right_join_keys-in-Two
returns-in_err-right_join_keys-in-Two t c =
    let p = err_from_is_err_and c.from_residual-in_err-right_join_keys-in-Two.result c.from_residual-in_err-right_join_keys-in-Two.ensures.1 in
    rw p.1 (none_right _ _ _ c.args.keys _ _ _ _ ((c.decreases, (c.requires.wf, (c.requires.keys_ok, c.requires.node_in_bounds)))) (rw c.in-Two.is at c.node_at.ensures) c.if-t-eq-OR.true c.new-behind.result c.new-behind.ensures _ _ (rw c.in_ok-left_join_keys-in-Two.was at c.extract_possible_join_keys-then-t-eq-OR.ensures) c.new-behind-then-t-eq-OR.result c.new-behind-then-t-eq-OR.ensures (rw c.in_err-right_join_keys-in-Two.was at c.extract_possible_join_keys-then-t-eq-OR-2.ensures))

pub returns-then-t-eq-OR : goal.returns-then-t-eq-OR
returns-then-t-eq-OR t c =
    ret_or _ _ _ c.args.keys _ _ _ _ ((c.decreases, (c.requires.wf, (c.requires.keys_ok, c.requires.node_in_bounds)))) (rw c.in-Two.is at c.node_at.ensures) c.if-t-eq-OR.true c.new-behind.result c.new-behind.ensures _ _ (rw c.in_ok-left_join_keys-in-Two.was at c.extract_possible_join_keys-then-t-eq-OR.ensures) c.new-behind-then-t-eq-OR.result c.new-behind-then-t-eq-OR.ensures _ _ (rw c.in_ok-right_join_keys-in-Two.was at c.extract_possible_join_keys-then-t-eq-OR-2.ensures) c.insert_intersection.result c.insert_intersection.new.pairs c.insert_intersection.ensures

pub returns-else-t-eq-OR : goal.returns-else-t-eq-OR
returns-else-t-eq-OR t c =
    ret_other _ _ _ c.args.keys _ _ _ _ ((c.decreases, (c.requires.wf, (c.requires.keys_ok, c.requires.node_in_bounds)))) (rw c.in-Two.is at c.node_at.ensures) c.if-t-eq-EQ.false c.if-t-eq-AND.false c.if-t-eq-OR.false

pub returns-in-Col : goal.returns-in-Col
unfolding extract_possible_join_keys
returns-in-Col t c = elim c.in-Col.is [
  | inl p ↦ ret_leaf _ _ c.args.keys _ _ c.requires.keys_ok (rw p.2 at c.node_at.ensures) refl
  | inr p ↦ elim p [
    | inl q ↦ ret_leaf _ _ c.args.keys _ _ c.requires.keys_ok (rw q.1 at c.node_at.ensures) refl
    | inr q ↦ elim q [
      | inl e ↦ ret_leaf _ _ c.args.keys _ _ c.requires.keys_ok (rw e at c.node_at.ensures) refl
      | inr o ↦ ret_leaf _ _ c.args.keys _ _ c.requires.keys_ok (rw o.2 at c.node_at.ensures).means refl
    ]
  ]
]
