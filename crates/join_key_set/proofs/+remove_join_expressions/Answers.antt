-- The proof of the cycle of calls {remove_join_expressions}. The measure is the node's number. Each way is a law of `Remove`. Assumes nothing.
use Rattle.join_key_set.proofs.Remove.{and_right, ask-contains, ask-first, ask-node, ask-second, first_is, gone_eq, or_gone, put_both, put_fits, ret_stay, stay_eq, stay_other}
use Rattle.join_keys.specs.Remove.{remove_join_expressions}
use mathlib.Core.Logic.{inl, inr}
use mathlib.Core.Path.{refl}
use Rattle.join_key_set.proofs.+remove_join_expressions.Goals.{else-t-eq-EQ-via-then-t-eq-EQ+else-contains, else-t-eq-EQ-via-else-t-eq-EQ}
use Rattle.join_key_set.proofs.+remove_join_expressions.Goals as goal

pub node_at-requires : goal.node_at-requires
node_at-requires t c =
    ask-node _ _ _ _ c.args.keys (c.requires.wf, (c.requires.keys_in, c.requires.node_in_bounds))

pub contains-requires : goal.contains-requires
contains-requires t c = let w = ask-contains _ _ _ _ _ c.args.keys _ _ _ ((c.decreases, (c.requires.wf, (c.requires.keys_in, c.requires.node_in_bounds)))) (rw c.in-Two.is at c.node_at.ensures) in record { keys_ok = w.0; wf = w.1 }

pub returns-then-contains : goal.returns-then-contains
returns-then-contains t c =
    gone_eq _ _ _ _ _ c.args.keys _ _ _ ((c.decreases, (c.requires.wf, (c.requires.keys_in, c.requires.node_in_bounds)))) (rw c.in-Two.is at c.node_at.ensures) c.if-t-eq-EQ.true c.contains.ensures c.if-contains.true

pub returns-then-t-lt-AND : goal.returns-then-t-lt-AND
returns-then-t-lt-AND t c =
    elim c.else-t-eq-EQ.branch [
      | else-t-eq-EQ-via-then-t-eq-EQ+else-contains w ↦ stay_eq _ _ _ _ _ c.args.keys _ _ _ ((c.decreases, (c.requires.wf, (c.requires.keys_in, c.requires.node_in_bounds)))) (rw c.in-Two.is at c.node_at.ensures) w.if-t-eq-EQ.true w.contains.ensures w.if-contains.false
      | else-t-eq-EQ-via-else-t-eq-EQ w ↦ stay_other _ _ _ _ _ c.args.keys _ _ _ ((c.decreases, (c.requires.wf, (c.requires.keys_in, c.requires.node_in_bounds)))) (rw c.in-Two.is at c.node_at.ensures) c.if-t-lt-AND.true w.if-t-eq-EQ.false
    ]

pub remove_join_expressions-first-requires : goal.remove_join_expressions-first-requires
remove_join_expressions-first-requires t c =
    ask-first _ _ _ _ _ c.args.keys _ _ _ ((c.decreases, (c.requires.wf, (c.requires.keys_in, c.requires.node_in_bounds)))) (rw c.in-Two.is at c.node_at.ensures) c.if-t-lt-AND.false

pub returns-then-t-eq-OR : goal.returns-then-t-eq-OR
returns-then-t-eq-OR t c =
    rw c.in_default.is (or_gone _ _ _ _ _ c.args.keys _ _ _ ((c.decreases, (c.requires.wf, (c.requires.keys_in, c.requires.node_in_bounds)))) (rw c.in-Two.is at c.node_at.ensures) c.if-t-lt-AND.false (rw c.in_default.is at c.remove_join_expressions-first.ensures) c.if-t-eq-OR.true)

pub remove_join_expressions-requires : goal.remove_join_expressions-requires
remove_join_expressions-requires t c =
    ask-second _ _ _ _ _ c.args.keys _ _ _ ((c.decreases, (c.requires.wf, (c.requires.keys_in, c.requires.node_in_bounds)))) (rw c.in-Two.is at c.node_at.ensures) c.if-t-lt-AND.false (rw c.in_default.is at c.remove_join_expressions-first.ensures)

pub remove_join_expressions-second-requires : goal.remove_join_expressions-second-requires
remove_join_expressions-second-requires t c =
    ask-second _ _ _ _ _ c.args.keys _ _ _ ((c.decreases, (c.requires.wf, (c.requires.keys_in, c.requires.node_in_bounds)))) (rw c.in-Two.is at c.node_at.ensures) c.if-t-lt-AND.false (rw c.in-Some.is at c.remove_join_expressions-first.ensures).1

pub unwrap-both-requires : goal.unwrap-both-requires
unwrap-both-requires t c =
    put_fits _ _ _ _ _ c.args.keys _ _ _ ((c.decreases, (c.requires.wf, (c.requires.keys_in, c.requires.node_in_bounds)))) (rw c.in-Two.is at c.node_at.ensures) c.if-t-lt-AND.false (rw c.in-Some.is at c.remove_join_expressions-first.ensures) (rw c.in-Some-node.is at c.remove_join_expressions-second.ensures) c.push.result c.push.new.cells c.push.ensures

pub returns-in_default : goal.returns-in_default
returns-in_default t c =
    and_right _ _ _ _ _ c.args.keys _ _ _ ((c.decreases, (c.requires.wf, (c.requires.keys_in, c.requires.node_in_bounds)))) (rw c.in-Two.is at c.node_at.ensures) c.if-t-lt-AND.false (rw c.in_default.is at c.remove_join_expressions-first.ensures) c.if-t-eq-OR.false c.remove_join_expressions.result.node c.remove_join_expressions.result.used c.remove_join_expressions.new.cells c.remove_join_expressions.ensures

pub returns-in_default-node : goal.returns-in_default-node
returns-in_default-node t c =
    first_is _ _ _ _ _ c.args.keys _ _ _ ((c.decreases, (c.requires.wf, (c.requires.keys_in, c.requires.node_in_bounds)))) (rw c.in-Two.is at c.node_at.ensures) c.if-t-lt-AND.false (rw c.in-Some.is at c.remove_join_expressions-first.ensures) (rw c.in_default-node.is at c.remove_join_expressions-second.ensures) c.first_alone.result c.first_alone.ensures

pub returns-in-Some-node : goal.returns-in-Some-node
returns-in-Some-node t c =
    put_both _ _ _ _ _ c.args.keys _ _ _ ((c.decreases, (c.requires.wf, (c.requires.keys_in, c.requires.node_in_bounds)))) (rw c.in-Two.is at c.node_at.ensures) c.if-t-lt-AND.false (rw c.in-Some.is at c.remove_join_expressions-first.ensures) (rw c.in-Some-node.is at c.remove_join_expressions-second.ensures) c.unwrap-both.result c.push.new.cells (rw c.unwrap-both.ensures at c.push.ensures)

pub returns-in-Col : goal.returns-in-Col
unfolding remove_join_expressions
returns-in-Col t c = elim c.in-Col.is [
  | inl p ↦ ret_stay _ _ _ _ c.args.keys (c.requires.wf, (c.requires.keys_in, c.requires.node_in_bounds)) _ (rw p.2 at c.node_at.ensures) refl
  | inr p ↦ elim p [
    | inl q ↦ ret_stay _ _ _ _ c.args.keys (c.requires.wf, (c.requires.keys_in, c.requires.node_in_bounds)) _ (rw q.1 at c.node_at.ensures) refl
    | inr q ↦ elim q [
      | inl e ↦ ret_stay _ _ _ _ c.args.keys (c.requires.wf, (c.requires.keys_in, c.requires.node_in_bounds)) _ (rw e at c.node_at.ensures) refl
      | inr o ↦ ret_stay _ _ _ _ c.args.keys (c.requires.wf, (c.requires.keys_in, c.requires.node_in_bounds)) _ (rw o.2 at c.node_at.ensures).means refl
    ]
  ]
]
