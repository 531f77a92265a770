-- `vector_text::list` meets its contract: the numbers passed are stored. Assumes nothing.
use Rattle.std.proofs.Common.{arith, length-append, rules}
use Rattle.std.proofs.lemmas.Iterator.Consumers.{YieldsList-at, YieldsList-end, YieldsList-turn}
use Rattle.std.proofs.lemmas.Iterator.Splits.{YieldsList-from_slice_split}
use Rattle.vector_text.proofs.Stores.{list-dash, listed-bad, listed-end, listed-full, listed_more, listed-none}
use Prim.Native.Nat.{ℕ}
use borrow.Author.Tests.{tests}
use lib.Dec.{eqb}
use mathlib.Core.Path.{◌∙◌}
use Rattle.vector_text.proofs.list.Goals as goal

pub returns-then-eq : goal.returns-then-eq
returns-then-eq c =
    list-dash _ _ (search rules)

pub loop-piece-init : goal.loop-piece-init
loop-piece-init c = record { read = listed-none _ _ (λ h. search rules); count = search rules }

pub returns-in_err-x : goal.returns-in_err-x
returns-in_err-x c =
    let turn = YieldsList-turn
    (YieldsList-at c.into_iter-piece-iterator.ensures.into_iter_gives (YieldsList-from_slice_split _ (λ (x : ℕ). eqb x 44) c.args.text.now
    c.split-piece-items.ensures.rest c.split-piece-items.ensures.done c.split-piece-items.ensures.closure (λ x b q k. search (rules, tests))))
    c.loop-piece.yielded _ c.loop-piece.yielded_by _ _ _ c.in-Some.is c.next.ensures.steps in
    let here : _ = rw (← c.loop-piece.invariant.count) at turn in
    rw c.from_residual.ensures (listed-bad _ _ _ _ c.loop-piece.invariant.read _ here.0 here.1 _ c.in_err-x.ensures)

pub returns-then-out-n : goal.returns-then-out-n
returns-then-out-n c =
    let turn = YieldsList-turn
    (YieldsList-at c.into_iter-piece-iterator.ensures.into_iter_gives (YieldsList-from_slice_split _ (λ (x : ℕ). eqb x 44) c.args.text.now
    c.split-piece-items.ensures.rest c.split-piece-items.ensures.done c.split-piece-items.ensures.closure (λ x b q k. search (rules, tests))))
    c.loop-piece.yielded _ c.loop-piece.yielded_by _ _ _ c.in-Some.is c.next.ensures.steps in
    let here : _ = rw (← c.loop-piece.invariant.count) at turn in
    listed-full _ _ _ _ c.loop-piece.invariant.read _ here.0 here.1 _ c.in_ok-x.ensures _ c.if-out-n.true

pub loop-piece-preserved : goal.loop-piece-preserved
loop-piece-preserved c =
    let turn = YieldsList-turn
    (YieldsList-at c.into_iter-piece-iterator.ensures.into_iter_gives (YieldsList-from_slice_split _ (λ (x : ℕ). eqb x 44) c.args.text.now
    c.split-piece-items.ensures.rest c.split-piece-items.ensures.done c.split-piece-items.ensures.closure (λ x b q k. search (rules, tests))))
    c.loop-piece.yielded _ c.loop-piece.yielded_by _ _ _ c.in-Some.is c.next.ensures.steps in
    let here : _ = rw (← c.loop-piece.invariant.count) at turn in
    record {
      read = listed_more _ _ _ _ c.loop-piece.invariant.read _ here.0 here.1 _ c.in_ok-x.ensures c.if-out-n.false;
      count = simp length-append (omega (arith, c.loop-piece.invariant.count));
    }

pub returns : goal.returns
returns c =
    let end = YieldsList-end
    (YieldsList-at c.into_iter-piece-iterator.ensures.into_iter_gives (YieldsList-from_slice_split _ (λ (x : ℕ). eqb x 44) c.args.text.now
    c.split-piece-items.ensures.rest c.split-piece-items.ensures.done c.split-piece-items.ensures.closure (λ x b q k. search (rules, tests))))
    c.loop-piece.yielded _ c.loop-piece.yielded_by _ _ c.in-None.is c.next.ensures.steps in
    listed-end _ _ _ _ c.loop-piece.invariant.read (c.loop-piece.invariant.count ∙ end.1)
