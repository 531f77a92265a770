-- `request::check_request` meets its contract: the indices passed are in order, below the width, and in the set. Assumes nothing.
use Rattle.request.proofs.Steps.{refused, taken-all, taken_more, taken_none}
use Rattle.request.proofs.check_request.Goals as goal

pub loop-i-init : goal.loop-i-init
loop-i-init c = taken_none _ _ _ c.new-set.ensures

pub returns-then-x-least : goal.returns-then-x-least
returns-then-x-least c = refused c.args.width c.args.request.now _ c.loop-i.least c.loop-i.i c.loop-i.invariant c.new.result c.new.ensures c.loop-i-test.true (rw c.from-x.ensures at c.then-x-least.either)

pub loop-i-preserved : goal.loop-i-preserved
loop-i-preserved c =
    let e = c.from-x.ensures in
    rw e (taken_more c.args.width c.args.request.now _ c.loop-i.least c.loop-i.i c.loop-i.invariant _ c.loop-i-test.true (rw e at c.if-x-least.false) (rw e at c.if-width-x.false) (rw e at c.insert.ensures.holds))

pub returns : goal.returns
returns c = taken-all c.args.width c.args.request.now _ c.loop-i.least c.loop-i.i c.loop-i.invariant c.loop-i-test.false
