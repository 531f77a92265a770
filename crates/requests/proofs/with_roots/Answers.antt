-- `requests::with_roots` meets its contract. The invariant: what is left to be added is the rest of the list. Assumes nothing.
use Rattle.requests.proofs.Lists.{rooted_all, rooted_more}
use Rattle.requests.proofs.with_roots.Goals as goal

pub loop-i-preserved : goal.loop-i-preserved
loop-i-preserved c =
    rooted_more _ _ _ _ _ c.loop-i-test.true c.loop-i.invariant (rw c.from-root.ensures at c.add.ensures)

pub returns : goal.returns
returns c =
    rooted_all _ _ _ _ _ c.loop-i-test.false c.loop-i.invariant
