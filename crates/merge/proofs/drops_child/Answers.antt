-- `merge::drops_child` meets its contract. Assumes nothing.
use Rattle.rules.specs.Merge.{drops_child}
use Rattle.merge.proofs.drops_child.Goals as goal

pub returns-then-not-house : goal.returns-then-not-house
unfolding drops_child
returns-then-not-house c =
    rw (← c.same.ensures, c.if-same.true, c.if-not-house.true)

pub returns-else-not-house : goal.returns-else-not-house
unfolding drops_child
returns-else-not-house c =
    rw (← c.same.ensures, c.if-same.true, c.if-not-house.false, c.all_plain.ensures)

pub returns-else-same : goal.returns-else-same
unfolding drops_child
returns-else-same c =
    rw (← c.same.ensures, c.if-same.false)
