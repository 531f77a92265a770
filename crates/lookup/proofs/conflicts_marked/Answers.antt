-- `lookup::conflicts_marked` meets its contract. Assumes nothing.
use Rattle.lookup.proofs.Marks.{unmarked}
use Rattle.lookup.proofs.conflicts_marked.Goals as goal

pub returns-then-not-seen-s : goal.returns-then-not-seen-s
returns-then-not-seen-s c =
    unmarked _ _ _ _ _ _ c.requires.1 (rw c.slot-s.ensures at c.if-not-seen-s.true)
