-- The proof of the cycle of calls {count_tags}. The measure is the node's number. Assumes nothing.
use Rattle.arena.proofs.+count_tags.Given as goal

abbrev pub decreases-count_tags : goal.decreases-count_tags
decreases-count_tags l = l.i
