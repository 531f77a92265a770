-- The proof of the cycle of calls {count_uses}. The measure is the node's number. Assumes nothing.
use Rattle.arena.proofs.+count_uses.Given as goal

abbrev pub decreases-count_uses : goal.decreases-count_uses
decreases-count_uses l = l.i
