-- The proof of the cycle of calls {resolve_both}. The measure is the node's number. Assumes nothing.
use Rattle.lookup.proofs.+resolve_both.Given as goal

abbrev pub decreases-resolve_both : goal.decreases-resolve_both
decreases-resolve_both l = l.i
