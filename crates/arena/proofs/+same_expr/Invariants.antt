-- The proof of the cycle of calls {same_expr}. The measure is the first node's number. Each case is a law of `Same`. Assumes nothing.
use Rattle.arena.proofs.+same_expr.Given as goal

abbrev pub decreases-same_expr : goal.decreases-same_expr
decreases-same_expr l = l.i
