-- The proof of the cycle of calls {add}. The measure is the node's number. Each case is a law of `Adding`. Assumes nothing.
use Rattle.requests.proofs.+add.Given as goal

abbrev pub decreases-add : goal.decreases-add
decreases-add l = l.i
