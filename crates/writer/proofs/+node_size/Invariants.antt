-- The proof of the cycle of calls {node_size}. The measure is the record's number. Each way through is a law of `Plans`. Assumes nothing.
use Rattle.writer.proofs.+node_size.Given as goal

abbrev pub decreases-node_size : goal.decreases-node_size
decreases-node_size l = l.i
