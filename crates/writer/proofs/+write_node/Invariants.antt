-- The proof of the cycle of calls {write_node}. The measure is the record's number. Each way through is a law of `Plans`. Assumes nothing.
use Rattle.writer.proofs.+write_node.Given as goal

abbrev pub decreases-write_node : goal.decreases-write_node
decreases-write_node l = l.i
