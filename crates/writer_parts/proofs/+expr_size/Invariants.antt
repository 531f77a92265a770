-- The proof of the cycle of calls {expr_size}. The measure is the node's number. Assumes nothing.
use Rattle.writer_parts.proofs.+expr_size.Given as goal

abbrev pub decreases-expr_size : goal.decreases-expr_size
decreases-expr_size l = l.i
