-- The proof of the cycle of calls {write_expr}. The measure is the node's number. Each arm is a law of `Exprs`. Assumes nothing.
use Rattle.writer_parts.proofs.+write_expr.Given as goal

abbrev pub decreases-write_expr : goal.decreases-write_expr
decreases-write_expr l = l.i
