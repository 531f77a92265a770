-- `text_parts::put_expr` meets its contract; the measure is the node's number. Assumes nothing.
use Rattle.text_parts.proofs.+put_expr.Given as goal

abbrev pub decreases-put_expr : goal.decreases-put_expr
decreases-put_expr l = l.i
