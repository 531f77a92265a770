-- The proof of the cycle of calls {remove_join_expressions}. The measure is the node's number. Each way is a law of `Remove`. Assumes nothing.
use Rattle.join_key_set.proofs.+remove_join_expressions.Given as goal

abbrev pub decreases-remove_join_expressions : goal.decreases-remove_join_expressions
decreases-remove_join_expressions l = l.node
