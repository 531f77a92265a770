-- The proof of the cycle of calls {has_column}. The measure is the node's number. Assumes nothing.
use Rattle.arena.proofs.+has_column.Given as goal

abbrev pub decreases-has_column : goal.decreases-has_column
decreases-has_column l = l.i
