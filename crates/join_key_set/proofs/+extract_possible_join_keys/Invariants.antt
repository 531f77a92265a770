-- The proof of the cycle of calls {extract_possible_join_keys}. The measure is the node's number. Each way is a law of `Extract`. Assumes nothing.
use Rattle.join_key_set.proofs.+extract_possible_join_keys.Given as goal

abbrev pub decreases-extract_possible_join_keys : goal.decreases-extract_possible_join_keys
decreases-extract_possible_join_keys l = l.node
