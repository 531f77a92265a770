-- `join_key_set::JoinKeySet::contains` meets its contract: the pairs passed are others. Assumes nothing.
use Rattle.join_key_set.proofs.Sets.{sought_all, sought_mirror, sought_more, sought_pair}
use Rattle.join_key_set.proofs.JoinKeySet.contains.Goals as goal

pub returns-then-is_pair : goal.returns-then-is_pair
returns-then-is_pair c =
    sought_pair _ _ _ _ _ _ _ _ _ c.loop-i.invariant c.loop-i-test.true c.key_at-key.ensures c.is_pair.ensures c.if-is_pair.true

pub returns-then-is_pair-2 : goal.returns-then-is_pair-2
returns-then-is_pair-2 c =
    sought_mirror _ _ _ _ _ _ _ _ _ c.loop-i.invariant c.loop-i-test.true c.key_at-key.ensures c.is_pair.ensures c.is_pair-in-loop-i.ensures c.if-is_pair.false c.if-is_pair-2.true

pub loop-i-preserved : goal.loop-i-preserved
loop-i-preserved c =
    sought_more _ _ _ _ _ _ _ _ _ c.loop-i.invariant c.loop-i-test.true c.key_at-key.ensures c.is_pair.ensures c.is_pair-in-loop-i.ensures c.if-is_pair.false c.if-is_pair-2.false

pub returns : goal.returns
returns c =
    sought_all _ _ _ _ _ _ _ c.loop-i.invariant c.loop-i-test.false
