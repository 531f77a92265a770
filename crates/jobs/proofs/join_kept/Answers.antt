-- `jobs::join_kept` meets its contract: each side is a law of `Inputs`. Assumes nothing.
use Rattle.jobs.proofs.Inputs.{joined_both, joined_own_left, joined_own_right}
use Rattle.jobs.proofs.join_kept.Goals as goal

pub returns-in-Inner : goal.returns-in-Inner
returns-in-Inner c = joined_both c.followed_by.ensures c.in-Inner.is

pub returns-in-LeftSemi : goal.returns-in-LeftSemi
returns-in-LeftSemi c = joined_own_left _ _ _ c.in-LeftSemi.is

pub returns-in-RightSemi : goal.returns-in-RightSemi
returns-in-RightSemi c = joined_own_right _ _ _ c.in-RightSemi.is
