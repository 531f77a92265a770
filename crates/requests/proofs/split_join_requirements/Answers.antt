-- `requests::split_join_requirements` meets its contract: each side is a law of `Parting`. Assumes nothing.
use mathlib.Core.Path.{refl}
use Rattle.requests.proofs.Parting.{parted_both, parted_own_left, parted_own_right}
use Rattle.requests.proofs.split_join_requirements.Goals as goal

pub returns-in-Inner : goal.returns-in-Inner
returns-in-Inner c = parted_both c.split_off.ensures.holds c.split_off.ensures.holds_2 c.in-Inner.is

pub returns-in-LeftSemi : goal.returns-in-LeftSemi
returns-in-LeftSemi c = parted_own_left refl c.new.ensures c.in-LeftSemi.is

pub returns-in-RightSemi : goal.returns-in-RightSemi
returns-in-RightSemi c = parted_own_right c.new-in-RightSemi.ensures refl c.in-RightSemi.is
