-- `sets_show::indices` meets its contract: the next index is below 512, so that the loop goes on behind it and ends.
use Prim.Native.Nat.{◌-◌, ◌≤◌}
use Rattle.sets_show.proofs.indices.Given as goal

abbrev pub invariant-loop-i : goal.invariant-loop-i
invariant-loop-i g l = l.at ≤ 512

abbrev pub decreases-loop-i : goal.decreases-loop-i
decreases-loop-i g l = 512 - l.at
