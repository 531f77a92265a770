-- The proof of the cycle of calls {read_plan}. The measure is the number of nodes left. Assumes nothing.
use Prim.Native.Nat.{◌-◌}
use Rattle.reader.proofs.+read_plan.Given as goal

abbrev pub decreases-read_plan : goal.decreases-read_plan
decreases-read_plan l = 256 - l.k
