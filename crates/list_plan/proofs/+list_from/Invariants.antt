-- The proof of the cycle of calls {list_from}. The measure is the number of versions that are left. Assumes nothing.
use Prim.Native.Nat.{◌-◌}
use Rattle.list_plan.proofs.+list_from.Given as goal

abbrev pub decreases-list_from : goal.decreases-list_from
decreases-list_from l = 3 - l.number
