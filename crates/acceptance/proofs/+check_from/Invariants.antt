-- The proof of the cycle of calls {check_from}. The measure is the number of versions that are left. Assumes nothing.
use Prim.Native.Nat.{◌-◌}
use Rattle.acceptance.proofs.+check_from.Given as goal

abbrev pub decreases-check_from : goal.decreases-check_from
decreases-check_from l = 3 - l.number
