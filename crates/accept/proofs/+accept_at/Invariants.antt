-- The proof of the cycle of calls {accept_at}. The measure is the number of node numbers from the node on. Assumes nothing.
use Prim.Native.Nat.{◌-◌}
use Rattle.accept.proofs.+accept_at.Given as goal

abbrev pub decreases-accept_at : goal.decreases-accept_at
decreases-accept_at l = 256 - l.k
