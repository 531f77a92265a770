-- The proof of the cycle of calls {subst}. A call on an operand keeps the level and has a smaller node; the call that copies a
-- definition has level Copy, and a node that any number may be. So the measure is the level's rank * 2^64 + i. Each way is a law of `Ways`.
-- Assumes nothing.
use Prim.Native.Nat.{◌+◌, ◌*◌, ◌^◌}
use Rattle.arena_build.proofs.Ways.{rank}
use Rattle.arena_build.proofs.+subst.Given as goal

abbrev pub decreases-subst : goal.decreases-subst
decreases-subst l = rank l.level * 2 ^ 64 + l.i
