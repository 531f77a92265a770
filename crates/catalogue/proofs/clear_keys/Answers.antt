-- `catalogue::clear_keys` meets its contract: the first t tables have none. Assumes nothing.
use native.Mathlib.Omega.{arith}
use Rattle.catalogue.proofs.clear_keys.Goals as goal

pub returns : goal.returns
returns c = λ t l. c.loop-t.invariant.none t (omega (arith, c.loop-t-test.false))
