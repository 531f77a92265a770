-- `text_plan::put_plan` meets its contract; the measure is how many nodes may follow. Assumes nothing.
use Prim.Native.Nat.{◌-◌}
use Rattle.text_plan.proofs.+put_plan.Given as goal

abbrev pub decreases-put_plan : goal.decreases-put_plan
decreases-put_plan l = 256 - l.k
