-- `request::check_request` meets its contract: the indices passed are in order, below the width, and in the set. Assumes nothing.
use Rattle.request.proofs.Steps.{Taken}
use Rattle.request.proofs.check_request.Given as goal

abbrev pub invariant-loop-i : goal.invariant-loop-i
invariant-loop-i l = Taken l.width l.request l.set l.least l.i
