-- `calls::read_request` meets its contract: the indices that were read stand in the array. Assumes nothing.
use Rattle.calls.proofs.Input.{index_in}
use Rattle.cpl.specs.Tests.{iota}
use lib.ListN.{length, take}
use mathlib.Core.List.{map}
use mathlib.Core.Path.{◌≡◌}
use Rattle.calls.proofs.read_request.Given as goal

abbrev pub invariant-loop-k : goal.invariant-loop-k
invariant-loop-k l = (length l.request ≡ length l.initial.request) × (take l.k l.request ≡ map (index_in l.input l.at) (iota 0 l.k))
