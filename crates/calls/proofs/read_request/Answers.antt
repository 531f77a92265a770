-- `calls::read_request` meets its contract: the indices that were read stand in the array. Assumes nothing.
use Rattle.calls.proofs.Input.{read_done, read_more}
use Rattle.cpl.specs.Tests.{iota}
use lib.ListN.{length-set}
use mathlib.Core.Path.{◌∙◌, refl}
use native.Mathlib.Omega.{arith}
use Rattle.calls.proofs.read_request.Goals as goal

pub loop-k-init : goal.loop-k-init
unfolding iota
loop-k-init c = (refl, refl)

pub loop-k-preserved : goal.loop-k-preserved
loop-k-preserved c =
    (length-set c.loop-k.request c.loop-k.k c.half_at.result ∙ c.loop-k.invariant.0, read_more c.args.input.now c.args.at c.loop-k.request c.loop-k.k c.half_at.result c.loop-k.invariant.1 (omega (arith, c.requires.1, c.min-count.ensures, c.loop-k.invariant.0, c.loop-k-test.true)) c.half_at.ensures.0)

pub returns : goal.returns
returns c =
    read_done c.args.input.now c.args.at c.loop-k.request (omega arith) c.min-count.ensures c.count_at.ensures c.loop-k.invariant.1
