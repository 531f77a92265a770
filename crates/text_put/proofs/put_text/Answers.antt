-- `text_put::put_text` meets its contract: the letters from i on are left to be put. Assumes nothing.
use Rattle.text_put.proofs.Laws.{begin, word-done, word_turn}
use mathlib.Core.Path.{◌∙◌, refl}
use native.Mathlib.Omega.{arith}
use Rattle.text_put.proofs.put_text.Goals as goal

pub loop-b-init : goal.loop-b-init
loop-b-init c = (omega arith, refl, begin)

pub loop-b-preserved : goal.loop-b-preserved
loop-b-preserved c =
    (omega (arith, c.loop-b-test.true), c.put_byte-end.auto.out ∙ c.loop-b.invariant.1, word_turn c.args.s.now c.loop-b.b-index c.loop-b-test.true c.loop-b.invariant.2 c.put_byte-end.ensures)

pub shape_of-out : goal.shape_of-out
shape_of-out c =
    c.loop-b.invariant.1

pub returns : goal.returns
returns c =
    word-done c.args.s.now c.loop-b.b-index (omega (arith, c.loop-b-test.false)) c.loop-b.invariant.2
