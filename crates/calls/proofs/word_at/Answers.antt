-- `calls::word_at` meets its contract. Assumes nothing.
use Rattle.calls.proofs.Input.{word-is}
use mathlib.Core.Path.{◌∙◌}
use native.Mathlib.Omega.{arith}
use Rattle.calls.proofs.word_at.Goals as goal

pub returns : goal.returns
returns c =
    (word-is c.args.input.now c.args.at (c.from-low.ensures ∙ c.half_at.ensures.0) (c.from-high.ensures ∙ c.half_at-2.ensures.0), omega (arith, c.from-low.ensures, c.from-high.ensures, c.half_at.ensures.1, c.half_at-2.ensures.1))
