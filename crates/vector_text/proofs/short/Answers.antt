-- `vector_text::short` meets its contract. Assumes nothing.
use Rattle.std.proofs.Common.{arith}
use Rattle.std.proofs.lemmas.Grind.{common_steps}
use Rattle.vector_text.proofs.Numbers.{short_is, short_large, short_none}
use mathlib.Core.Path.{◌∙◌}
use Rattle.vector_text.proofs.short.Goals as goal

pub returns-in_err-n : goal.returns-in_err-n
returns-in_err-n c =
    c.from_residual.ensures ∙ short_none _ c.in_err-n.ensures

pub returns : goal.returns
returns c =
    grind (arith, common_steps, short_is c.args.text.now c.in_ok-n.n c.in_ok-n.ensures, short_large c.args.text.now c.in_ok-n.n c.in_ok-n.ensures)
