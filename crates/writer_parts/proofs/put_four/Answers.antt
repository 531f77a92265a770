-- `writer_parts::put_four` meets its contract: one half, and then the other. Assumes nothing.
use mathlib.Core.Path.{refl}
use Rattle.writer_parts.proofs.Over.{part, so, halves_of_four}
use Rattle.writer_parts.proofs.put_four.Goals as goal

pub returns : goal.returns
returns c =
    so (part c.put_two.ensures c.put_two-2.ensures) (halves_of_four _) refl
