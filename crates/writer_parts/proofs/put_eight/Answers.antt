-- `writer_parts::put_eight` meets its contract: one half, and then the other. Assumes nothing.
use mathlib.Core.Path.{refl}
use Rattle.writer_parts.proofs.Over.{part, so, halves_of_eight}
use Rattle.writer_parts.proofs.put_eight.Goals as goal

pub returns : goal.returns
returns c =
    so (part c.put_four.ensures c.put_four-2.ensures) (halves_of_eight _) refl
