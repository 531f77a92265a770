-- `vector_text::number` meets its contract: the digits passed make the value. Assumes nothing.
use Rattle.vector_text.proofs.Numbers.{Counted}
use Rattle.vector_text.proofs.number.Given as goal

abbrev pub invariant-loop-b : goal.invariant-loop-b
invariant-loop-b l = Counted l.text l.value l.b-index
