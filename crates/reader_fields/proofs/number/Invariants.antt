-- The loop of `number`: the bytes that are left are the first of the k, and n is what the others spell. Assumes nothing.
use Rattle.reader_fields.proofs.Laws.{Spelt}
use Rattle.reader_fields.proofs.number.Given as goal

abbrev pub invariant-loop-b : goal.invariant-loop-b
invariant-loop-b l = Spelt l.file l.at l.k l.b-iterator.iter.rest.now l.n
