-- `requests::with_roots` meets its contract. The invariant: what is left to be added is the rest of the list. Assumes nothing.
use Rattle.lookup.specs.Fields.{fields_of}
use Rattle.requests.proofs.Lists.{Rooted}
use Rattle.requests.proofs.with_roots.Given as goal

abbrev pub invariant-loop-i : goal.invariant-loop-i
invariant-loop-i l =
    Rooted l.rows l.cells l.at l.first l.count (fields_of l.schema) l.initial.out l.i l.out
