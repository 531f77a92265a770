-- `lookup::alias_fields` meets its contract: the fields so far, and those to come, are the list. Assumes nothing.
use Rattle.cpl.specs.Fields.{requalify}
use Rattle.lookup.proofs.Rows.{Fills}
use Rattle.lookup.specs.Fields.{field_at}
use Rattle.lookup.proofs.alias_fields.Given as goal

abbrev pub invariant-loop-i : goal.invariant-loop-i
invariant-loop-i l = Fills (λ x. requalify l.qualifier (field_at l.initial.fields x)) l.from l.width l.to l.i l.initial.fields l.fields
