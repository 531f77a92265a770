-- `lookup::Schema::first_fit` meets its contract: no field that was passed fits. Assumes nothing.
use Rattle.cpl.specs.Plan.{pair}
use Rattle.lookup.proofs.Fits.{Sought}
use Rattle.lookup.specs.Fields.{field_at}
use Rattle.lookup.proofs.Schema.first_fit.Given as goal

abbrev pub invariant-loop-i : goal.invariant-loop-i
invariant-loop-i l = Sought (pair l.qualifier l.name) (field_at l.self.fields.now) l.self.first l.self.width l.i
