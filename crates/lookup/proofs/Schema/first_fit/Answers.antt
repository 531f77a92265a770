-- `lookup::Schema::first_fit` meets its contract: no field that was passed fits. Assumes nothing.
use Rattle.cpl.proofs.Lookup.{fits-is}
use Rattle.cpl.specs.Exprs.{fits}
use Rattle.cpl.specs.Plan.{pair}
use Rattle.lookup.proofs.Fits.{sought_all, sought_found, sought_more, sought_none}
use mathlib.Core.Path.{◌∙◌, ap, sym}
use Rattle.lookup.proofs.Schema.first_fit.Goals as goal

pub returns-then-name-f : goal.returns-then-name-f
returns-then-name-f c =
    sought_found _ _ _ _ _ c.loop-i.invariant c.loop-i-test.true (ap (fits (pair c.args.qualifier c.args.name)) (sym c.field_at-f.ensures) ∙ fits-is _ _ _ _ ∙ c.if-name-f.true)

pub loop-i-preserved : goal.loop-i-preserved
loop-i-preserved c =
    sought_more _ _ _ _ _ c.loop-i.invariant c.loop-i-test.true (ap (fits (pair c.args.qualifier c.args.name)) (sym c.field_at-f.ensures) ∙ fits-is _ _ _ _ ∙ c.if-name-f.false)

pub returns : goal.returns
returns c =
    sought_all _ _ _ _ _ c.loop-i.invariant c.loop-i-test.false

pub loop-i-init : goal.loop-i-init
loop-i-init c = sought_none _ _ _ _
