-- `lookup::conflicts` meets its contract: the answer so far is that for the fields passed. Assumes nothing.
use Rattle.cpl.specs.Accept.{conflict}
use Rattle.lookup.proofs.Clash.{any-row-more, any-row-none}
use Rattle.lookup.specs.Fields.{pair_of}
use mathlib.Core.Bool.{◌||◌}
use mathlib.Core.Path.{◌∙◌, ◌≡◌, ap, ap₂}
use native.Mathlib.Omega.{arith}
use Rattle.lookup.proofs.conflicts.Goals as goal

pub loop-i-init : goal.loop-i-init
loop-i-init c =
    (omega arith, any-row-none _ c.args.fields.now c.args.first)

pub loop-i-preserved : goal.loop-i-preserved
loop-i-preserved c =
    (omega arith, ap₂ ◌||◌ c.loop-i.invariant.1 (c.in_conflict-hit.ensures ∙ ap (conflict (pair_of c.args.f)) c.field_at-g.ensures) ∙ any-row-more _ c.args.fields.now c.args.first c.loop-i.i)

pub returns : goal.returns
returns c =
    let e : c.loop-i.i ≡ c.args.width = omega (arith, c.loop-i.invariant.0) in
    rw e at c.loop-i.invariant.1
