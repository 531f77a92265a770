-- `parts::resolve_each` meets its contract: what the things passed find is told. Assumes nothing.
use mathlib.Core.Path.{refl}
use Rattle.parts.proofs.Strides.{told_all, told_more}
use Rattle.parts.proofs.resolve_each.Goals as goal

pub loop-i-preserved : goal.loop-i-preserved
loop-i-preserved g c =
    λ at h. told_more _ _ _ _ _ _ _ (c.loop-i.invariant at h) _ c.loop-i-test.true (h c.loop-i.i c.loop-i-test.true c.find.result c.find.ensures) c.both_resolved-all.ensures refl

pub returns : goal.returns
returns g c = λ at h. told_all _ _ _ _ _ _ _ (c.loop-i.invariant at h) c.loop-i-test.false
