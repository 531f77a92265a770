-- `parts::fill` meets its contract: the fields so far, and those to come, are the list. Assumes nothing.
use Prim.Native.Nat.{◌+◌}
use mathlib.Core.Path.{◌≡◌, ◌∙◌, ap}
use native.Mathlib.Omega.{arith}
use Rattle.lookup.proofs.Rows.{fills_all, fills_more, fills_none}
use Rattle.parts.proofs.fill.Goals as goal

pub loop-i-preserved : goal.loop-i-preserved
loop-i-preserved g c =
    let e : c.loop-i.i ≡ 0 + c.loop-i.i = omega arith in
    λ at h. fills_more _ _ _ _ _ (c.loop-i.invariant at h) c.loop-i-test.true (c.put_field.ensures.j_after ∙ h c.loop-i.i c.loop-i-test.true c.read.result c.read.ensures ∙ ap at e) c.put_field.ensures.kept

pub loop-i-init : goal.loop-i-init
loop-i-init g c = λ at h. fills_none _ _ _ _ _

pub returns : goal.returns
returns g c = λ at h. fills_all _ _ _ _ _ (c.loop-i.invariant at h) c.loop-i-test.false
