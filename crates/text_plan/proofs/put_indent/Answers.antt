-- `text_plan::put_indent` meets its contract: the spaces of `left` levels are left to be put. Assumes nothing.
use Rattle.text_plan.proofs.Heads.{indent-done, indent_turn}
use Rattle.std.proofs.Common.{◌+◌, ◌-◌, ◌≡◌}
use native.Mathlib.Omega.{arith}
use Rattle.text_plan.proofs.put_indent.Goals as goal

pub loop-preserved : goal.loop-preserved
loop-preserved c =
    let left : c.args.level - c.loop.counter - 1 ≡ c.args.level - (c.loop.counter + 1) = omega arith in
    (omega (arith, c.put_text-end.auto, c.loop.invariant.0), rw (← left) (indent_turn (c.args.level - c.loop.counter) (omega arith) c.loop.invariant.1 c.put_text-end.ensures))

pub returns : goal.returns
returns c =
    indent-done _ (omega arith) c.loop.invariant.1
