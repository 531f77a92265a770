-- `text_parts::put_more` meets its contract: the rows from `first + i` on are left to be put. Assumes nothing.
use Rattle.std.proofs.Common.{◌+◌, ◌-◌, ◌<◌, ◌≡◌}
use Rattle.text_parts.proofs.Parts.{first-ok, more-done, more_turn, others-ok, part-inside}
use Rattle.text_parts.specs.Parts.{PartOk, part_text}
use Rattle.tree.specs.Rows.{one}
use native.Mathlib.Omega.{arith}
use Rattle.text_parts.proofs.put_more.Goals as goal

pub overflow_add-first : goal.overflow_add-first
overflow_add-first c =
    let r = c.args.rows.now in
    let s = c.args.cells.now in
    let row = c.args.first + c.loop-i.i in
    let left : 0 < c.args.n - c.loop-i.i = omega arith in
    omega (arith, part-inside c.args.part r s row (first-ok (PartOk c.args.part r s) one row (c.args.n - c.loop-i.i) left c.loop-i.invariant.left))

pub put_part-end-requires : goal.put_part-end-requires
put_part-end-requires c =
    first-ok _ _ _ _ (omega arith) c.loop-i.invariant.left

pub loop-i-preserved : goal.loop-i-preserved
loop-i-preserved c =
    let row : c.args.first + c.loop-i.i + 1 ≡ c.args.first + (c.loop-i.i + 1) = omega arith in
    let left : c.args.n - c.loop-i.i - 1 ≡ c.args.n - (c.loop-i.i + 1) = omega arith in
    let some : 0 < c.args.n - c.loop-i.i = omega arith in
    record {
      long = omega (arith, c.put_part-end.auto, c.put_text-a.auto, c.loop-i.invariant.long);
      left = rw (← row, ← left) (others-ok (PartOk c.args.part c.args.rows.now c.args.cells.now) one _ _ some c.loop-i.invariant.left);
      put = rw (← row, ← left) (more_turn (part_text c.args.part c.args.rows.now c.args.cells.now) one _ _ some c.loop-i.invariant.put c.put_text-a.ensures c.put_part-end.ensures);
    }

pub returns : goal.returns
returns c =
    more-done _ _ _ _ (omega arith) c.loop-i.invariant.put c.put_text.ensures
