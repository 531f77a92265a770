-- `text_parts::put_members` meets its contract. Assumes nothing.
use Rattle.text_parts.proofs.Parts.{first-ok, members-none, members-some, others-ok, part-inside}
use Rattle.text_parts.specs.Parts.{PartOk, part_text}
use Rattle.tree.specs.Rows.{one}
use native.Mathlib.Omega.{arith}
use Rattle.text_parts.proofs.put_members.Goals as goal

pub returns-then-n-eq0 : goal.returns-then-n-eq0
returns-then-n-eq0 c =
    members-none _ _ _ _ c.if-n-eq0.true c.put_text.ensures

pub put_part-a-requires : goal.put_part-a-requires
put_part-a-requires c =
    first-ok (PartOk c.args.part c.args.rows.now c.args.cells.now) one c.args.first c.args.n (omega (arith, c.if-n-eq0.false)) (c.requires)

pub overflow_add-first : goal.overflow_add-first
overflow_add-first c =
    let r = c.args.rows.now in
    let s = c.args.cells.now in
    omega (arith, part-inside c.args.part r s c.args.first (first-ok (PartOk c.args.part r s) one c.args.first c.args.n (omega (arith, c.if-n-eq0.false)) (c.requires)))

pub put_more-requires : goal.put_more-requires
put_more-requires c =
    others-ok (PartOk c.args.part c.args.rows.now c.args.cells.now) one c.args.first c.args.n (omega (arith, c.if-n-eq0.false)) (c.requires)

pub returns : goal.returns
returns c =
    members-some (part_text c.args.part c.args.rows.now c.args.cells.now) one c.args.first c.args.n (omega (arith, c.if-n-eq0.false)) c.put_part-a.ensures c.put_more.ensures
