-- `text_answer::list_tree` meets its contract: too long for the buffer, or written. Assumes nothing.
use Rattle.answers.proofs.Ends.{no_room, written_out}
use Rattle.plan_text.specs.Listing.{listing}
use Rattle.refusals.specs.Codes.{code_of}
use Rattle.std.proofs.Common.{◌≤◌, length}
use Rattle.text_answer.proofs.Listed.{counted, stored}
use Rattle.tree.specs.Tree.{lent, plan_at}
use mathlib.Core.Path.{ap, refl}
use native.Mathlib.Omega.{arith}
use Rattle.text_answer.proofs.list_tree.Goals as goal

pub returns-then-n-out : goal.returns-then-n-out
returns-then-n-out c =
    let p = plan_at (lent c.args.cells.now c.args.rows.now c.args.nodes.now) 0 in
    no_room (listing p) _ (counted p c.requires.nodes_len_bound c.put_plan-n.ensures) (omega (arith, c.if-n-out.true)) (ap code_of c.new.ensures.0, refl, c.new.ensures.1)

pub returns : goal.returns
returns c =
    let p = plan_at (lent c.args.cells.now c.args.rows.now c.args.nodes.now) 0 in
    let n = counted p c.requires.nodes_len_bound c.put_plan-n.ensures in
    let fits : length (listing p) ≤ length c.args.out.now = omega (arith, n, c.if-n-out.false) in
    written_out (listing p) _ fits (refl, counted p c.requires.nodes_len_bound c.put_plan.ensures, refl) (stored p c.requires.nodes_len_bound fits c.put_plan.ensures)
