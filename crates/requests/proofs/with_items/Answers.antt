-- `requests::with_items` meets its contract. The invariant: what is left to be added are the picked items of the rest. Assumes nothing.
use mathlib.Core.Path.{sym, ◌∙◌}
use Rattle.arena.proofs.Rows.{read_expr_lem, row_ok}
use Rattle.lookup.proofs.Lists.{rest-next, rest-none}
use Rattle.requests.proofs.Lists.{items_picked, picked_all, picked_no, picked_none, picked_yes}
use Rattle.requests.proofs.with_items.Goals as goal
use Rattle.requests.proofs.with_items.Goals.{then-contains, else-contains}

pub loop-i-init : goal.loop-i-init
loop-i-init c = picked_none (items_picked _ _ _ _ _)

pub loop-i-preserved : goal.loop-i-preserved
loop-i-preserved c =
    let next = rest-next _ _ _ _ c.loop-i-test.true in
    elim c.if-contains.branch [
      | then-contains w ↦ rw w.out-is (picked_yes c.loop-i.invariant _ _ next c.loop-i-test.true (sym c.contains.ensures ∙ w.if-contains.true) (rw (read_expr_lem _ w.row_at-row.ensures (row_ok _ _ _ _ c.requires.rows_ok _ c.loop-i-test.true)) w.add.ensures))
      | else-contains w ↦ rw w.out-is (picked_no c.loop-i.invariant _ _ next c.loop-i-test.true (sym c.contains.ensures ∙ w.if-contains.false))
    ]

pub returns : goal.returns
returns c =
    picked_all c.loop-i.invariant (rest-none _ _ _ _ c.loop-i-test.false)
