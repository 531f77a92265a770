-- `requests::with_windows` meets its contract. The invariant: what is left to be added are the picked windows from row `at` on. Assumes nothing.
use mathlib.Core.Path.{sym, ◌∙◌}
use Rattle.requests.proofs.Lists.{all_here, list-end, list-next, picked_all, picked_no, picked_yes}
use Rattle.requests.proofs.with_windows.Goals as goal
use Rattle.requests.proofs.with_windows.Goals.{then-contains, else-contains}

pub win_at-w-requires : goal.win_at-w-requires
win_at-w-requires c =
    (all_here _ _ _ _ _ c.loop-i-test.true c.loop-i.invariant.1).0.inside

pub with_window-out-requires : goal.with_window-out-requires
with_window-out-requires c = record { win_ok = (all_here _ _ _ _ _ c.loop-i-test.true c.loop-i.invariant.1).0; below = c.requires.below }

pub loop-i-preserved : goal.loop-i-preserved
loop-i-preserved c =
    let next = list-next _ _ _ _ _ c.loop-i-test.true in
    rw c.win_at-w.ensures.next_is (
      elim c.if-contains.branch [
        | then-contains w ↦ rw w.out-is (picked_yes c.loop-i.invariant.0 _ _ next c.loop-i-test.true (sym c.contains.ensures ∙ w.if-contains.true) w.with_window-out.ensures)
        | else-contains w ↦ rw w.out-is (picked_no c.loop-i.invariant.0 _ _ next c.loop-i-test.true (sym c.contains.ensures ∙ w.if-contains.false))
      ],
      (all_here _ _ _ _ _ c.loop-i-test.true c.loop-i.invariant.1).1,
    )

pub returns : goal.returns
returns c =
    picked_all c.loop-i.invariant.0 (list-end _ _ _ _ _ c.loop-i-test.false)
