-- `text_parts::put_more_wins` meets its contract: the windows from `row` on are left to be put. Assumes nothing.
use Rattle.std.proofs.Common.{◌+◌, ◌-◌, ◌<◌, ◌≡◌}
use Rattle.text_parts.proofs.Parts.{first-ok, more-done, more_turn, others-ok}
use Rattle.text_parts.specs.Parts.{win_text_at}
use Rattle.tree.specs.Rows.{WinOk, win_size}
use native.Mathlib.Omega.{arith}
use Rattle.text_parts.proofs.put_more_wins.Goals as goal

pub put_win-end-requires : goal.put_win-end-requires
put_win-end-requires c =
    first-ok _ _ _ _ (omega arith) c.loop.invariant.left

pub win_at-row-requires : goal.win_at-row-requires
win_at-row-requires c =
    (first-ok (WinOk c.args.rows.now c.args.cells.now) _ _ _ (omega arith) c.loop.invariant.left).inside

pub loop-preserved : goal.loop-preserved
loop-preserved c =
    let left : c.args.n - c.loop.counter - 1 ≡ c.args.n - (c.loop.counter + 1) = omega arith in
    let some : 0 < c.args.n - c.loop.counter = omega arith in
    let size = win_size c.args.rows.now in
    record {
      long = omega (arith, c.put_win-end.auto, c.put_text-a.auto, c.loop.invariant.long);
      left = rw (c.win_at-row.ensures.next_is, ← left) (others-ok (WinOk c.args.rows.now c.args.cells.now) size _ _ some c.loop.invariant.left);
      put = rw (c.win_at-row.ensures.next_is, ← left) (more_turn (win_text_at c.args.rows.now c.args.cells.now) size _ _ some c.loop.invariant.put c.put_text-a.ensures c.put_win-end.ensures);
    }

pub returns : goal.returns
returns c =
    more-done _ _ _ _ (omega arith) c.loop.invariant.put c.put_text.ensures
