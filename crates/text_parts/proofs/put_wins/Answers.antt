-- `text_parts::put_wins` meets its contract. Assumes nothing.
use Rattle.text_parts.proofs.Parts.{first-ok, members-none, members-some, others-ok}
use Rattle.text_parts.specs.Parts.{win_text_at}
use Rattle.tree.specs.Rows.{WinOk, win_size}
use native.Mathlib.Omega.{arith}
use Rattle.text_parts.proofs.put_wins.Goals as goal

pub returns-then-n-eq0 : goal.returns-then-n-eq0
returns-then-n-eq0 c =
    members-none _ _ _ _ c.if-n-eq0.true c.put_text.ensures

pub put_win-a-requires : goal.put_win-a-requires
put_win-a-requires c =
    first-ok (WinOk c.args.rows.now c.args.cells.now) (win_size c.args.rows.now) c.args.first c.args.n (omega (arith, c.if-n-eq0.false)) (c.requires)

pub win_at-requires : goal.win_at-requires
win_at-requires c =
    (first-ok (WinOk c.args.rows.now c.args.cells.now) (win_size c.args.rows.now) c.args.first c.args.n (omega (arith, c.if-n-eq0.false)) (c.requires)).inside

pub put_more_wins-requires : goal.put_more_wins-requires
put_more_wins-requires c =
    rw c.win_at.ensures.next_is (others-ok (WinOk c.args.rows.now c.args.cells.now) (win_size c.args.rows.now) c.args.first c.args.n (omega (arith, c.if-n-eq0.false)) (c.requires))

pub returns : goal.returns
returns c =
    members-some (win_text_at c.args.rows.now c.args.cells.now) (win_size c.args.rows.now) c.args.first c.args.n (omega (arith, c.if-n-eq0.false)) c.put_win-a.ensures (rw c.win_at.ensures.next_is at c.put_more_wins.ensures)
