-- `text_parts::put_win` meets its contract. Assumes nothing.
use Rattle.text_parts.proofs.Parts.{each_all, members_put, win_put}
use native.Mathlib.Omega.{arith}
use Rattle.text_parts.proofs.put_win.Goals as goal

pub put_call-a-requires : goal.put_call-a-requires
put_call-a-requires c =
    (omega (arith, c.win_at-w.ensures.function_is, c.requires.function), c.win_at-w.ensures.node _ (c.requires))

pub put_members-c-requires : goal.put_members-c-requires
put_members-c-requires c =
    each_all _ _ _ _ (c.win_at-w.ensures.parts _ (c.requires))

pub put_members-e-requires : goal.put_members-e-requires
put_members-e-requires c =
    each_all _ _ _ _ (c.win_at-w.ensures.keys _ (c.requires))

pub shape_of-out : goal.shape_of-out
shape_of-out c =
    omega (arith, c.put_pair.auto, c.put_text-f.auto, c.put_members-e.auto, c.put_text-d.auto, c.put_members-c.auto, c.put_text-b.auto, c.put_call-a.auto)

pub returns : goal.returns
returns c =
    win_put _ c.win_at-w.ensures c.put_call-a.ensures c.put_text-b.ensures (members_put _ _ _ _ _ c.put_members-c.ensures) c.put_text-d.ensures (members_put _ _ _ _ _ c.put_members-e.ensures) c.put_text-f.ensures c.put_pair.ensures
