-- `parts::win_pairs` meets its contract: the fields so far, and those to come, are the list. Assumes nothing.
use Rattle.parts.proofs.Strides.{all_here, strode_all, strode_more, strode_none}
use mathlib.Core.Path.{◌∙◌}
use Rattle.parts.proofs.win_pairs.Goals as goal

pub loop-i-preserved : goal.loop-i-preserved
loop-i-preserved c =
    strode_more _ _ _ _ _ _ _ c.loop-i.invariant c.loop-i-test.true (c.put_field.ensures.j_after ∙ c.win_at-w.ensures.pair_is) c.put_field.ensures.kept c.win_at-w.ensures.next_is

pub loop-i-init : goal.loop-i-init
loop-i-init c =
    strode_none _ _ _ _ _ _ _ c.requires.1

pub win_at-w-requires : goal.win_at-w-requires
win_at-w-requires c =
    all_here _ _ _ _ _ c.loop-i.invariant.ok c.loop-i-test.true

pub returns : goal.returns
returns c =
    strode_all _ _ _ _ _ _ _ c.loop-i.invariant c.loop-i-test.false
