-- `parts::resolve_wins` meets its contract: what the windows passed find is told. Assumes nothing.
use Rattle.cpl.specs.Exprs.{win_exprs}
use Rattle.lookup.specs.Fields.{fields_of}
use Rattle.parts.proofs.Exprs.{seen_concat}
use Rattle.parts.proofs.Strides.{all_here, all-next, told_all, told_more}
use mathlib.Core.Path.{◌∙◌}
use Rattle.parts.proofs.resolve_wins.Goals as goal

pub resolve_win-one-requires : goal.resolve_win-one-requires
resolve_win-one-requires c = record { win_ok = all_here _ _ _ _ _ c.loop.invariant.1 c.loop-test.true; row_clear = c.requires.row_clear }

pub loop-preserved : goal.loop-preserved
loop-preserved c =
    (told_more _ _ _ _ _ _ _ c.loop.invariant.0 _ c.loop-test.true c.resolve_win-one.ensures c.both_resolved-all.ensures c.win_at-w.ensures.next_is, all-next _ _ _ _ _ c.loop.invariant.1 c.loop-test.true c.win_at-w.ensures.next_is)

pub returns : goal.returns
returns c =
    told_all _ _ _ _ _ _ _ c.loop.invariant.0 c.loop-test.false ∙ seen_concat (fields_of c.args.schema.now) win_exprs _

pub win_at-w-requires : goal.win_at-w-requires
win_at-w-requires c =
    (all_here _ _ _ _ _ c.loop.invariant.1 c.loop-test.true).inside
