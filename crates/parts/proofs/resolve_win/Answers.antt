-- `parts::resolve_win` meets its contract. Assumes nothing.
use Rattle.parts.proofs.Exprs.{keys-roots, win_seen}
use Rattle.parts.proofs.resolve_win.Goals as goal

pub resolve_call-call-requires : goal.resolve_call-call-requires
resolve_call-call-requires c = record { wf = c.win_at-w.ensures.node _ c.requires.win_ok; row_clear = c.requires.row_clear }

pub resolve_roots-parts-requires : goal.resolve_roots-parts-requires
resolve_roots-parts-requires c = record { each_ok = c.win_at-w.ensures.parts _ c.requires.win_ok; row_clear = c.requires.row_clear }

pub resolve_roots-keys-requires : goal.resolve_roots-keys-requires
resolve_roots-keys-requires c = record { each_ok = keys-roots (c.win_at-w.ensures.keys _ c.requires.win_ok); row_clear = c.requires.row_clear }

pub returns : goal.returns
returns c =
    win_seen _ _ c.win_at-w.ensures c.resolve_call-call.ensures c.resolve_roots-parts.ensures c.resolve_roots-keys.ensures c.both_resolved-rest.ensures c.both_resolved.ensures
