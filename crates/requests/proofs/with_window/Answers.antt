-- `requests::with_window` meets its contract: the function's columns, then the parts', then the keys'. Assumes nothing.
use Rattle.cpl.specs.Exprs.{win_exprs}
use Rattle.requests.proofs.Adding.{adds_then}
use Rattle.requests.proofs.Lists.{keys-roots}
use Rattle.requests.proofs.with_window.Goals as goal

pub returns : goal.returns
unfolding win_exprs
returns c =
    rw (c.win_at-w.ensures.means c.args.cells.now) (adds_then _ _ c.with_call-s.ensures (adds_then _ _ c.with_roots-t.ensures (rw (keys-roots _ _ _ _) c.with_roots.ensures)))
