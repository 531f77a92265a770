-- `pruner::prune_made` meets its contract: refused for its settings, or answered in arrays that are made here. Assumes nothing.
use Rattle.std.proofs.lemmas.Result.{err_from_is_err_and}
use Rattle.acceptance.proofs.Rooms.{fitted_room}
use Rattle.pruner.proofs.Ends.{refused_settings}
use Prim.Native.Nat.{ℕ}
use lib.ListN.{length-replicate}
use Rattle.pruner.proofs.prune_made.Goals as goal

pub returns-in_err-settings : goal.returns-in_err-settings
returns-in_err-settings g c =
    let p = err_from_is_err_and c.from_residual.result c.from_residual.ensures.1 in
    rw (p.1, p.2) (refused_settings _ _ _ _ _ _ c.in_err-settings.ensures)

pub prune_over-requires : goal.prune_over-requires
prune_over-requires g c =
    λ cells nodes names widths keys a b d e f. fitted_room _ a b d e f c.requires.fits (length-replicate {A = ℕ} _ 0) (length-replicate {A = ℕ} _ 0)

pub returns : goal.returns
returns g c = c.prune_over.ensures _ _ c.in_ok-settings.ensures
