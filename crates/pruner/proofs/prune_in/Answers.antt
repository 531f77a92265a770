-- `pruner::prune_in` meets its contract: refused for its settings, or answered in arrays that are long enough for every file. Assumes nothing.
use Rattle.acceptance.proofs.Rooms.{wide_room}
use Rattle.acceptance.proofs.Ways.{are_bytes}
use Rattle.intake.specs.Intake.{wanted}
use Rattle.pruner.proofs.Ends.{refused_settings}
use Rattle.pruner.proofs.Entries.{promised}
use native.Mathlib.Omega.{arith}
use Rattle.pruner.proofs.prune_in.Goals as goal

pub returns-in-Err : goal.returns-in-Err
returns-in-Err c =
    let w = promised _ _ _ (wanted c.args.all c.args.request.now) _ (are_bytes _ (λ i. omega (arith, c.type_inv.file i))) (refused_settings _ _ _ _ _ _ (rw c.in-Err.is at c.settings_of.ensures)) in
    rw c.from.ensures (record { answer_is = w.0; promised = w.1 })

pub prune_over-requires : goal.prune_over-requires
prune_over-requires c =
    λ cells nodes names widths keys a b d e f. wide_room _ a b d e f c.prune_over-arg-3-1.given.0.1 c.prune_over-arg-6-1.given.0.1

pub returns : goal.returns
returns c =
    let w = promised _ _ _ (wanted c.args.all c.args.request.now) _ (are_bytes _ (λ i. omega (arith, c.type_inv.file i))) (c.prune_over.ensures _ _ (rw c.in-Ok.is at c.settings_of.ensures)) in
    rw c.from-2.ensures (record { answer_is = w.0; promised = w.1 })
