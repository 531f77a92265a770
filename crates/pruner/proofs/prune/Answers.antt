-- `pruner::prune` meets its contract: refused for its settings, or a request of these fields, in arrays for the file. Assumes nothing.
use Prim.Native.Nat.{ℕ}
use Rattle.acceptance.proofs.Rooms.{narrow_fits, wide_fits}
use Rattle.acceptance.proofs.Ways.{are_bytes}
use Rattle.pruner.proofs.Ends.{refused_settings}
use Rattle.pruner.proofs.Entries.{of_these, promised}
use native.Mathlib.Omega.{arith}
use Rattle.pruner.proofs.prune.Goals as goal

pub returns-in-Err : goal.returns-in-Err
returns-in-Err c =
    let w = promised _ _ _ (λ (width : ℕ). c.args.request.now) _ (are_bytes _ (λ i. omega (arith, c.type_inv.file i))) (refused_settings _ _ _ _ _ _ (rw c.in-Err.is at c.settings_of.ensures)) in
    rw c.from.ensures (record { answer_is = w.0; promised = w.1 })

pub prune_made-requires : goal.prune_made-requires
prune_made-requires c = record { fits = narrow_fits _ (c.is_narrow.ensures c.if-is_narrow.true); few = omega arith }

pub prune_made-requires-2 : goal.prune_made-requires-2
prune_made-requires-2 c = record { fits = wide_fits _; few = omega arith }

pub returns-then-is_narrow : goal.returns-then-is_narrow
returns-then-is_narrow c =
    let w = of_these _ _ _ _ _ (promised _ _ _ _ _ (are_bytes _ (λ i. omega (arith, c.type_inv.file i))) c.prune_made.ensures) in
    rw c.from-then-is_narrow.ensures (record { answer_is = w.0; promised = w.1 })

pub returns : goal.returns
returns c =
    let w = of_these _ _ _ _ _ (promised _ _ _ _ _ (are_bytes _ (λ i. omega (arith, c.type_inv.file i))) c.prune_made-2.ensures) in
    rw c.from-2.ensures (record { answer_is = w.0; promised = w.1 })
