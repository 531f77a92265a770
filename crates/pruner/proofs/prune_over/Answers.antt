-- `pruner::prune_over` meets its contract: refused by the intake, or what the walk left is delivered. Assumes nothing.
use Rattle.std.proofs.lemmas.Result.{err_from_is_err_and}
use Rattle.acceptance.proofs.Ways.{are_bytes}
use Rattle.pruner.proofs.Ends.{answered, refused_early}
use Rattle.pruner.proofs.Plans.{keys_start, walkable}
use native.Mathlib.Omega.{arith}
use Rattle.pruner.proofs.prune_over.Goals as goal

pub take_in-requires : goal.take_in-requires
take_in-requires c =
    c.requires _ _ _ _ _ c.take_in-arg-1.given.0.1 c.take_in-arg-3-1.given.0.1 c.take_in-arg-4-1.given.0.1 c.take_in-arg-6-1.given.0.1 c.take_in-arg-7-1.given.0.1

pub returns-in_err-t : goal.returns-in_err-t
returns-in_err-t c =
    let p = err_from_is_err_and c.from_residual.result c.from_residual.ensures.1 in
    λ mode mask s. rw (p.1, p.2) (refused_early mode mask _ _ s.0 _ _ (rw c.in_err-t.was at c.take_in.ensures))

pub node_keys-requires : goal.node_keys-requires
node_keys-requires c =
    keys_start (rw c.in_ok-t.was at c.take_in.ensures) (omega (arith, c.told-keys, c.fits-keys))

pub walk_and_deliver-requires : goal.walk_and_deliver-requires
walk_and_deliver-requires c =
    walkable (rw c.in_ok-t.was at c.take_in.ensures) (are_bytes _ (λ i. omega (arith, c.type_inv.file i))) (omega (arith, c.told-keys, c.fits-keys)) c.node_keys.ensures

pub returns : goal.returns
returns c =
    let q = rw c.in_ok-t.was at c.take_in.ensures in
    let bytes = are_bytes c.args.file.now (λ i. omega (arith, c.type_inv.file i)) in
    λ mode mask s. answered mode mask _ _ s.0 _ _ q s.1 s.2 (c.walk_and_deliver.ensures (walkable q bytes (omega (arith, c.told-keys, c.fits-keys)) c.node_keys.ensures))
