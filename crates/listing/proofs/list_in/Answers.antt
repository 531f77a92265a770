-- `listing::list_in` meets its contract: refused, or listed. Assumes nothing.
use Rattle.acceptance.proofs.Rooms.{wide_room}
use Rattle.listing.proofs.Files.{listed, unlisted}
use Rattle.listing.proofs.Nodes.{listable}
use Rattle.listing.proofs.Puts.{counts}
use mathlib.Core.Path.{◌∙◌}
use native.Mathlib.Omega.{arith}
use Rattle.listing.proofs.list_in.Goals as goal

pub read_and_check-requires : goal.read_and_check-requires
read_and_check-requires c =
    wide_room _ c.read_and_check-arg-1.given.0.1 c.read_and_check-arg-3-1.given.0.1 c.read_and_check-arg-4-1.given.0.1 c.read_and_check-arg-6-1.given.0.1 c.read_and_check-arg-7-1.given.0.1 c.read_and_check-arg-2-1.given.0.1 c.read_and_check-arg-5-1.given.0.1

pub write_listing-requires : goal.write_listing-requires
write_listing-requires c =
    let p = (rw c.in-Ok.is at c.read_and_check.ensures).plan in (
      listable p.tree (c.read_and_check.auto.widths ∙ c.read_and_check-arg-6-1.given.0.1),
      omega (arith, p.tree.few),
    )

pub returns-in-Ok : goal.returns-in-Ok
returns-in-Ok c = record { wrote = listed (rw c.in-Ok.is at c.read_and_check.ensures) c.write_listing.ensures; counts = counts c.write_listing.ensures c.write_listing.auto.out }

pub returns-in-Err : goal.returns-in-Err
returns-in-Err c = record {
  wrote = unlisted (rw c.in-Err.is at c.read_and_check.ensures) c.code.ensures c.write_refused.ensures;
  counts = counts c.write_refused.ensures c.write_refused.auto.out;
}
