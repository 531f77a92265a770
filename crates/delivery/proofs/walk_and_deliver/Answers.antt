-- `delivery::walk_and_deliver` meets its contract: what the walk left is too large, or is written out. Assumes nothing.
use Rattle.delivery.proofs.Ends.{done-ends, large-ends, refuses_by, writes}
use Rattle.delivery.proofs.Walks.{handed_on, walk-starts}
use borrow.Author.Rules.{rules}
use Rattle.delivery.proofs.walk_and_deliver.Goals as goal

pub optimize_projections-walked-requires : goal.optimize_projections-walked-requires
optimize_projections-walked-requires c =
    rw c.nothing_used-used.ensures (walk-starts c.requires (search rules) (search rules) (search rules))

pub write_out-requires : goal.write_out-requires
write_out-requires c =
    let a = rw c.nothing_used-used.ensures at c.in-Ok.ensures in
    record { start_in_bounds = c.requires.heads.inside; writes = writes (handed_on c.requires (search rules) (search rules) (search rules) a) }

pub returns-in-Ok : goal.returns-in-Ok
returns-in-Ok c =
    λ x.
    let a = rw c.nothing_used-used.ensures at c.in-Ok.ensures in
    let y = handed_on x (search rules) (search rules) (search rules) a in
    done-ends y _ (c.write_out.ensures (writes y))

pub returns-in-Err : goal.returns-in-Err
returns-in-Err c =
    λ x.
    let a = rw c.nothing_used-used.ensures at c.in-Err.ensures in
    large-ends _ (handed_on x (search rules) (search rules) (search rules) a) (refuses_by c.new.ensures)
