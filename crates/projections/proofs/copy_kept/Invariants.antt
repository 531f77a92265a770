-- `projections::copy_kept` meets its contract: the rows that are done are a `Listing`. Assumes nothing.
use Prim.Native.Nat.{◌-◌}
use Rattle.projections.proofs.Copying.{Copying}
use Rattle.projections.proofs.copy_kept.Given as goal

abbrev pub invariant-loop-i : goal.invariant-loop-i
invariant-loop-i l =
    Copying l.list.rows.now l.list.cells.now l.list.first l.list.count l.kept l.row l.initial.out_items l.initial.out_cells l.used l.from l.rows l.most l.out_items l.out_cells

abbrev pub decreases-loop-i : goal.decreases-loop-i
decreases-loop-i l = l.list.count - l.from
