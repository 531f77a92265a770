-- `jobs::side_ask` meets its contract: laws of `Inputs`. Assumes nothing.
use Rattle.arena.specs.Cells.{expr_at}
use Rattle.tree.specs.Rows.{ons_at}
use Rattle.requests.proofs.Lists.{ons_left, ons_right}
use Rattle.jobs.proofs.Inputs.{sided_none, sided_some}
use Rattle.jobs.proofs.side_ask.Goals as goal
use Rattle.jobs.proofs.side_ask.Goals.{then-j, else-j}

pub returns : goal.returns
returns c =
    let os = ons_at c.args.rows.now c.args.cells.now c.args.j.first c.args.j.n in
    let e = expr_at c.args.cells.now c.args.j.filter in
    let flagged = c.with_projection_beneficial.ensures in
    elim c.if-j.branch [
      | then-j w ↦ sided_some os c.args.j.has_filter e (ons_left _ _ _ _) (ons_right _ _ _ _) c.with_roots-lefts.ensures c.with_roots-all.ensures w.if-j.true w.add_expr-all.ensures (rw w.all-is at flagged)
      | else-j w ↦ sided_none os c.args.j.has_filter e (ons_left _ _ _ _) (ons_right _ _ _ _) c.with_roots-lefts.ensures c.with_roots-all.ensures w.if-j.false (rw w.all-is at flagged)
    ]
