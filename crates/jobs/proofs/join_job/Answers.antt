-- `jobs::join_job` meets its contract: laws of `Inputs`. Assumes nothing.
use Rattle.arena.specs.Cells.{expr_at}
use Rattle.tree.specs.Rows.{ons_at}
use Rattle.tree.specs.Tree.{if?}
use Rattle.lookup.specs.Fields.{fields_of}
use Rattle.jobs.proofs.Plain.{row-long}
use Rattle.jobs.proofs.Inputs.{join_able, join-two}
use Rattle.jobs.proofs.join_job.Goals as goal

pub join_kept-kept-requires : goal.join_kept-kept-requires
join_kept-kept-requires c =
    join_able c.args.j.join_type (ons_at c.args.rows.now c.args.cells.now c.args.j.first c.args.j.n) (if? c.args.j.has_filter (expr_at c.args.cells.now c.args.j.filter))
    (fields_of c.args.left.now) (fields_of c.args.right.now) (row-long c.args.left.now.fields.now c.args.left.now.first c.args.left.now.width)
    c.split_join_requirements-split.ensures c.side_ask-ask.ensures c.side_ask-second.ensures c.requires.posed_two.1

pub returns : goal.returns
returns c =
    join-two c.args.j.join_type (ons_at c.args.rows.now c.args.cells.now c.args.j.first c.args.j.n) (if? c.args.j.has_filter (expr_at c.args.cells.now c.args.j.filter))
    (fields_of c.args.left.now) (fields_of c.args.right.now) (row-long c.args.left.now.fields.now c.args.left.now.first c.args.left.now.width)
    c.split_join_requirements-split.ensures c.side_ask-ask.ensures c.side_ask-second.ensures _ _ c.join_kept-kept.ensures
