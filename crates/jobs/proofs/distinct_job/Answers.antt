-- `jobs::distinct_job` meets its contract: a law of `Plain`. Assumes nothing.
use Rattle.jobs.proofs.Plain.{distinct-one, row-long}
use Rattle.jobs.proofs.distinct_job.Goals as goal

pub returns : goal.returns
returns c =
    λ key. distinct-one c.args.input.now.width (row-long c.args.input.now.fields.now c.args.input.now.first c.args.input.now.width) c.new_for_all_exprs.ensures c.through.ensures
