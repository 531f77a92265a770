-- `jobs::sort_job` meets its contract: a law of `Plain`. Assumes nothing.
use Rattle.requests.proofs.Lists.{keys-roots}
use Rattle.jobs.proofs.Plain.{sort-one}
use Rattle.jobs.proofs.sort_job.Goals as goal

pub returns : goal.returns
returns c =
    λ key. sort-one _ _ (keys-roots c.args.rows.now c.args.cells.now c.args.first c.args.n) c.with_roots-ask.ensures c.with_projection_beneficial.ensures c.through.ensures
