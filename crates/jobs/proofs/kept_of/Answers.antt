-- `jobs::kept_of` meets its contract: laws of `Kept`. Assumes nothing.
use Rattle.jobs.proofs.Kept.{kept_then, then_fits}
use Rattle.jobs.proofs.kept_of.Goals as goal

pub followed_by-requires : goal.followed_by-requires
followed_by-requires c =
    then_fits c.in-InputThen.is c.requires

pub returns-in-InputThen : goal.returns-in-InputThen
returns-in-InputThen c =
    kept_then c.in-InputThen.is c.followed_by.ensures
