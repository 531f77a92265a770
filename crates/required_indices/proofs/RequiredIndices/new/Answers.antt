-- `required_indices::RequiredIndices::new` meets its contract.
use mathlib.Core.Path.{refl}
use Rattle.required_indices.specs.Words.{number}
use Rattle.required_indices.proofs.RequiredIndices.new.Goals as goal

pub returns : goal.returns
unfolding number
returns c = record { set = refl; flag = refl }
