-- `arena_build::put_row` meets its contract. Assumes nothing.
use mathlib.Core.Path.{refl}
use Rattle.arena_build.specs.Lists.{put_row}
use Rattle.arena_build.proofs.put_row.Goals as goal

pub returns : goal.returns
unfolding put_row
returns c = refl
