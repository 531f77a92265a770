-- `arena_build::push` meets its contract. Assumes nothing.
use mathlib.Core.Path.{refl}
use native.Mathlib.Omega.{arith}
use Rattle.arena_build.specs.Build.{put_node}
use Rattle.arena_build.proofs.push.Goals as goal

pub returns : goal.returns
unfolding put_node
returns c = record { room = omega arith; node_is = refl; more_is = refl; stored = refl }
