-- `arena_show::show_nodes` meets its contract. Assumes nothing.
use native.Mathlib.Omega.{arith}
use Rattle.arena.proofs.Laws.{wf_less}
use Rattle.arena_show.proofs.show_nodes.Goals as goal

pub show_node-requires : goal.show_node-requires
show_node-requires g c =
    wf_less _ _ _ (omega (arith, c.loop-i-test.true)) c.requires
