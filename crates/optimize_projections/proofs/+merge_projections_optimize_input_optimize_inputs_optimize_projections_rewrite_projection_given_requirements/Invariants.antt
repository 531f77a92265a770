-- The proof of the cycle of calls. The measure is four times the number of nodes from the node on, and a little for what is still to be done at it.
-- Assumes nothing.
use Prim.Native.Nat.{◌+◌, ◌*◌, ◌-◌}
use Rattle.optimize_projections.proofs.+merge_projections_optimize_input_optimize_inputs_optimize_projections_rewrite_projection_given_requirements.Given as goal

abbrev pub decreases-merge_projections : goal.decreases-merge_projections
decreases-merge_projections l = 4 * (256 - l.k) + 3

abbrev pub decreases-optimize_input : goal.decreases-optimize_input
decreases-optimize_input l = 4 * (256 - l.k) + 2

abbrev pub decreases-optimize_inputs : goal.decreases-optimize_inputs
decreases-optimize_inputs l = 4 * (256 - l.k)

abbrev pub decreases-optimize_projections : goal.decreases-optimize_projections
decreases-optimize_projections l = 4 * (256 - l.k) + 1

abbrev pub decreases-rewrite_projection_given_requirements : goal.decreases-rewrite_projection_given_requirements
decreases-rewrite_projection_given_requirements l = 4 * (256 - l.k) + 2
