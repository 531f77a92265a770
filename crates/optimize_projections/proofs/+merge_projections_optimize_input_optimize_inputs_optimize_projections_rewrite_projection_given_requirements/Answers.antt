-- The proof of the cycle of calls. The measure is four times the number of nodes from the node on, and a little for what is still to be done at it.
-- Assumes nothing.
use mathlib.Core.Path.{refl, sym, ◌∙◌}
use Rattle.std.proofs.lemmas.Result.{err_from_is_err_and}
use Rattle.optimize_projections.proofs.Inputs.{first-before, first_too_large, leaf-after, nothing-after, one_after, one-before, one_large, right_above, same_after, same-before, same_large, second-before, second_too_large, topped_put, two-after}
use Rattle.optimize_projections.proofs.Nodes.{inputs-before, inputs-left, node_put, other, other-asked}
use Rattle.optimize_projections.proofs.Merges.{down_after, down_before, file_list, load_after, lower_reads, other_after, over-large, stop_after}
use Rattle.optimize_projections.proofs.Lists.{copies_large, input-before, input_fields, list_put, request_within, top-fields}
use Rattle.requests.proofs.Rows.{row_below}
use native.Mathlib.Omega.{arith}
use Rattle.optimize_projections.proofs.+merge_projections_optimize_input_optimize_inputs_optimize_projections_rewrite_projection_given_requirements.Goals as goal

pub merge_projections-returns-in_default : goal.merge_projections-returns-in_default
merge_projections-returns-in_default t c =
    other_after _ c.node_at.ensures.is (other c.node_at.result c.in_default.not-Projection) c.rewrite_projection_given_requirements.ensures

pub merge_projections-merge_step-requires-clause-reads : goal.merge_projections-merge_step-requires-clause-reads
merge_projections-merge_step-requires-clause-reads t c =
    lower_reads c.requires.standing _ c.requires.within _ _ (sym c.in-Projection.is ∙ c.node_at.ensures.is) c.requires.items

pub merge_projections-returns-in_err-step : goal.merge_projections-returns-in_err-step
merge_projections-returns-in_err-step t c =
    let p = err_from_is_err_and c.from_residual.result c.from_residual.ensures.1 in rw p.1 (over-large _ _ _ (sym c.in-Projection.is ∙ c.node_at.ensures.is) c.in_err-step.ensures)

pub merge_projections-merge_projections-requires : goal.merge_projections-merge_projections-requires
merge_projections-merge_projections-requires t c = (
  omega (arith, c.decreases, c.requires.within, c.requires.standing.tree.few),
  down_before _ _ _ (sym c.in-Projection.is ∙ c.node_at.ensures.is) _ _ _ (rw c.in-Same.is at c.in_ok-step.ensures) refl c.requires.list c.requires,
)

pub merge_projections-merge_projections-requires-in-Merged : goal.merge_projections-merge_projections-requires-in-Merged
merge_projections-merge_projections-requires-in-Merged t c =
    let d = rw c.in-Merged.is at c.in_ok-step.ensures in (
      omega (arith, c.decreases, c.requires.within, c.requires.standing.tree.few),
      down_before _ _ _ (sym c.in-Projection.is ∙ c.node_at.ensures.is) _ _ _ d.0 refl (record { rows_ok = d.1.rows_ok; tags = d.1.few; few = c.requires.list.few }) c.requires,
    )

pub merge_projections-returns-in-Same : goal.merge_projections-returns-in-Same
merge_projections-returns-in-Same t c =
    down_after _ _ _ (sym c.in-Projection.is ∙ c.node_at.ensures.is) _ _ _ (rw c.in-Same.is at c.in_ok-step.ensures) refl c.requires.list c.merge_projections.ensures

pub merge_projections-returns-in-Merged : goal.merge_projections-returns-in-Merged
merge_projections-returns-in-Merged t c =
    let d = rw c.in-Merged.is at c.in_ok-step.ensures in
    down_after _ _ _ (sym c.in-Projection.is ∙ c.node_at.ensures.is) _ _ _ d.0 refl (record { rows_ok = d.1.rows_ok; tags = d.1.few; few = c.requires.list.few }) c.merge_projections-in-Merged.ensures

pub merge_projections-returns-in-Stop : goal.merge_projections-returns-in-Stop
merge_projections-returns-in-Stop t c =
    stop_after _ _ _ (sym c.in-Projection.is ∙ c.node_at.ensures.is) (rw c.in-Stop.is at c.in_ok-step.ensures) c.rewrite_projection_given_requirements-in-Stop.ensures

pub optimize_input-returns : goal.optimize_input-returns
optimize_input-returns t c =
    topped_put _ _ _ _ c.optimize_projections-w.ensures c.top_up.ensures

pub optimize_inputs-optimize_input-requires : goal.optimize_inputs-optimize_input-requires
optimize_inputs-optimize_input-requires t c =
    (omega (arith, c.decreases, c.requires.within, c.requires.standing.tree.few), same-before c.in-Same.is c.requires)

pub optimize_inputs-returns-in_err-w-in-Same : goal.optimize_inputs-returns-in_err-w-in-Same
optimize_inputs-returns-in_err-w-in-Same t c =
    let p = err_from_is_err_and c.from_residual.result c.from_residual.ensures.1 in rw p.1 (same_large _ c.in-Same.is c.in_err-w-in-Same.ensures)

pub optimize_inputs-optimize_input-requires-in-One : goal.optimize_inputs-optimize_input-requires-in-One
optimize_inputs-optimize_input-requires-in-One t c =
    (omega (arith, c.decreases, c.requires.within, c.requires.standing.tree.few), one-before _ c.in-One.is c.requires)

pub optimize_inputs-returns-in_err-w-in-One : goal.optimize_inputs-returns-in_err-w-in-One
optimize_inputs-returns-in_err-w-in-One t c =
    let p = err_from_is_err_and c.from_residual-in_err-w-in-One.result c.from_residual-in_err-w-in-One.ensures.1 in rw p.1 (one_large _ _ c.in-One.is c.in_err-w-in-One.ensures)

pub optimize_inputs-optimize_input-requires-in-Two : goal.optimize_inputs-optimize_input-requires-in-Two
optimize_inputs-optimize_input-requires-in-Two t c =
    (omega (arith, c.decreases, c.requires.within, c.requires.standing.tree.few), first-before _ c.in-Two.is c.requires)

pub optimize_inputs-returns-in_err-w-in-Two : goal.optimize_inputs-returns-in_err-w-in-Two
optimize_inputs-returns-in_err-w-in-Two t c =
    let p = err_from_is_err_and c.from_residual-in_err-w-in-Two.result c.from_residual-in_err-w-in-Two.ensures.1 in rw p.1 (first_too_large _ _ c.in-Two.is c.in_err-w-in-Two.ensures)

pub optimize_inputs-optimize_input-requires-in-Two-2 : goal.optimize_inputs-optimize_input-requires-in-Two-2
optimize_inputs-optimize_input-requires-in-Two-2 t c = (
  omega (arith, c.decreases, c.requires.within, c.requires.standing.tree.few, right_above _ c.in-Two.is c.requires),
  second-before _ _ c.in-Two.is c.in_ok-w-in-Two.ensures c.requires,
)

pub optimize_inputs-returns-in_err-v-in-Two : goal.optimize_inputs-returns-in_err-v-in-Two
optimize_inputs-returns-in_err-v-in-Two t c =
    let p = err_from_is_err_and c.from_residual-in_err-v-in-Two.result c.from_residual-in_err-v-in-Two.ensures.1 in rw p.1 (second_too_large _ _ c.in-Two.is c.in_ok-w-in-Two.ensures c.in_err-v-in-Two.ensures)

pub optimize_inputs-returns-in_ok-w-in-Same : goal.optimize_inputs-returns-in_ok-w-in-Same
optimize_inputs-returns-in_ok-w-in-Same t c =
    same_after _ c.in-Same.is c.one_input.ensures c.in_ok-w-in-Same.ensures

pub optimize_inputs-returns-in_ok-w-in-One : goal.optimize_inputs-returns-in_ok-w-in-One
optimize_inputs-returns-in_ok-w-in-One t c =
    one_after _ _ c.in-One.is c.one_input-in-One.ensures c.in_ok-w-in-One.ensures

pub optimize_inputs-returns-in_ok-v-in-Two : goal.optimize_inputs-returns-in_ok-v-in-Two
optimize_inputs-returns-in_ok-v-in-Two t c =
    two-after _ _ c.in-Two.is c.in_ok-w-in-Two.ensures c.in_ok-v-in-Two.ensures

pub optimize_inputs-returns-in-Leaf : goal.optimize_inputs-returns-in-Leaf
optimize_inputs-returns-in-Leaf t c =
    leaf-after _ c.in-Leaf.is _ c.no_input.ensures

pub optimize_inputs-returns-in-Nothing : goal.optimize_inputs-returns-in-Nothing
optimize_inputs-returns-in-Nothing t c =
    nothing-after _ c.in-Nothing.is _ c.no_input-in-Nothing.ensures

pub optimize_projections-merge_projections-requires : goal.optimize_projections-merge_projections-requires
optimize_projections-merge_projections-requires t c =
    (omega (arith, c.decreases, c.requires.within, c.requires.standing.tree.few), file_list _ _ _ _ (sym c.in-Projection.is ∙ c.node_at-node.ensures.is) c.requires)

pub optimize_projections-job_at-job-requires : goal.optimize_projections-job_at-job-requires
optimize_projections-job_at-job-requires t c =
    other-asked c.node_at-node.ensures.is (other c.node_at-node.result c.in_default.not-Projection) c.requires

pub optimize_projections-optimize_inputs-inputs-requires : goal.optimize_projections-optimize_inputs-inputs-requires
optimize_projections-optimize_inputs-inputs-requires t c =
    (omega (arith, c.decreases), inputs-before c.node_at-node.ensures.is (other c.node_at-node.result c.in_default.not-Projection) c.job_at-job.ensures c.requires)

pub optimize_projections-put_node-requires : goal.optimize_projections-put_node-requires
optimize_projections-put_node-requires t c =
    record { record_n_in_bounds = omega arith; left_for = inputs-left c.node_at-node.ensures.is (other c.node_at-node.result c.in_default.not-Projection) c.job_at-job.ensures c.requires }

pub optimize_projections-returns-in-Projection : goal.optimize_projections-returns-in-Projection
optimize_projections-returns-in-Projection t c =
    load_after _ _ _ _ (sym c.in-Projection.is ∙ c.node_at-node.ensures.is) c.merge_projections.ensures

pub optimize_projections-returns-in_default : goal.optimize_projections-returns-in_default
optimize_projections-returns-in_default t c =
    node_put c.node_at-node.ensures.is (other c.node_at-node.result c.in_default.not-Projection) c.job_at-job.ensures _ c.optimize_inputs-inputs.ensures _ c.put_node.ensures

pub rewrite_projection_given_requirements-get_at_indices-requires-clause-request_bound : goal.rewrite_projection_given_requirements-get_at_indices-requires-clause-request_bound
rewrite_projection_given_requirements-get_at_indices-requires-clause-request_bound t c =
    request_within c.requires

pub rewrite_projection_given_requirements-get_at_indices-requires-clause-below : goal.rewrite_projection_given_requirements-get_at_indices-requires-clause-below
rewrite_projection_given_requirements-get_at_indices-requires-clause-below t c =
    row_below c.requires.standing _ c.requires.within c.first_at-start.ensures c.width_at-width.ensures

pub rewrite_projection_given_requirements-returns-in_err-chosen : goal.rewrite_projection_given_requirements-returns-in_err-chosen
rewrite_projection_given_requirements-returns-in_err-chosen t c =
    let p = err_from_is_err_and c.from_residual.result c.from_residual.ensures.1 in rw p.1 (copies_large c.args.out.now.items.now c.args.out.now.icells.now _ c.in_err-chosen.ensures)

pub rewrite_projection_given_requirements-optimize_projections-w-requires : goal.rewrite_projection_given_requirements-optimize_projections-w-requires
rewrite_projection_given_requirements-optimize_projections-w-requires t c =
    (omega (arith, c.decreases), input-before _ _ _ (rw (c.first_at-start.ensures, c.width_at-width.ensures) at c.in_ok-chosen.ensures) c.requires)

pub rewrite_projection_given_requirements-put_list-requires-clause-fields_in : goal.rewrite_projection_given_requirements-put_list-requires-clause-fields_in
rewrite_projection_given_requirements-put_list-requires-clause-fields_in t c =
    rw (c.first_at-upper.ensures, c.width_at-wide.ensures) (top-fields c.requires)

pub rewrite_projection_given_requirements-put_list-requires-clause-fields_for : goal.rewrite_projection_given_requirements-put_list-requires-clause-fields_for
rewrite_projection_given_requirements-put_list-requires-clause-fields_for t c =
    rw (c.first_at-start.ensures, c.width_at-width.ensures) (input_fields _ _ _ (rw (c.first_at-start.ensures, c.width_at-width.ensures) at c.in_ok-chosen.ensures) _ _ c.optimize_projections-w.ensures c.requires)

pub rewrite_projection_given_requirements-returns : goal.rewrite_projection_given_requirements-returns
rewrite_projection_given_requirements-returns t c =
    list_put _ _ _ (rw (c.first_at-start.ensures, c.width_at-width.ensures) at c.in_ok-chosen.ensures) _ _ c.optimize_projections-w.ensures _ (rw (c.first_at-upper.ensures, c.width_at-wide.ensures, c.first_at-start.ensures, c.width_at-width.ensures) at c.put_list.ensures)
