-- One name for all definitions that run, those of cpl with them: a proof by computation says `unfolding rules_computes`.
use Rattle.std.proofs.Math.Bool.{decide}
use Rattle.std.proofs.Math.Decide.{ℕ_discrete}
use Rattle.cpl.specs.Computes.{cpl_computes}
use Rattle.rules.specs.Mask.{select, or_m, ones, zeros, count_m}
use Rattle.rules.specs.Keys.{field_place, places_of, is_place, has_all, first_at, carried, declared, leaf_key, unary_key, key_of, is_key_place, kept_groups}
use Rattle.rules.specs.Request.{fault_from, request_fault, mask_of, indices_from}
use Rattle.rules.specs.Merge.{in_z, z_d, expr_d, item_d, eq_items, plain, occurs, occurs_in, pushes, held, uses_none, def_of, replace, define, item, replace_item, drops_child, merge_step}
use Rattle.rules.specs.Rules.{top_up, used, plus, same_columns, over_child, leaf_rule, leaf_kept, projection_job, aggregate_job, window_job, unary_job, left_part, right_part, join_exprs, left_ask, right_ask, binary_kept}
use Rattle.rules.specs.Rewrite.{input, run_job, pend, too_long, measured, merged, leaf_walk, node_walk, unary_walk, binary_walk, walk}
use Rattle.rules.specs.Answer.{settings_ok, merge_of, large, finish, requested, checked, judged, verdict, refusal, success, written, deliver, reply}
use Rattle.rules.specs.Scans.{leaf_scans, scans, numbered, scans_of, job_scans, pend_scans, merged_scans, leaf_left, items_of, unary_scans, binary_scans, walk_scans, leaf_columns, survives, reads_at}
use Rattle.rules.specs.Samples.{asked, Right, samples}
use Rattle.rules.specs.Samples2.{Right2, samples2}

unfoldable pub rules_computes : Unit {0}
unfolding cpl_computes ℕ_discrete decide select or_m ones zeros count_m field_place places_of is_place has_all first_at carried declared leaf_key unary_key key_of is_key_place kept_groups fault_from request_fault mask_of in_z z_d expr_d item_d eq_items plain occurs occurs_in pushes held uses_none def_of replace define item replace_item drops_child merge_step top_up used plus same_columns over_child leaf_rule leaf_kept projection_job aggregate_job window_job unary_job left_part right_part join_exprs left_ask right_ask binary_kept input run_job pend too_long measured merged leaf_walk node_walk unary_walk binary_walk walk settings_ok merge_of large finish requested checked judged verdict refusal success written deliver reply leaf_scans scans numbered scans_of job_scans pend_scans merged_scans leaf_left items_of unary_scans binary_scans walk_scans leaf_columns survives reads_at asked Right samples Right2 samples2
rules_computes = tt
