-- One name for all definitions that run: a proof by computation says `unfolding cpl_computes`.
use Rattle.cpl.specs.Tests.{any_b, all_b, concat_map, sum_of, iota}
use Rattle.cpl.specs.Plan.{eq_p, item_pair, item_expr, key_expr, agg_pair, win_pair, on_left, on_right}
use Rattle.cpl.specs.Codes.{op1_tag, op1_of, op2_tag, op2_of, tag_of, signed, unsigned, fn_number, fn_of, join_number, join_of, bit}
use Rattle.cpl.specs.Exprs.{call_exprs, agg_exprs, win_exprs, cond_exprs, unary_exprs, fits, next, find, present, fitting, known, definite, found, places, references, columns?, expr_tags, item_tags, key_tags, agg_tags, win_tags, on_tags, unary_tags, binary_tags, plan_tags, plan_nodes, leaf_exprs, leaf_tags}
use Rattle.cpl.specs.Read.{little, field, value, is_not, nonzero, below, count, any, tag, node_tag, times, counted, index, fresh, times_after, counted_after}
use Rattle.cpl.specs.ReadExpr.{read_pair, read_column, read_literal, leaf_rest, expr_rest, expr_to, read_alias, read_bare, read_item, read_key, read_call, read_agg, read_win, read_on}
use Rattle.cpl.specs.ReadPlan.{fetch_of, read_limit, read_aggregate, read_cond, read_join, read_columns, read_scan, read_empty, read_head, read_inputs, plan_to, starts, read_mark, read_catalogue, read_end, read_source, read_table_key}
use Rattle.cpl.specs.Bytes.{bytes, counted_bytes, pair_bytes, expr_bytes, item_bytes, key_bytes, call_number, call_bytes, agg_bytes, win_bytes, on_bytes, cond_bytes, columns_bytes, fetch_number, leaf_bytes, unary_bytes, binary_bytes, plan_bytes, catalogue_bytes, bytes_of, table_key_bytes}
use Rattle.cpl.specs.Fields.{columns_of, scan_field, leaf_fields, requalify, unary_fields, join_fields, binary_fields, fields_of, table_fields, leaf_input}
use Rattle.cpl.specs.Accept.{half_named, conflict, clash, on_passes, binary_passes, even, together, ◌then◌, must, node_fault, check}

unfoldable pub cpl_computes : Unit {0}
unfolding any_b all_b concat_map sum_of iota eq_p item_pair item_expr key_expr agg_pair win_pair on_left on_right op1_tag op1_of op2_tag op2_of tag_of signed unsigned fn_number fn_of join_number join_of bit call_exprs agg_exprs win_exprs cond_exprs unary_exprs fits next find present fitting known definite found places references columns? expr_tags item_tags key_tags agg_tags win_tags on_tags unary_tags binary_tags plan_tags plan_nodes leaf_exprs leaf_tags little field value is_not nonzero below count any tag node_tag times counted index fresh times_after counted_after read_pair read_column read_literal leaf_rest expr_rest expr_to read_alias read_bare read_item read_key read_call read_agg read_win read_on fetch_of read_limit read_aggregate read_cond read_join read_columns read_scan read_empty read_head read_inputs plan_to starts read_mark read_catalogue read_end read_source read_table_key bytes counted_bytes pair_bytes expr_bytes item_bytes key_bytes call_number call_bytes agg_bytes win_bytes on_bytes cond_bytes columns_bytes fetch_number leaf_bytes unary_bytes binary_bytes plan_bytes catalogue_bytes table_key_bytes bytes_of columns_of scan_field leaf_fields table_fields leaf_input requalify unary_fields join_fields binary_fields fields_of half_named conflict clash on_passes binary_passes even together ◌then◌ must node_fault check
cpl_computes = tt
