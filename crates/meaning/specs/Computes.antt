-- One name for all definitions that run, those of cpl and rules with them: a proof by computation says `unfolding meaning_computes`.
use Rattle.rules.specs.Computes.{rules_computes}
use Rattle.meaning.specs.Value.{eq_z, yes?, no?, missing?, truth, op1, if_present, op2, same, same_row}
use Rattle.meaning.specs.Eval.{value_at, lookup, eval, eval_all}
use Rattle.meaning.specs.Lists.{filter_b, firsts, page, around, or_else}
use Rattle.meaning.specs.Order.{before_value, before, insert, sort_by}
use Rattle.meaning.specs.Functions.{numbers, fold_from, fold, apply, call_over}
use Rattle.meaning.specs.Operators.{projection_rows, group_keys, members, agg_value, group_row, aggregate_rows, same_part, row_number, win_value, win_row, window_rows, unary_rows}
use Rattle.meaning.specs.Joins.{on_match, cond_match, matches, missings, left_major, right_major, join_rows, binary_rows}
use Rattle.meaning.specs.Meaning.{table_rows, row_at, empty_rows, passes, scan_rows, leaf_rows, meaning}
use Rattle.meaning.specs.Keyed.{share, filled}
use Rattle.meaning.specs.Reads.{filter_columns, leaf_reads, reads, row_count, column}

unfoldable pub meaning_computes : Unit {0}
unfolding rules_computes eq_z yes? no? missing? truth op1 if_present op2 same same_row value_at lookup eval eval_all filter_b firsts page around or_else before_value before insert sort_by numbers fold_from fold apply call_over projection_rows group_keys members agg_value group_row aggregate_rows same_part row_number win_value win_row window_rows unary_rows on_match cond_match matches missings left_major right_major join_rows binary_rows table_rows row_at empty_rows passes scan_rows leaf_rows meaning filter_columns leaf_reads reads row_count column share filled
meaning_computes = tt
