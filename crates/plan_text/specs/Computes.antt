-- One name for all definitions that run: a proof by computation says `unfolding cpl_computes answers_compute`.
use Rattle.plan_text.specs.Decimal.{digits_to, decimal}
use Rattle.plan_text.specs.Write.{if, number, integer, more_text, members_text, list_text, pair_text, op1_text, op2_text, expr_text, item_text, key_text, fn_text, call_text, agg_text, win_text, on_text, cond_text, columns_text, filters_text, fetch_text, join_text, leaf_text, unary_text, binary_text, head_text}
use Rattle.plan_text.specs.Listing.{heads_of, indent, line_text, plan_text, listing}
use Rattle.plan_text.specs.ReadText.{eat, one_of, is_digit, digits, read_number, negative, read_integer, more_to, members_of, many_of}
use Rattle.plan_text.specs.ReadParts.{qualified, pair_or, read_pair, bracket, read_literal, expr_form, expr_to, read_expr, bare_of, read_item, read_key, read_call, read_agg, read_win, read_on, read_cond, read_columns, some_filters, read_filters, read_fetch, head_form, ended, read_head}
use Rattle.plan_text.specs.Lines.{onto, lines_of, indented, head_at, unfiltered, version1_head, short_head_at, headed, waiting, ending, or_broken, forms}
use Rattle.plan_text.specs.Sizes.{weigh, is_name, pair_asks, expr_asks, list_asks, some_asks, item_asks, key_asks, call_asks, agg_asks, win_asks, on_asks, cond_asks, fetch_asks, columns_asks, leaf_asks, unary_asks, binary_asks, head_asks, or_fault, size_fault}
use Rattle.plan_text.specs.Answers.{delivered, faultless, accepted, list_of, list_answer, read_mark1, read_tables, node_bytes, file_outcome, sized, lined, tabled, read_listing, read_answer}

unfoldable pub writing_computes : Unit {0}
unfolding digits_to decimal if number integer more_text members_text list_text pair_text op1_text op2_text expr_text item_text key_text fn_text call_text agg_text win_text on_text cond_text columns_text filters_text fetch_text join_text leaf_text unary_text binary_text head_text heads_of indent line_text plan_text listing
writing_computes = tt

unfoldable pub reading_computes : Unit {0}
unfolding eat one_of is_digit digits read_number negative read_integer more_to members_of many_of qualified pair_or read_pair bracket read_literal expr_form expr_to read_expr bare_of read_item read_key read_call read_agg read_win read_on read_cond read_columns some_filters read_filters read_fetch head_form ended read_head
reading_computes = tt

unfoldable pub answers_compute : Unit {0}
unfolding writing_computes reading_computes onto lines_of indented head_at unfiltered version1_head short_head_at headed waiting ending or_broken forms weigh is_name pair_asks expr_asks list_asks some_asks item_asks key_asks call_asks agg_asks win_asks on_asks cond_asks fetch_asks columns_asks leaf_asks unary_asks binary_asks head_asks or_fault size_fault delivered faultless accepted list_of list_answer read_mark1 read_tables node_bytes file_outcome sized lined tabled read_listing read_answer
answers_compute = tt
