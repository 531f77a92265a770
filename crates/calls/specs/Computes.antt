-- One name for all definitions of a call that run: a proof by computation says `unfolding keys_compute listing_computes calls_compute`.
use Rattle.rules.specs.Check.{numbers_of, check_file}
use Rattle.calls.specs.Calls.{file_in, count_in, request_in, out_in, spaced, joined, numbers_text, said, prune_text, prune_all_text, checked_text, check_text}
use Rattle.calls.specs.Calls.{join_keys_text, without_keys_text, listed, list_call_text, list_plan_text, no_text, entries, entry_text, call_text}

unfoldable pub calls_compute : Unit {0}
unfolding numbers_of check_file file_in count_in request_in out_in spaced joined numbers_text said prune_text prune_all_text checked_text check_text join_keys_text without_keys_text listed list_call_text list_plan_text no_text entries entry_text call_text
calls_compute = tt
