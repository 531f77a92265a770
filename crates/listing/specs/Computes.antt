-- One name for all definitions of the text that run: a proof by computation says `unfolding rules_computes listing_computes`.
use Rattle.rules.specs.Check.{finding}
use Rattle.plan_text.specs.Decimal.{digits_to, decimal}
use Rattle.listing.specs.Text.{leaf_kind, unary_kind, binary_kind, kind_text, line_text, line_of, lines_of}
use Rattle.listing.specs.Text.{count_text, plan_text, refused_text, finding_text, list_text, mode_in, mask_in, file_in, answer_text, printed_text, program_text}

unfoldable pub lines_compute : Unit {0}
unfolding digits_to decimal leaf_kind unary_kind binary_kind kind_text line_text line_of lines_of count_text plan_text refused_text
lines_compute = tt

unfoldable pub listing_computes : Unit {0}
unfolding lines_compute finding finding_text list_text mode_in mask_in file_in answer_text printed_text program_text
listing_computes = tt
