-- `calls::list_file` meets its contract: the refusal, or the listing. Assumes nothing.
use Rattle.calls.proofs.Listings.{file_listed, file_refused}
use Rattle.calls.proofs.Texts.{named}
use Rattle.calls.proofs.list_file.Goals as goal

pub returns-then-c-gt0 : goal.returns-then-c-gt0
returns-then-c-gt0 c = record { wrote = named (file_refused _ c.check-c.ensures c.if-c-gt0.true) c.write_answer.ensures.wrote; counts = c.write_answer.ensures.counts }

pub returns : goal.returns
returns c = record { wrote = named (file_listed _ c.check-c.ensures c.if-c-gt0.false c.list-n.ensures.wrote) c.write_answer-2.ensures.wrote; counts = c.write_answer-2.ensures.counts }
