-- `calls::list` meets its contract: the file, and its listing. Assumes nothing.
use Rattle.calls.proofs.Texts.{list-text, named}
use Rattle.calls.proofs.list.Goals as goal

pub returns : goal.returns
returns c = record { wrote = named (list-text c.args.input.now c.file_at-file.ensures) c.list_file.ensures.wrote; counts = c.list_file.ensures.counts }
