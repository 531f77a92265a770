-- `listing::run` meets its contract: the settings, the file behind them, and what is printed of both. Assumes nothing.
use Rattle.listing.proofs.Program.{program_printed}
use Rattle.listing.proofs.run.Goals as goal

pub returns-clause-wrote : goal.returns-clause-wrote
returns-clause-wrote c =
    program_printed c.args.input.now c.byte-mode.ensures c.mask_in-mask.ensures c.file_in.ensures c.write_answer.ensures.wrote
