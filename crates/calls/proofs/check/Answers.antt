-- `calls::check` meets its contract: the file, and the line of what is said of it. Assumes nothing.
use Rattle.calls.proofs.Texts.{check-text, named}
use Rattle.listing.proofs.Puts.{counts}
use Rattle.calls.proofs.check.Goals as goal

pub returns : goal.returns
returns c =
    let w = named (check-text c.args.input.now c.file_at-file.ensures c.from.ensures c.check-c.ensures) c.write_numbers.ensures.wrote in record { wrote = w; counts = counts w c.write_numbers.auto.out }
