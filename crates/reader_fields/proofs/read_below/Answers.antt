-- `read_below` meets its contract. Assumes nothing.
use borrow.Author.Rules.{rules}
use Rattle.cpl.specs.Read.{below}
use Rattle.reader_fields.proofs.read_below.Goals as goal

pub returns : goal.returns
unfolding below
returns c = search rules
