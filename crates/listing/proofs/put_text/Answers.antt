-- `listing::put_text` meets its contract. Assumes nothing.
use Rattle.listing.proofs.Puts.{copied}
use Rattle.listing.proofs.put_text.Goals as goal

pub returns : goal.returns
returns c = copied c.args.at c.args.s.now c.copy_from_slice.ensures.after
