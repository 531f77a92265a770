-- `writer_parts::put_at` meets its contract: the part that was lent came back with the bytes over its start. Assumes nothing.
use Rattle.writer_parts.proofs.Over.{laid}
use Rattle.writer_parts.proofs.put_at.Goals as goal

pub returns : goal.returns
returns c = laid c.args.at c.put.ensures
