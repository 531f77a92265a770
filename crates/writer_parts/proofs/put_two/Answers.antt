-- `writer_parts::put_two` meets its contract. Assumes nothing.
use Rattle.writer_parts.proofs.Over.{put_both}
use Rattle.writer_parts.proofs.put_two.Goals as goal

pub returns : goal.returns
returns c = put_both _ _ c.requires
