-- `put_node` meets its contract. Assumes nothing.
use native.Mathlib.Omega.{arith}
use Rattle.reader_fields.proofs.Sets.{sets_copied}
use Rattle.reader_heads.specs.Heads.{numbers}
use Rattle.reader.proofs.put_node.Goals as goal

pub returns : goal.returns
returns c =
    sets_copied _ _ _ _ (numbers c.args.t c.args.second c.args.row c.args.node) c.copy_from_slice.ensures.after (omega arith) (omega arith)
