-- `put` meets its contract. Assumes nothing.
use native.Mathlib.Omega.{arith}
use Rattle.std.proofs.Common.{[], ◌∷◌}
use Rattle.reader_fields.proofs.Sets.{sets_copied}
use Rattle.reader_fields.proofs.put.Goals as goal

pub returns : goal.returns
returns c =
    sets_copied _ _ _ _ (c.args.tag ∷ c.args.x ∷ c.args.y ∷ []) c.copy_from_slice.ensures.after (omega arith) (omega arith)
