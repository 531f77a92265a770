-- `put_row` meets its contract. Assumes nothing.
use native.Mathlib.Omega.{arith}
use Rattle.std.proofs.Common.{[], ◌∷◌}
use Rattle.reader_fields.proofs.Sets.{sets_copied}
use Rattle.reader_parts.proofs.put_row.Goals as goal

pub returns : goal.returns
returns c =
    sets_copied _ _ _ _ (c.args.a ∷ c.args.b ∷ c.args.c ∷ c.args.d ∷ []) c.copy_from_slice.ensures.after (omega arith) (omega arith)
