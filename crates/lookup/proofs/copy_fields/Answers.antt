-- `lookup::copy_fields` meets its contract: the library copies the numbers of the fields. Assumes nothing.
use native.Mathlib.Omega.{arith}
use Rattle.lookup.proofs.Rows.{copied}
use Rattle.lookup.proofs.copy_fields.Goals as goal

pub returns : goal.returns
returns c =
    copied c.args.to c.args.from c.args.width _ (omega arith) c.copy_within.ensures.len c.copy_within.ensures.by_index.0 c.copy_within.ensures.by_index.1 c.copy_within.ensures.by_index.2
