-- `read_index` meets its contract. Assumes nothing.
use native.Mathlib.Omega.{arith}
use Rattle.reader_fields.proofs.Laws.{narrow}
use Rattle.reader_parts.proofs.Parts.{index-took}
use Rattle.reader_parts.proofs.read_index.Goals as goal

pub put_row-requires : goal.put_row-requires
put_row-requires c =
    omega (arith, narrow _ _ c.requires.2 c.in_ok-index.ensures.1.1, c.requires)

pub returns : goal.returns
returns c =
    index-took _ _ _ _ c.requires.0 _ _ c.in_ok-index.ensures.0.0 c.put_row.ensures
