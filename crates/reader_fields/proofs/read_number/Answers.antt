-- `read_number` meets its contract. Assumes nothing.
use native.Mathlib.Omega.{arith}
use Rattle.reader_fields.proofs.Laws.{field_cut, field-ok}
use Rattle.reader_fields.proofs.read_number.Goals as goal

pub returns-then-n-k : goal.returns-then-n-k
returns-then-n-k c =
    rw (c.new.ensures.0, c.new.ensures.1) (field_cut _ _ _ (omega arith))

pub returns : goal.returns
returns c =
    (field-ok _ _ _ (omega arith) c.number.ensures.0, c.number.ensures.1)
