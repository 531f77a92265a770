-- `read_field` meets its contract. Assumes nothing.
use Rattle.reader_parts.proofs.Parts.{field-took}
use Rattle.reader_parts.proofs.read_field.Goals as goal

pub returns : goal.returns
returns c =
    field-took _ _ _ _ c.requires.0 c.in_ok-pair.ensures.0 c.put_row.ensures
