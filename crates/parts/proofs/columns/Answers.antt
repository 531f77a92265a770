-- `parts::columns` meets its contract. Assumes nothing.
use mathlib.Core.Path.{◌∙◌}
use Rattle.parts.proofs.Tables.{table-length}
use Rattle.parts.proofs.columns.Goals as goal

pub returns : goal.returns
returns c =
    c.from.ensures ∙ table-length c.args.names.now c.args.t c.requires
