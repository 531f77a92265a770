-- `tree::on_at` meets its contract. Assumes nothing.
use Rattle.tree.proofs.Parts.{on_is}
use Rattle.tree.proofs.on_at.Goals as goal

pub returns : goal.returns
returns c =
    on_is c.row_at-row.ensures c.from.ensures
