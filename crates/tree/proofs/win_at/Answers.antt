-- `tree::win_at` meets its contract. Assumes nothing.
use Rattle.tree.proofs.Parts.{win_is}
use Rattle.tree.proofs.win_at.Goals as goal

pub returns : goal.returns
returns c =
    win_is c.row_at-head.ensures c.row_at-row.ensures c.from-keys.ensures
