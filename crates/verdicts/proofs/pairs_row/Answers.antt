-- `verdicts::pairs_row` meets its contract. Assumes nothing.
use Rattle.verdicts.proofs.Rowed.{row_new, row-over}
use Rattle.arena.specs.Rows.{pair_at}
use Rattle.lookup.proofs.Lists.{list_length}
use Rattle.tree.specs.Rows.{one}
use mathlib.Core.Path.{sym}
use Rattle.verdicts.proofs.pairs_row.Goals as goal

pub returns-then-most-n : goal.returns-then-most-n
returns-then-most-n c =
    row-over c.over_row.ensures (sym (list_length (pair_at c.args.rows.now) one c.args.first c.args.n)) c.if-most-n.true

pub returns : goal.returns
returns c =
    row_new c.put_row.ensures c.if-most-n.false c.take_pairs.ensures
