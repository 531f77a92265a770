-- `key_rows::pairs_of` meets its contract. The invariant: the first i pairs are those of the rows. Assumes nothing.
use Rattle.key_rows.proofs.Rows.{pairs-more, put_long}
use lib.ListN.{length}
use mathlib.Core.Path.{◌∙◌, ap}
use native.Mathlib.Omega.{arith}
use Rattle.key_rows.proofs.pairs_of.Goals as goal

pub loop-i-preserved : goal.loop-i-preserved
loop-i-preserved c =
    (omega (arith, c.loop-i-test.true), ap length c.put_key.ensures ∙ put_long _ _ _ _ ∙ c.loop-i.invariant.1, rw c.put_key.ensures (pairs-more _ (omega (arith, c.loop-i-test.true, c.requires, c.loop-i.invariant.1)) c.loop-i.invariant.2 c.on_at-row.ensures))
