-- `text_put::put_pair` meets its contract. Assumes nothing.
use Rattle.text_put.proofs.Laws.{pair-bare, pair-qualified}
use native.Mathlib.Omega.{arith}
use Rattle.text_put.proofs.put_pair.Goals as goal

pub returns-then-q-eq0 : goal.returns-then-q-eq0
returns-then-q-eq0 c =
    pair-bare _ _ c.if-q-eq0.true c.put_text-a.ensures (rw c.from.ensures at c.put_number.ensures)

pub returns : goal.returns
returns c =
    pair-qualified _ _ (omega (arith, c.if-q-eq0.false)) c.put_text-a-2.ensures (rw c.from-2.ensures at c.put_number-b.ensures) c.put_text-c.ensures
    (rw c.from-3.ensures at c.put_number-2.ensures)
