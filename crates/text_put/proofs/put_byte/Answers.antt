-- `text_put::put_byte` meets its contract: in the buffer, behind its end, behind the last place. Assumes nothing.
use Rattle.text_put.proofs.Laws.{letter_at, letter_behind}
use native.Mathlib.Omega.{arith}
use Rattle.text_put.proofs.put_byte.Goals as goal
use Rattle.text_put.proofs.put_byte.Goals.{then-at-out, else-at-out}

pub returns : goal.returns
returns c =
    elim c.if-at-out.branch [
      | then-at-out w ↦ rw w.out-is (letter_at _ c.saturating_add.ensures (omega arith))
      | else-at-out w ↦ rw w.out-is (letter_behind _ c.saturating_add.ensures (omega arith) (omega (arith, w.if-at-out.false)))
    ]
