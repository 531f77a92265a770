-- `writer_parts::put` meets its contract: each width by its own writer. Assumes nothing.
use native.Mathlib.Omega.{arith}
use Rattle.writer_parts.proofs.Over.{put_one}
use Rattle.writer_parts.proofs.put.Goals as goal

pub returns-in-1 : goal.returns-in-1
returns-in-1 c =
    rw c.in-1.is (put_one _ _ (omega arith))

pub returns-in-2 : goal.returns-in-2
returns-in-2 c =
    rw c.in-2.is c.put_two.ensures

pub returns-in-3 : goal.returns-in-3
returns-in-3 c =
    rw c.in-3.is c.put_three.ensures

pub returns-in-4 : goal.returns-in-4
returns-in-4 c =
    rw c.in-4.is c.put_four.ensures

pub returns-in-5 : goal.returns-in-5
returns-in-5 c =
    rw c.in-5.is c.put_five.ensures

pub returns-in-8 : goal.returns-in-8
returns-in-8 c =
    rw c.in-8.is c.put_eight.ensures
