-- `predicate_writer::write_left` meets its contract. Assumes nothing.
use Rattle.predicate_writer.proofs.Ends.{no_room, nothing-length, nothing_written, something_length, something_written, written_out}
use borrow.Author.Tests.{eqb-true, eqb-false}
use mathlib.Core.Path.{sym}
use native.Mathlib.Omega.{arith}
use Rattle.predicate_writer.proofs.write_left.Goals as goal

pub returns-then-is_empty : goal.returns-then-is_empty
returns-then-is_empty c =
    let none = eqb-true _ 0 (sym c.if-is_empty.ensures) in
    rw c.in_default.is (no_room _ _ (sym nothing-length) (omega (arith, none)) c.new.ensures)

pub returns-in_default : goal.returns-in_default
returns-in_default c =
    let some = eqb-false _ 0 (sym c.if-is_empty.ensures) in
    rw c.in_default.is (written_out _ _ (omega (arith, c.put_at.ensures.long, some)) (nothing_written c.put_at.ensures))

pub returns-then-needed-out : goal.returns-then-needed-out
returns-then-needed-out c =
    rw c.in-Some.is (no_room _ _ (something_length _ c.expr_size-size.ensures.bytes_are) c.if-needed-out.true c.new-then-needed-out.ensures)

pub returns : goal.returns
returns c =
    rw c.in-Some.is (written_out _ _ (omega (arith, c.put_at-a.ensures.long, c.write_expr-m.ensures.long, c.expr_size-size.ensures.bytes_are, c.if-needed-out.false)) (something_written _ c.put_at-a.ensures c.write_expr-m.ensures))
