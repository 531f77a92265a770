-- `writer_parts::write_call` meets its contract. Assumes nothing.
use native.Mathlib.Omega.{arith}
use Rattle.arena.specs.Cells.{expr_at}
use Rattle.writer_parts.proofs.Rows.{call_none, call_some}
use Rattle.writer_parts.proofs.Over.{so, start}
use mathlib.Core.Path.{refl, sym, ap}
use lib.ListN.{length}
use Rattle.writer_parts.proofs.write_call.Goals as goal

pub returns-then-f-eq0 : goal.returns-then-f-eq0
returns-then-f-eq0 c =
    so start (sym (call_none (expr_at c.args.cells.now c.args.root) c.args.f c.if-f-eq0.true)) refl

pub write_expr-requires : goal.write_expr-requires
write_expr-requires c = record { wf = c.requires.wf (omega arith); i_in_bounds = omega (arith, c.requires.root_in_bounds, ap length (call_some (expr_at c.args.cells.now c.args.root) c.args.f c.if-f-eq0.false)) }

pub returns : goal.returns
returns c =
    so c.write_expr.ensures (sym (call_some (expr_at c.args.cells.now c.args.root) c.args.f c.if-f-eq0.false)) refl
