-- `writer_parts::call_size` meets its contract. Assumes nothing.
use native.Mathlib.Omega.{arith}
use Rattle.arena.specs.Cells.{expr_at}
use Rattle.writer_parts.proofs.Rows.{call_none, call_none_tags, call_some, call_some_tags}
use mathlib.Core.Path.{ap}
use lib.ListN.{length}
use Rattle.writer_parts.proofs.call_size.Goals as goal

pub returns-then-f-eq0 : goal.returns-then-f-eq0
returns-then-f-eq0 c =
    omega (arith, ap length (call_none (expr_at c.args.cells.now c.args.root) c.args.f c.if-f-eq0.true), call_none_tags (expr_at c.args.cells.now c.args.root) c.args.f c.if-f-eq0.true)

pub expr_size-requires : goal.expr_size-requires
expr_size-requires c = record { wf = c.requires.wf (omega arith); countable = omega (arith, c.requires.countable, ap length (call_some (expr_at c.args.cells.now c.args.root) c.args.f c.if-f-eq0.false), call_some_tags (expr_at c.args.cells.now c.args.root) c.args.f c.if-f-eq0.false) }

pub returns : goal.returns
returns c =
    omega (arith, c.expr_size.ensures, ap length (call_some (expr_at c.args.cells.now c.args.root) c.args.f c.if-f-eq0.false), call_some_tags (expr_at c.args.cells.now c.args.root) c.args.f c.if-f-eq0.false)
