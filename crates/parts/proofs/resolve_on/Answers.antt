-- `parts::resolve_on` meets its contract. Assumes nothing.
use Rattle.lookup.specs.Fields.{left_row, right_row}
use Rattle.parts.proofs.Exprs.{on_seen}
use Rattle.parts.proofs.resolve_on.Goals as goal

pub resolve_expr-a-requires : goal.resolve_expr-a-requires
resolve_expr-a-requires c = record { wf = c.on_at-on.ensures.left_node _ c.requires.on_ok; row_clear = c.requires.sides_clear.left_clear }

pub resolve_expr-b-requires : goal.resolve_expr-b-requires
resolve_expr-b-requires c = record { wf = c.on_at-on.ensures.right_node _ c.requires.on_ok; row_clear = c.requires.sides_clear.right_clear }

pub returns : goal.returns
returns c =
    on_seen (left_row c.args.fields.now c.args.sides) c.args.cells.now (right_row c.args.fields.now c.args.sides) c.on_at-on.ensures c.resolve_expr-a.ensures c.resolve_expr-b.ensures c.both_resolved.ensures
