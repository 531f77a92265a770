-- `verdicts::node_resolved` meets its contract, kind by kind. Assumes nothing.
use Rattle.verdicts.proofs.References.{passes_at}
use Rattle.cpl.specs.Accept.{each_passes}
use Rattle.cpl.specs.Exprs.{unary_exprs}
use Rattle.lookup.specs.Answers.{resolving}
use Rattle.lookup.specs.Fields.{left_row, right_row}
use Rattle.parts.proofs.Exprs.{items_exprs, items-roots, keys_exprs, keys-roots, seen_append, seen_one}
use mathlib.Core.Path.{◌∙◌, ap}
use Rattle.verdicts.proofs.node_resolved.Goals as goal

pub resolve_roots-requires : goal.resolve_roots-requires
resolve_roots-requires c = record { each_ok = items-roots (rw c.in-Projection.is at c.requires.parts_ok); row_clear = c.requires.sides_clear.left_clear }

pub resolve_expr-requires : goal.resolve_expr-requires
resolve_expr-requires c = record { wf = rw c.in-Filter.is at c.requires.parts_ok; row_clear = c.requires.sides_clear.left_clear }

pub resolve_roots-requires-in-Sort : goal.resolve_roots-requires-in-Sort
resolve_roots-requires-in-Sort c = record { each_ok = keys-roots (rw c.in-Sort.is at c.requires.parts_ok); row_clear = c.requires.sides_clear.left_clear }

pub resolve_roots-keys-requires : goal.resolve_roots-keys-requires
resolve_roots-keys-requires c = record { each_ok = items-roots (rw c.in-Aggregate.is at c.requires.parts_ok).0; row_clear = c.requires.sides_clear.left_clear }

pub resolve_aggs-calls-requires : goal.resolve_aggs-calls-requires
resolve_aggs-calls-requires c = record { each_ok = (rw c.in-Aggregate.is at c.requires.parts_ok).1; row_clear = c.requires.sides_clear.left_clear }

pub resolve_wins-requires : goal.resolve_wins-requires
resolve_wins-requires c = record { all_at = rw c.in-Window.is at c.requires.parts_ok; row_clear = c.requires.sides_clear.left_clear }

pub join_resolved-requires : goal.join_resolved-requires
join_resolved-requires c = record { parts_ok = rw c.in-Join.is at c.requires.parts_ok; sides_clear = c.requires.sides_clear }

pub resolve_roots-requires-in-Scan : goal.resolve_roots-requires-in-Scan
resolve_roots-requires-in-Scan c = record { each_ok = (rw c.in-Scan.is at c.requires.parts_ok).1; row_clear = c.requires.sides_clear.left_clear }

pub returns-in-Projection : goal.returns-in-Projection
unfolding unary_exprs
returns-in-Projection c =
    c.resolve_roots.ensures ∙ ap (λ es. resolving (each_passes es (left_row c.args.fields.now c.args.sides))) (items_exprs _ _ _ _ (rw c.in-Projection.is at c.requires.parts_ok)) ∙ passes_at c.args.cells.now c.args.rows.now (left_row c.args.fields.now c.args.sides) (right_row c.args.fields.now c.args.sides) c.in-Projection.is

pub returns-in-Filter : goal.returns-in-Filter
unfolding unary_exprs
returns-in-Filter c =
    c.resolve_expr.ensures ∙ seen_one (left_row c.args.fields.now c.args.sides) _ ∙ passes_at c.args.cells.now c.args.rows.now (left_row c.args.fields.now c.args.sides) (right_row c.args.fields.now c.args.sides) c.in-Filter.is

pub returns-in-Sort : goal.returns-in-Sort
unfolding unary_exprs
returns-in-Sort c =
    c.resolve_roots-in-Sort.ensures ∙ ap (λ es. resolving (each_passes es (left_row c.args.fields.now c.args.sides))) (keys_exprs _ _ _ _) ∙ passes_at c.args.cells.now c.args.rows.now (left_row c.args.fields.now c.args.sides) (right_row c.args.fields.now c.args.sides) c.in-Sort.is

pub returns-in-Aggregate : goal.returns-in-Aggregate
unfolding unary_exprs
returns-in-Aggregate c =
    seen_append (left_row c.args.fields.now c.args.sides) _ _ (c.resolve_roots-keys.ensures ∙ ap (λ es. resolving (each_passes es (left_row c.args.fields.now c.args.sides))) (items_exprs _ _ _ _ (rw c.in-Aggregate.is at c.requires.parts_ok).0)) c.resolve_aggs-calls.ensures c.both_resolved.ensures ∙ passes_at c.args.cells.now c.args.rows.now (left_row c.args.fields.now c.args.sides) (right_row c.args.fields.now c.args.sides) c.in-Aggregate.is
