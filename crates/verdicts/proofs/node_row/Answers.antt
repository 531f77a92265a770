-- `verdicts::node_row` meets its contract, kind by kind. Assumes nothing.
use Rattle.verdicts.proofs.Given.{aggs_pairs, fields_at, items-pairs, scan-fields, wins_pairs}
use Rattle.verdicts.proofs.Rowed.{row_same, rowed_is}
use Rattle.cpl.specs.Fields.{binary_fields, leaf_fields, unary_fields}
use Rattle.lookup.specs.Fields.{left_row, right_row}
use Rattle.tree.specs.Rows.{columns_at}
use mathlib.Core.List.{◌++◌}
use mathlib.Core.Logic.{inl, inr}
use mathlib.Core.Path.{◌∙◌, ap}
use Rattle.verdicts.proofs.node_row.Goals as goal

pub window_row-requires : goal.window_row-requires
window_row-requires c = record { sides_ready = c.requires.sides_ready; all_at = rw c.in-Window.is at c.requires.node_inside }

pub scan_row-requires : goal.scan_row-requires
scan_row-requires c = record { row_in = c.requires.sides_ready.room; scan_inside = rw c.in-Scan.is at c.requires.node_inside }

pub returns-in-Window : goal.returns-in-Window
unfolding unary_fields
returns-in-Window c =
    λ C cells nm. rowed_is c.window_row.ensures (ap ((left_row c.args.fields.now c.args.sides) ++◌) (wins_pairs c.args.rows.now cells _ _) ∙ fields_at C cells c.args.rows.now (left_row c.args.fields.now c.args.sides) (right_row c.args.fields.now c.args.sides) c.in-Window.is)

pub returns-in-Scan : goal.returns-in-Scan
returns-in-Scan c =
    λ C cells nm. rowed_is c.scan_row.ensures (scan-fields C _ _ _ c.in-Scan.s.given (columns_at c.args.rows.now c.in-Scan.s.first c.in-Scan.s.n) _ (rw c.in-Scan.is at nm) ∙ fields_at C cells c.args.rows.now (left_row c.args.fields.now c.args.sides) (right_row c.args.fields.now c.args.sides) c.in-Scan.is)

pub returns-in-Projection : goal.returns-in-Projection
unfolding unary_fields leaf_fields
returns-in-Projection c =
    λ C cells nm. elim c.in-Projection.is [
      | inl e ↦ rowed_is c.pairs_row-in-Projection.ensures (items-pairs c.args.rows.now cells _ _ ∙ fields_at C cells c.args.rows.now (left_row c.args.fields.now c.args.sides) (right_row c.args.fields.now c.args.sides) e)
      | inr p ↦ rowed_is c.pairs_row-in-Projection.ensures (fields_at C cells c.args.rows.now (left_row c.args.fields.now c.args.sides) (right_row c.args.fields.now c.args.sides) p.1)
    ]

pub returns-in-Filter : goal.returns-in-Filter
unfolding unary_fields binary_fields
returns-in-Filter c =
    let w = row_same c.same_row.ensures c.requires.sides_ready.before_left c.requires.sides_ready.clear_left in
    λ C cells nm. elim c.in-Filter.is [
      | inl p ↦ rowed_is w (fields_at C cells c.args.rows.now (left_row c.args.fields.now c.args.sides) (right_row c.args.fields.now c.args.sides) p.1)
      | inr (inl p) ↦ rowed_is w (fields_at C cells c.args.rows.now (left_row c.args.fields.now c.args.sides) (right_row c.args.fields.now c.args.sides) p.2)
      | inr (inr (inl p)) ↦ rowed_is w (fields_at C cells c.args.rows.now (left_row c.args.fields.now c.args.sides) (right_row c.args.fields.now c.args.sides) p.2)
      | inr (inr (inr (inl p))) ↦ rowed_is w (fields_at C cells c.args.rows.now (left_row c.args.fields.now c.args.sides) (right_row c.args.fields.now c.args.sides) p.1)
      | inr (inr (inr (inr e))) ↦ rowed_is w (fields_at C cells c.args.rows.now (left_row c.args.fields.now c.args.sides) (right_row c.args.fields.now c.args.sides) e)
    ]

pub returns-in-Aggregate : goal.returns-in-Aggregate
unfolding unary_fields
returns-in-Aggregate c =
    λ C cells nm. rowed_is c.pairs_row.ensures (aggs_pairs c.args.rows.now cells _ _ _ ∙ fields_at C cells c.args.rows.now (left_row c.args.fields.now c.args.sides) (right_row c.args.fields.now c.args.sides) c.in-Aggregate.is)
