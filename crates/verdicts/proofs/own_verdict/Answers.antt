-- `verdicts::own_verdict` meets its contract: the tests in their order. Assumes nothing.
use Rattle.verdicts.proofs.Faults.{judged-bad, judged-fine, no_fault, seen_as, too_many, un-clear, un-definite, un-even, un-known}
use Rattle.verdicts.proofs.Given.{even_sides, rowed_since, together-join, together-own}
use Rattle.verdicts.proofs.References.{some-catalogue}
use Rattle.verdicts.proofs.Rowed.{left_after, ready-after, right-after, sides_in}
use Rattle.verdicts.specs.Nodes.{parts}
use Rattle.cpl.specs.Accept.{clash}
use Rattle.lookup.specs.Fields.{left_row, right_row}
use Rattle.tree.specs.Tree.{head_of}
use lib.ListN.{length-set}
use mathlib.Core.List.{◌++◌}
use mathlib.Core.Path.{◌∙◌, ap, ap₂, refl, sym}
use native.Mathlib.Omega.{arith}
use Rattle.verdicts.proofs.own_verdict.Goals as goal

pub input_sides-over-requires : goal.input_sides-over-requires
input_sides-over-requires c =
    record { most = c.args.most; rows = c.args.rows.now; inside = c.requires.parts_ok.1; ready = c.requires.sides_ready.0 }

pub node_resolved-requires : goal.node_resolved-requires
node_resolved-requires c = record { parts_ok = c.requires.parts_ok.0; sides_clear = (c.input_sides-over.ensures (some-catalogue c.args.names.now c.args.node).0 c.args.cells.now c.args.rows.now (some-catalogue c.args.names.now c.args.node).1).clear }

pub returns-in-Err-Unknown : goal.returns-in-Err-Unknown
returns-in-Err-Unknown c =
    λ C m nm. judged-bad c.new.ensures (un-known _ _ _ _ _ _ (seen_as (rw (c.in-Err-Unknown.is, c.in-Err-Unknown.field-0-is) at c.node_resolved.ensures) (c.input_sides-over.ensures C c.args.cells.now c.args.rows.now nm).passes))

pub returns-in-Err-Ambiguous : goal.returns-in-Err-Ambiguous
returns-in-Err-Ambiguous c =
    λ C m nm. judged-bad c.new-in-Err-Ambiguous.ensures (un-definite _ _ _ _ _ _ (seen_as (rw (c.in-Err-Ambiguous.is, c.in-Err-Ambiguous.field-0-is) at c.node_resolved.ensures) (c.input_sides-over.ensures C c.args.cells.now c.args.rows.now nm).passes))

pub returns-then-not-is_even : goal.returns-then-not-is_even
returns-then-not-is_even c =
    λ C m nm. judged-bad c.new-then-not-is_even.ensures (un-even _ _ _ _ _ _ (seen_as (rw c.in-Ok.is at c.node_resolved.ensures) (c.input_sides-over.ensures C c.args.cells.now c.args.rows.now nm).passes) (sym c.if-not-is_even.true ∙ c.is_even.ensures ∙ even_sides (parts c.args.cells.now c.args.rows.now) c.args.fields.now c.args.sides c.args.node))

pub node_row-row-requires : goal.node_row-row-requires
node_row-row-requires c = record { node_inside = c.requires.parts_ok.1; sides_ready = ready-after c.requires.sides_ready.0 (c.input_sides-over.ensures (some-catalogue c.args.names.now c.args.node).0 c.args.cells.now c.args.rows.now (some-catalogue c.args.names.now c.args.node).1).kept }

pub returns-then-most-row : goal.returns-then-most-row
returns-then-most-row c =
    λ C m nm. judged-bad c.new-then-most-row.ensures (too_many _ _ _ _ _ _ (seen_as (rw c.in-Ok.is at c.node_resolved.ensures) (c.input_sides-over.ensures C c.args.cells.now c.args.rows.now nm).passes) (sym c.if-not-is_even.false ∙ c.is_even.ensures ∙ even_sides (parts c.args.cells.now c.args.rows.now) c.args.fields.now c.args.sides c.args.node) (omega (arith, (rowed_since C (head_of (parts c.args.cells.now c.args.rows.now) c.args.node) c.requires.sides_ready.0 (c.input_sides-over.ensures C c.args.cells.now c.args.rows.now nm).kept (c.node_row-row.ensures C c.args.cells.now nm)).long, c.if-most-row.true, m)))

pub bounds-widths-k-2 : goal.bounds-widths-k-2
bounds-widths-k-2 c =
    simp length-set (omega (arith, c.requires.sides_ready.1, c.requires.sides_ready.2))

pub sides_clash-requires : goal.sides_clash-requires
sides_clash-requires c =
    let o = ready-after c.requires.sides_ready.0 (rowed_since (some-catalogue c.args.names.now c.args.node).0 (head_of (parts c.args.cells.now c.args.rows.now) c.args.node) c.requires.sides_ready.0 (c.input_sides-over.ensures (some-catalogue c.args.names.now c.args.node).0 c.args.cells.now c.args.rows.now (some-catalogue c.args.names.now c.args.node).1).kept (c.node_row-row.ensures (some-catalogue c.args.names.now c.args.node).0 c.args.cells.now (some-catalogue c.args.names.now c.args.node).1)).kept in record { sides_in = sides_in o; sides_value = (o.clear_left, o.clear_right) }

pub returns-then-sides_clash : goal.returns-then-sides_clash
returns-then-sides_clash c =
    λ C m nm. judged-bad c.new-then-sides_clash.ensures (un-clear _ _ _ _ _ _ (seen_as (rw c.in-Ok.is at c.node_resolved.ensures) (c.input_sides-over.ensures C c.args.cells.now c.args.rows.now nm).passes) (sym c.if-not-is_even.false ∙ c.is_even.ensures ∙ even_sides (parts c.args.cells.now c.args.rows.now) c.args.fields.now c.args.sides c.args.node) (omega (arith, (rowed_since C (head_of (parts c.args.cells.now c.args.rows.now) c.args.node) c.requires.sides_ready.0 (c.input_sides-over.ensures C c.args.cells.now c.args.rows.now nm).kept (c.node_row-row.ensures C c.args.cells.now nm)).long, c.if-most-row.false, m)) (sym c.if-sides_clash.true ∙ c.sides_clash.ensures ∙ (ap clash (ap₂ ◌++◌ (left_after c.requires.sides_ready.0 (rowed_since C (head_of (parts c.args.cells.now c.args.rows.now) c.args.node) c.requires.sides_ready.0 (c.input_sides-over.ensures C c.args.cells.now c.args.rows.now nm).kept (c.node_row-row.ensures C c.args.cells.now nm)).kept) (right-after c.requires.sides_ready.0 (rowed_since C (head_of (parts c.args.cells.now c.args.rows.now) c.args.node) c.requires.sides_ready.0 (c.input_sides-over.ensures C c.args.cells.now c.args.rows.now nm).kept (c.node_row-row.ensures C c.args.cells.now nm)).kept) ∙ together-join (parts c.args.cells.now c.args.rows.now) (left_row c.args.fields.now c.args.sides) (right_row c.args.fields.now c.args.sides) C c.args.node (sym c.is_join.ensures ∙ c.if-is_join.true)))))

pub returns-then-is_join : goal.returns-then-is_join
returns-then-is_join c =
    λ C m nm. judged-fine (no_fault _ _ _ _ _ _ (seen_as (rw c.in-Ok.is at c.node_resolved.ensures) (c.input_sides-over.ensures C c.args.cells.now c.args.rows.now nm).passes) (sym c.if-not-is_even.false ∙ c.is_even.ensures ∙ even_sides (parts c.args.cells.now c.args.rows.now) c.args.fields.now c.args.sides c.args.node) (omega (arith, (rowed_since C (head_of (parts c.args.cells.now c.args.rows.now) c.args.node) c.requires.sides_ready.0 (c.input_sides-over.ensures C c.args.cells.now c.args.rows.now nm).kept (c.node_row-row.ensures C c.args.cells.now nm)).long, c.if-most-row.false, m)) (sym c.if-sides_clash.false ∙ c.sides_clash.ensures ∙ (ap clash (ap₂ ◌++◌ (left_after c.requires.sides_ready.0 (rowed_since C (head_of (parts c.args.cells.now c.args.rows.now) c.args.node) c.requires.sides_ready.0 (c.input_sides-over.ensures C c.args.cells.now c.args.rows.now nm).kept (c.node_row-row.ensures C c.args.cells.now nm)).kept) (right-after c.requires.sides_ready.0 (rowed_since C (head_of (parts c.args.cells.now c.args.rows.now) c.args.node) c.requires.sides_ready.0 (c.input_sides-over.ensures C c.args.cells.now c.args.rows.now nm).kept (c.node_row-row.ensures C c.args.cells.now nm)).kept) ∙ together-join (parts c.args.cells.now c.args.rows.now) (left_row c.args.fields.now c.args.sides) (right_row c.args.fields.now c.args.sides) C c.args.node (sym c.is_join.ensures ∙ c.if-is_join.true))))) m c.if-most-row.false ((rowed_since C (head_of (parts c.args.cells.now c.args.rows.now) c.args.node) c.requires.sides_ready.0 (c.input_sides-over.ensures C c.args.cells.now c.args.rows.now nm).kept (c.node_row-row.ensures C c.args.cells.now nm)).stored c.if-most-row.false) c.requires.sides_ready.0.room (rowed_since C (head_of (parts c.args.cells.now c.args.rows.now) c.args.node) c.requires.sides_ready.0 (c.input_sides-over.ensures C c.args.cells.now c.args.rows.now nm).kept (c.node_row-row.ensures C c.args.cells.now nm)).kept c.requires.sides_ready.1 c.requires.sides_ready.2 refl

pub clash_from-requires : goal.clash_from-requires
clash_from-requires c =
    let o = (rowed_since (some-catalogue c.args.names.now c.args.node).0 (head_of (parts c.args.cells.now c.args.rows.now) c.args.node) c.requires.sides_ready.0 (c.input_sides-over.ensures (some-catalogue c.args.names.now c.args.node).0 c.args.cells.now c.args.rows.now (some-catalogue c.args.names.now c.args.node).1).kept (c.node_row-row.ensures (some-catalogue c.args.names.now c.args.node).0 c.args.cells.now (some-catalogue c.args.names.now c.args.node).1)).stored c.if-most-row.false in record { row_in = omega (arith, o.before, o.upto, c.requires.sides_ready.0.room, (rowed_since (some-catalogue c.args.names.now c.args.node).0 (head_of (parts c.args.cells.now c.args.rows.now) c.args.node) c.requires.sides_ready.0 (c.input_sides-over.ensures (some-catalogue c.args.names.now c.args.node).0 c.args.cells.now c.args.rows.now (some-catalogue c.args.names.now c.args.node).1).kept (c.node_row-row.ensures (some-catalogue c.args.names.now c.args.node).0 c.args.cells.now (some-catalogue c.args.names.now c.args.node).1)).kept.long); start_le_width = (o.part, o.clear) }

pub returns-then-clash_from : goal.returns-then-clash_from
returns-then-clash_from c =
    λ C m nm. judged-bad c.new-then-clash_from.ensures (un-clear _ _ _ _ _ _ (seen_as (rw c.in-Ok.is at c.node_resolved.ensures) (c.input_sides-over.ensures C c.args.cells.now c.args.rows.now nm).passes) (sym c.if-not-is_even.false ∙ c.is_even.ensures ∙ even_sides (parts c.args.cells.now c.args.rows.now) c.args.fields.now c.args.sides c.args.node) (omega (arith, (rowed_since C (head_of (parts c.args.cells.now c.args.rows.now) c.args.node) c.requires.sides_ready.0 (c.input_sides-over.ensures C c.args.cells.now c.args.rows.now nm).kept (c.node_row-row.ensures C c.args.cells.now nm)).long, c.if-most-row.false, m)) (sym c.if-clash_from.true ∙ c.clash_from.ensures ∙ (ap clash (((rowed_since C (head_of (parts c.args.cells.now c.args.rows.now) c.args.node) c.requires.sides_ready.0 (c.input_sides-over.ensures C c.args.cells.now c.args.rows.now nm).kept (c.node_row-row.ensures C c.args.cells.now nm)).stored c.if-most-row.false).is ∙ together-own (parts c.args.cells.now c.args.rows.now) (left_row c.args.fields.now c.args.sides) (right_row c.args.fields.now c.args.sides) C c.args.node (sym c.is_join.ensures ∙ c.if-is_join.false)))))

pub returns : goal.returns
returns c =
    λ C m nm. judged-fine (no_fault _ _ _ _ _ _ (seen_as (rw c.in-Ok.is at c.node_resolved.ensures) (c.input_sides-over.ensures C c.args.cells.now c.args.rows.now nm).passes) (sym c.if-not-is_even.false ∙ c.is_even.ensures ∙ even_sides (parts c.args.cells.now c.args.rows.now) c.args.fields.now c.args.sides c.args.node) (omega (arith, (rowed_since C (head_of (parts c.args.cells.now c.args.rows.now) c.args.node) c.requires.sides_ready.0 (c.input_sides-over.ensures C c.args.cells.now c.args.rows.now nm).kept (c.node_row-row.ensures C c.args.cells.now nm)).long, c.if-most-row.false, m)) (sym c.if-clash_from.false ∙ c.clash_from.ensures ∙ (ap clash (((rowed_since C (head_of (parts c.args.cells.now c.args.rows.now) c.args.node) c.requires.sides_ready.0 (c.input_sides-over.ensures C c.args.cells.now c.args.rows.now nm).kept (c.node_row-row.ensures C c.args.cells.now nm)).stored c.if-most-row.false).is ∙ together-own (parts c.args.cells.now c.args.rows.now) (left_row c.args.fields.now c.args.sides) (right_row c.args.fields.now c.args.sides) C c.args.node (sym c.is_join.ensures ∙ c.if-is_join.false))))) m c.if-most-row.false ((rowed_since C (head_of (parts c.args.cells.now c.args.rows.now) c.args.node) c.requires.sides_ready.0 (c.input_sides-over.ensures C c.args.cells.now c.args.rows.now nm).kept (c.node_row-row.ensures C c.args.cells.now nm)).stored c.if-most-row.false) c.requires.sides_ready.0.room (rowed_since C (head_of (parts c.args.cells.now c.args.rows.now) c.args.node) c.requires.sides_ready.0 (c.input_sides-over.ensures C c.args.cells.now c.args.rows.now nm).kept (c.node_row-row.ensures C c.args.cells.now nm)).kept c.requires.sides_ready.1 c.requires.sides_ready.2 refl
