-- `node_keys::found_items` meets its contract: after i items what was found is of these. Assumes nothing.
use Rattle.arena.proofs.Rows.{read_expr_lem, row_ok}
use Rattle.lookup.specs.Fields.{row_at}
use Rattle.node_keys.proofs.Steps.{finds_all, finds_more, finds_none, item-places, item_place, place_in}
use Rattle.rules.specs.Keys.{field_place}
use mathlib.Core.Path.{sym, ap, ◌∙◌}
use native.Mathlib.Omega.{arith}
use Rattle.node_keys.proofs.found_items.Goals as goal

pub loop-i-init : goal.loop-i-init
loop-i-init c = (omega arith, finds_none _ _ c.none_found-found.ensures)

pub with_place-found-requires : goal.with_place-found-requires
with_place-found-requires c =
    let h = c.loop-i-test.true in record { i_bound = omega (arith, c.requires.rows_ok.1, h); place_in = place_in c.item_place-place.result c.args.input.now.fields.now c.args.input.now.first c.args.input.now.width _ c.item_place-place.ensures c.requires.row_in.1 }

pub loop-i-preserved : goal.loop-i-preserved
loop-i-preserved c =
    let h = c.loop-i-test.true in
    let e = ap (field_place (row_at c.args.input.now.fields.now c.args.input.now.first c.args.input.now.width)) (sym (read_expr_lem _ c.row_at-row.ensures (row_ok _ _ _ _ c.requires.rows_ok.0 _ h))) in
    (omega (arith, h), finds_more _ _ c.loop-i.invariant.1 c.with_place-found.ensures (c.item_place-place.ensures ∙ e))

pub returns : goal.returns
returns c =
    finds_all (item_place c.args.list.now.rows.now c.args.list.now.cells.now c.args.input.now.fields.now c.args.input.now.first c.args.input.now.width) c.args.list.now.first c.loop-i.invariant.0 (omega (arith, c.loop-i-test.false)) (item-places c.args.list.now.rows.now c.args.list.now.cells.now c.args.input.now.fields.now c.args.input.now.first c.args.input.now.width c.args.list.now.first c.args.list.now.count) c.loop-i.invariant.1
