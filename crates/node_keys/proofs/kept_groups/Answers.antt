-- `node_keys::kept_groups` meets its contract: with no key, with one that lacks a column, with one that is there. Assumes nothing.
use Rattle.node_keys.proofs.Founds.{kept-asked, kept-lacking, kept_no_key}
use Rattle.node_keys.proofs.Steps.{count-places}
use mathlib.Core.Path.{sym, ◌∙◌}
use Rattle.node_keys.proofs.kept_groups.Goals as goal

pub returns-then-is_empty : goal.returns-then-is_empty
returns-then-is_empty c =
    record { is = λ ks R k q l. kept_no_key _ R k (sym c.is_empty.ensures ∙ c.if-is_empty.true) (count-places c.args.groups.now.rows.now c.args.groups.now.cells.now c.args.input.now.fields.now c.args.input.now.first c.args.input.now.width c.args.groups.now.first c.args.groups.now.count c.new_for_all_exprs.ensures) }

pub returns-then-equals : goal.returns-then-equals
returns-then-equals c = record { is = λ ks R k q l. kept-asked _ R k (c.found_items-found.ensures.is ks k) (sym c.is_empty.ensures ∙ c.if-is_empty.false) (sym c.equals.ensures ∙ c.if-equals.true) q l c.append.ensures }

pub returns : goal.returns
returns c =
    record { is = λ ks R k q l. kept-lacking _ R k (c.found_items-found.ensures.is ks k) (sym c.is_empty.ensures ∙ c.if-is_empty.false) (sym c.equals.ensures ∙ c.if-equals.false) (count-places c.args.groups.now.rows.now c.args.groups.now.cells.now c.args.input.now.fields.now c.args.input.now.first c.args.input.now.width c.args.groups.now.first c.args.groups.now.count c.new_for_all_exprs-2.ensures) }
