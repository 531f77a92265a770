-- `lookup::alias_fields` meets its contract: the fields so far, and those to come, are the list. Assumes nothing.
use Rattle.cpl.specs.Fields.{requalify}
use Rattle.lookup.proofs.Lists.{list-map}
use Rattle.lookup.proofs.Rows.{fills_all, fills_more, fills_none}
use Rattle.lookup.specs.Fields.{field_at}
use Rattle.tree.specs.Rows.{one}
use mathlib.Core.Path.{◌∙◌, ap, sym}
use native.Mathlib.Omega.{arith}
use Rattle.lookup.proofs.alias_fields.Goals as goal

pub overflow_add-from : goal.overflow_add-from
overflow_add-from c =
    omega (arith, c.requires.0, c.requires.1, c.loop-i.invariant.filling.kept.long)

pub field_at-f-requires : goal.field_at-f-requires
field_at-f-requires c =
    omega (arith, c.requires.0, c.requires.1, c.loop-i.invariant.filling.kept.long)

pub overflow_add-to : goal.overflow_add-to
overflow_add-to c =
    omega (arith, c.requires.0, c.requires.1, c.loop-i.invariant.filling.kept.long)

pub put_field-requires : goal.put_field-requires
put_field-requires c =
    omega (arith, c.requires.0, c.requires.1, c.loop-i.invariant.filling.kept.long)

pub loop-i-preserved : goal.loop-i-preserved
unfolding requalify
loop-i-preserved c =
    fills_more _ _ _ _ _ c.loop-i.invariant c.loop-i-test.true (c.put_field.ensures.j_after ∙ ap (requalify c.args.qualifier) (c.field_at-f.ensures ∙ c.loop-i.invariant.filling.kept.low _ (omega (arith, c.requires.0)))) c.put_field.ensures.kept

pub returns : goal.returns
returns c =
    let f = fills_all _ _ _ _ _ c.loop-i.invariant c.loop-i-test.false in
    record { row = f.row ∙ sym (list-map (requalify c.args.qualifier) (field_at c.args.fields.now) one c.args.from c.args.width); kept = f.kept }

pub loop-i-init : goal.loop-i-init
loop-i-init c = fills_none _ _ _ _ _
