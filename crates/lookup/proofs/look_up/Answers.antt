-- `lookup::look_up` meets its contract: its own pair is found, or what comes later is looked at. Assumes nothing.
use Rattle.cpl.specs.Plan.{pair}
use Rattle.lookup.proofs.Fits.{answer_absent, found-more, found-one, found-own, hit}
use Rattle.lookup.specs.Fields.{field_at}
use mathlib.Core.Path.{◌∙◌, sym}
use native.Mathlib.Omega.{arith}
use Rattle.lookup.proofs.look_up.Goals as goal

pub returns-in_default : goal.returns-in_default
returns-in_default c =
    answer_absent _ _ (rw c.in_default.is at c.first_fit.ensures)

pub overflow_add-schema : goal.overflow_add-schema
overflow_add-schema c =
    omega (arith, c.requires.inside, (hit (pair c.args.qualifier c.args.name) (field_at c.args.schema.now.fields.now) c.args.schema.now.first c.args.schema.now.width _ (rw c.in-Some.is at c.first_fit.ensures)).below)

pub field_at-f-requires : goal.field_at-f-requires
field_at-f-requires c =
    omega (arith, c.requires.inside, (hit (pair c.args.qualifier c.args.name) (field_at c.args.schema.now.fields.now) c.args.schema.now.first c.args.schema.now.width _ (rw c.in-Some.is at c.first_fit.ensures)).below)

pub returns-then-clear-f : goal.returns-then-clear-f
returns-then-clear-f c =
    found-own c.args.schema.now.fields.now c.args.schema.now.first c.args.schema.now.width c.args.qualifier c.args.name c.requires (rw c.in-Some.is at c.first_fit.ensures) c.field_at-f.ensures c.if-clear-f.true

pub overflow_add-next : goal.overflow_add-next
overflow_add-next c =
    omega (arith, c.requires.inside, (hit (pair c.args.qualifier c.args.name) (field_at c.args.schema.now.fields.now) c.args.schema.now.first c.args.schema.now.width _ (rw c.in-Some.is at c.first_fit.ensures)).below)

pub overflow_add-behind : goal.overflow_add-behind
overflow_add-behind c =
    omega (arith, c.requires.inside, (hit (pair c.args.qualifier c.args.name) (field_at c.args.schema.now.fields.now) c.args.schema.now.first c.args.schema.now.width _ (rw c.in-Some.is at c.first_fit.ensures)).below)

pub overflow_sub-behind : goal.overflow_sub-behind
overflow_sub-behind c =
    omega (arith, c.requires.inside, (hit (pair c.args.qualifier c.args.name) (field_at c.args.schema.now.fields.now) c.args.schema.now.first c.args.schema.now.width _ (rw c.in-Some.is at c.first_fit.ensures)).below)

pub first_fit-requires-2 : goal.first_fit-requires-2
first_fit-requires-2 c =
    omega (arith, c.requires.inside, (hit (pair c.args.qualifier c.args.name) (field_at c.args.schema.now.fields.now) c.args.schema.now.first c.args.schema.now.width _ (rw c.in-Some.is at c.first_fit.ensures)).below)

pub returns-then-is_some : goal.returns-then-is_some
returns-then-is_some c =
    found-more c.args.schema.now.fields.now c.args.schema.now.first c.args.schema.now.width c.args.qualifier c.args.name c.requires (rw c.in-Some.is at c.first_fit.ensures) c.first_fit-2.result c.first_fit-2.ensures (sym c.is_some.ensures ∙ c.if-is_some.true)

pub returns : goal.returns
returns c =
    found-one c.args.schema.now.fields.now c.args.schema.now.first c.args.schema.now.width c.args.qualifier c.args.name c.requires (rw c.in-Some.is at c.first_fit.ensures) c.first_fit-2.result c.first_fit-2.ensures (sym c.is_some.ensures ∙ c.if-is_some.false)
