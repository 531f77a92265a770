-- `projections::is_projection_unnecessary` meets its contract: the fields that were passed are the same. Assumes nothing.
use mathlib.Core.Path.{sym, ◌∙◌}
use Rattle.projections.proofs.Chosen.{found}
use Rattle.projections.proofs.Tests.{alike_more, alike_no, alike_none, ends, second-ends}
use native.Mathlib.Omega.{arith}
use Rattle.projections.proofs.is_projection_unnecessary.Goals as goal

pub loop-i-init : goal.loop-i-init
loop-i-init c =
    alike_none _ _ _ _ c.requires.fields_in _ _ _ _ c.requires.fields_in_2

pub returns-in_default-next : goal.returns-in_default-next
returns-in_default-next c =
    second-ends _ _ _ _ c.requires.fields_in _ _ _ _ c.requires.fields_in_2 _ _ c.loop-i.invariant c.next.result c.next.ensures c.next-in-Some.result c.next-in-Some.ensures _ c.in-Some.is c.in_default-next.is

pub overflow_add-own : goal.overflow_add-own
overflow_add-own c =
    omega (arith, c.requires.fields_in.inside, found _ _ c.requires.fields_in.within _ c.next.result c.next.ensures _ c.in-Some.is)

pub field_at-f-requires : goal.field_at-f-requires
field_at-f-requires c =
    omega (arith, c.requires.fields_in.inside, found _ _ c.requires.fields_in.within _ c.next.result c.next.ensures _ c.in-Some.is)

pub overflow_add-input : goal.overflow_add-input
overflow_add-input c =
    omega (arith, c.requires.fields_in_2.inside, found _ _ c.requires.fields_in_2.within _ c.next-in-Some.result c.next-in-Some.ensures _ c.in-Some-next.is)

pub field_at-g-requires : goal.field_at-g-requires
field_at-g-requires c =
    omega (arith, c.requires.fields_in_2.inside, found _ _ c.requires.fields_in_2.within _ c.next-in-Some.result c.next-in-Some.ensures _ c.in-Some-next.is)

pub returns-then-ne : goal.returns-then-ne
returns-then-ne c =
    alike_no _ _ _ _ c.requires.fields_in _ _ _ _ c.requires.fields_in_2 _ _ c.loop-i.invariant c.next.result c.next.ensures c.next-in-Some.result c.next-in-Some.ensures _ c.in-Some.is _ c.in-Some-next.is c.field_at-f.ensures c.field_at-g.ensures (sym c.ne.ensures ∙ c.if-ne.true)

pub overflow_add-from : goal.overflow_add-from
overflow_add-from c =
    omega (arith, c.requires.fields_in.inside, found _ _ c.requires.fields_in.within _ c.next.result c.next.ensures _ c.in-Some.is)

pub overflow_add-at : goal.overflow_add-at
overflow_add-at c =
    omega (arith, c.requires.fields_in_2.inside, found _ _ c.requires.fields_in_2.within _ c.next-in-Some.result c.next-in-Some.ensures _ c.in-Some-next.is)

pub loop-i-smaller : goal.loop-i-smaller
loop-i-smaller c =
    omega (arith, found _ _ c.requires.fields_in.within _ c.next.result c.next.ensures _ c.in-Some.is)

pub loop-i-preserved : goal.loop-i-preserved
loop-i-preserved c =
    alike_more _ _ _ _ c.requires.fields_in _ _ _ _ c.requires.fields_in_2 _ _ c.loop-i.invariant c.next.result c.next.ensures c.next-in-Some.result c.next-in-Some.ensures _ c.in-Some.is _ c.in-Some-next.is c.field_at-f.ensures c.field_at-g.ensures (sym c.ne.ensures ∙ c.if-ne.false)

pub returns : goal.returns
returns c =
    ends _ _ _ _ c.requires.fields_in _ _ _ _ c.requires.fields_in_2 _ _ c.loop-i.invariant c.next.result c.next.ensures c.next-2.result c.next-2.ensures c.in_default.is _ c.is_none.ensures
