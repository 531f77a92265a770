-- `projections::all_bare` meets its contract: the items that were passed are bare. Assumes nothing.
use Rattle.projections.proofs.Chosen.{found}
use Rattle.projections.proofs.Tests.{bare-all, bare-more, bare_no, bare-none}
use native.Mathlib.Omega.{arith}
use Rattle.projections.proofs.all_bare.Goals as goal

pub loop-i-init : goal.loop-i-init
loop-i-init c =
    bare-none _ _ _ _ c.requires.kept_bound

pub overflow_add-list : goal.overflow_add-list
overflow_add-list c =
    omega (arith, c.requires.count_in_bounds, found _ _ c.requires.kept_bound _ c.next.result c.next.ensures _ c.in-Some.is)

pub row_at-row-requires : goal.row_at-row-requires
row_at-row-requires c =
    omega (arith, c.requires.count_in_bounds, found _ _ c.requires.kept_bound _ c.next.result c.next.ensures _ c.in-Some.is)

pub returns-then-row-ne0 : goal.returns-then-row-ne0
returns-then-row-ne0 c =
    bare_no _ _ _ _ c.requires.kept_bound _ c.loop-i.invariant c.next.result c.next.ensures _ c.in-Some.is c.row_at-row.ensures c.if-row-ne0.true

pub overflow_add-from : goal.overflow_add-from
overflow_add-from c =
    omega (arith, c.requires.count_in_bounds, found _ _ c.requires.kept_bound _ c.next.result c.next.ensures _ c.in-Some.is)

pub loop-i-smaller : goal.loop-i-smaller
loop-i-smaller c =
    omega (arith, found _ _ c.requires.kept_bound _ c.next.result c.next.ensures _ c.in-Some.is)

pub loop-i-preserved : goal.loop-i-preserved
loop-i-preserved c =
    bare-more _ _ _ _ c.requires.kept_bound _ c.loop-i.invariant c.next.result c.next.ensures _ c.in-Some.is c.row_at-row.ensures c.if-row-ne0.false

pub returns : goal.returns
returns c =
    bare-all _ _ _ _ c.requires.kept_bound _ c.loop-i.invariant c.next.result c.next.ensures c.in_default.is
