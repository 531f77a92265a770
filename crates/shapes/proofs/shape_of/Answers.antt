-- `shapes::shape_of` meets its contract. Assumes nothing.
use native.Mathlib.Omega.{arith}
use mathlib.Core.Path.{◌∙◌}
use Rattle.shapes.proofs.shape_of.Goals as goal

pub overflow_add-behind : goal.overflow_add-behind
overflow_add-behind c =
    let h = rw c.in-Aggregate.is at c.requires in omega (arith, h)

pub scan_shape-requires : goal.scan_shape-requires
scan_shape-requires c =
    rw c.in-Scan.is at c.requires

pub returns-in-Projection : goal.returns-in-Projection
returns-in-Projection c =
    c.plain.ensures ∙ (rw (c.in-Projection.is, c.all_of.ensures))

pub returns-in-Filter : goal.returns-in-Filter
returns-in-Filter c =
    c.plain-in-Filter.ensures ∙ (rw c.in-Filter.is)

pub returns-in-Sort : goal.returns-in-Sort
returns-in-Sort c =
    c.plain-in-Sort.ensures ∙ (rw (c.in-Sort.is, c.all_of-in-Sort.ensures))

pub returns-in-Limit : goal.returns-in-Limit
returns-in-Limit c =
    c.plain-in-Limit.ensures ∙ (rw (c.in-Limit.is, c.from.ensures, c.from-in-Limit.ensures))

pub returns-in-Aggregate : goal.returns-in-Aggregate
returns-in-Aggregate c =
    rw c.in-Aggregate.is

pub returns-in-Window : goal.returns-in-Window
returns-in-Window c =
    c.plain-in-Window.ensures ∙ (rw c.in-Window.is)

pub returns-in-SubqueryAlias : goal.returns-in-SubqueryAlias
returns-in-SubqueryAlias c =
    c.plain-in-SubqueryAlias.ensures ∙ (rw (c.in-SubqueryAlias.is, c.from-in-SubqueryAlias.ensures))

pub returns-in-Union : goal.returns-in-Union
returns-in-Union c =
    c.plain-in-Union.ensures ∙ (rw c.in-Union.is)

pub returns-in-Distinct : goal.returns-in-Distinct
returns-in-Distinct c =
    c.plain-in-Distinct.ensures ∙ (rw c.in-Distinct.is)

pub returns-in-Join : goal.returns-in-Join
returns-in-Join c =
    c.join_shape.ensures ∙ (rw c.in-Join.is)

pub returns-in-Scan : goal.returns-in-Scan
returns-in-Scan c =
    c.scan_shape.ensures ∙ (rw c.in-Scan.is)

pub returns-in-Empty : goal.returns-in-Empty
returns-in-Empty c =
    c.empty_shape.ensures ∙ (rw c.in-Empty.is)
