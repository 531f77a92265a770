-- `text_plan::put_head` meets its contract: by the kind of the node. Assumes nothing.
use Rattle.plan_text.specs.Words.{w_open_list, w_projection, w_sort}
use Rattle.plan_text.specs.Write.{binary_text, head_text, key_text, list_text, unary_text}
use Rattle.text_parts.proofs.Parts.{each_all, rows_all}
use Rattle.text_plan.proofs.Heads.{items_put, list_put}
use Rattle.tree.specs.Rows.{key_at}
use mathlib.Core.List.{◌++◌}
use Rattle.text_plan.proofs.put_head.Goals as goal

pub put_list-requires : goal.put_list-requires
put_list-requires c =
    rows_all _ _ _ _ (rw c.in-Projection.is at (c.requires))

pub put_filter-requires : goal.put_filter-requires
put_filter-requires c =
    rw c.in-Filter.is at (c.requires)

pub put_list-requires-in-Sort : goal.put_list-requires-in-Sort
put_list-requires-in-Sort c =
    each_all _ _ _ _ (rw c.in-Sort.is at (c.requires))

pub put_aggregate-requires : goal.put_aggregate-requires
put_aggregate-requires c =
    rw c.in-Aggregate.is at (c.requires)

pub put_window-requires : goal.put_window-requires
put_window-requires c =
    rw c.in-Window.is at (c.requires)

pub put_join-requires : goal.put_join-requires
put_join-requires c =
    rw c.in-Join.is at (c.requires)

pub put_scan-requires : goal.put_scan-requires
put_scan-requires c =
    rw c.in-Scan.is at (c.requires)

pub put_empty-requires : goal.put_empty-requires
put_empty-requires c =
    rw c.in-Empty.is at (c.requires)

pub returns-in-Projection : goal.returns-in-Projection
unfolding head_text unary_text list_text
returns-in-Projection c =
    rw c.in-Projection.is (items_put (w_projection ++ w_open_list) _ _ _ _ c.put_list.ensures)

pub returns-in-Filter : goal.returns-in-Filter
unfolding head_text
returns-in-Filter c =
    rw c.in-Filter.is c.put_filter.ensures

pub returns-in-Sort : goal.returns-in-Sort
unfolding head_text unary_text list_text
returns-in-Sort c =
    rw c.in-Sort.is (list_put (w_sort ++ w_open_list) key_text (key_at c.args.rows.now c.args.cells.now) _ _ c.put_list-in-Sort.ensures)

pub returns-in-Limit : goal.returns-in-Limit
unfolding head_text
returns-in-Limit c =
    rw c.in-Limit.is c.put_limit.ensures

pub returns-in-Aggregate : goal.returns-in-Aggregate
unfolding head_text
returns-in-Aggregate c =
    rw c.in-Aggregate.is c.put_aggregate.ensures

pub returns-in-Window : goal.returns-in-Window
unfolding head_text
returns-in-Window c =
    rw c.in-Window.is c.put_window.ensures

pub returns-in-SubqueryAlias : goal.returns-in-SubqueryAlias
unfolding head_text
returns-in-SubqueryAlias c =
    rw c.in-SubqueryAlias.is c.put_alias.ensures

pub returns-in-Union : goal.returns-in-Union
unfolding head_text binary_text
returns-in-Union c =
    rw c.in-Union.is c.put_text.ensures

pub returns-in-Distinct : goal.returns-in-Distinct
unfolding head_text unary_text
returns-in-Distinct c =
    rw c.in-Distinct.is c.put_text-in-Distinct.ensures

pub returns-in-Join : goal.returns-in-Join
unfolding head_text
returns-in-Join c =
    rw c.in-Join.is c.put_join.ensures

pub returns-in-Scan : goal.returns-in-Scan
unfolding head_text
returns-in-Scan c =
    rw c.in-Scan.is c.put_scan.ensures

pub returns-in-Empty : goal.returns-in-Empty
unfolding head_text
returns-in-Empty c =
    rw c.in-Empty.is c.put_empty.ensures
