-- `lookup::resolve_column` meets its contract: what fits in both sides is counted together. Assumes nothing.
use Rattle.std.proofs.Common.{rules}
use Rattle.cpl.specs.Plan.{pair}
use Rattle.lookup.proofs.Resolving.{column_is, found_more}
use Rattle.lookup.proofs.resolve_column.Goals as goal

pub returns-in-Absent-Absent : goal.returns-in-Absent-Absent
returns-in-Absent-Absent c =
    rw (c.in-Absent-Absent.is-0, c.in-Absent-Absent.is-1) at (column_is (pair c.args.qualifier c.args.name) _ _ _ _ c.look_up-left.ensures c.look_up-right.ensures)

pub returns-in_default : goal.returns-in_default
returns-in_default c =
    found_more (pair c.args.qualifier c.args.name) _ _ c.look_up-right.result (search rules) (rw c.in_default.is-0 at c.look_up-left.ensures) c.look_up-right.ensures

pub returns-in_default-2 : goal.returns-in_default-2
returns-in_default-2 c =
    rw (c.in_default.is-0, c.in_default.is-1) at (column_is (pair c.args.qualifier c.args.name) _ _ _ _ c.look_up-left.ensures c.look_up-right.ensures)

pub returns-in_default-3 : goal.returns-in_default-3
returns-in_default-3 c =
    rw c.in_default.is-0 at (column_is (pair c.args.qualifier c.args.name) _ _ _ _ c.look_up-left.ensures c.look_up-right.ensures)

pub returns-in-Found-Absent : goal.returns-in-Found-Absent
returns-in-Found-Absent c =
    rw (c.in-Found-Absent.is-0, c.in-Found-Absent.is-1) at (column_is (pair c.args.qualifier c.args.name) _ _ _ _ c.look_up-left.ensures c.look_up-right.ensures)

pub returns-in-Found-Absent-2 : goal.returns-in-Found-Absent-2
returns-in-Found-Absent-2 c =
    rw (c.in-Found-Absent.is-0, c.in-Found-Absent.is-1) at (column_is (pair c.args.qualifier c.args.name) _ _ _ _ c.look_up-left.ensures c.look_up-right.ensures)
