-- `list_plan::list_over` meets its contract: refused, or listed. Assumes nothing.
use Rattle.std.proofs.lemmas.Result.{err_from_is_err_and}
use Rattle.list_plan.proofs.Ways.{accepted, counts, refused, walks}
use Rattle.list_plan.proofs.list_over.Goals as goal

pub returns-in_err-read_and_check : goal.returns-in_err-read_and_check
returns-in_err-read_and_check c =
    let p = err_from_is_err_and c.from_residual.result c.from_residual.ensures.1 in
    rw (p.1, p.2) (refused _ (rw c.in_err-read_and_check.was at c.read_and_check.ensures))

pub list_tree-requires : goal.list_tree-requires
list_tree-requires c =
    let p = (rw c.in_ok-read_and_check.was at c.read_and_check.ensures).plan in record { walks = walks p; nodes_len_bound = counts p }

pub returns : goal.returns
returns c =
    accepted (rw c.in_ok-read_and_check.was at c.read_and_check.ensures).plan _ c.list_tree.ensures
