-- `read_columns` meets its contract. Assumes nothing.
use native.Mathlib.Omega.{arith}
use Rattle.std.proofs.lemmas.Result.{err_from_is_err_and}
use Rattle.catalogue.proofs.Keys.{all_columns, one_column, column_refused, no_column}
use Rattle.catalogue.proofs.read_columns.Goals as goal

pub loop-init : goal.loop-init
loop-init c = all_columns _ _ _ _ _ _ _ _ (omega arith) c.new-taken.ensures

pub insert-requires : goal.insert-requires
insert-requires c =
    let w = c.loop.invariant in
    let h = rw c.in_ok-column.was at (c.read_fresh.ensures.by_index w.read w.stands) in
    omega (arith, h.1, c.requires)

pub returns-in_err-column : goal.returns-in_err-column
returns-in_err-column c =
    let w = c.loop.invariant in
    let p = err_from_is_err_and c.from_residual.result c.from_residual.ensures.1 in
    rw (p.1, p.2) (column_refused w (omega arith) _ (rw c.in_err-column.was at (c.read_fresh.ensures.by_index w.read w.stands)))

pub loop-preserved : goal.loop-preserved
loop-preserved c =
    let w = c.loop.invariant in
    one_column w (omega arith) _ (rw c.in_ok-column.was at (c.read_fresh.ensures.by_index w.read w.stands)).0 c.insert.ensures.holds (omega arith)

pub returns : goal.returns
returns c = no_column c.loop.invariant (omega arith) c.put_key.ensures
