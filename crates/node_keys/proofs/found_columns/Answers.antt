-- `node_keys::found_columns` meets its contract: after i columns what was found is of these. Assumes nothing.
use Rattle.node_keys.proofs.Steps.{column-places, finds_all, finds_more, finds_none}
use Rattle.tree.specs.Rows.{number_at}
use mathlib.Core.Option.{some}
use mathlib.Core.Path.{ap}
use native.Mathlib.Omega.{arith}
use Rattle.node_keys.proofs.found_columns.Goals as goal

pub loop-i-init : goal.loop-i-init
loop-i-init c = (omega arith, finds_none _ _ c.none_found-found.ensures)

pub loop-i-preserved : goal.loop-i-preserved
loop-i-preserved c = (omega (arith, c.loop-i-test.true), finds_more _ _ c.loop-i.invariant.1 c.with_place-found.ensures (ap some c.column_at-j.ensures))

pub returns : goal.returns
returns c =
    finds_all (λ k. some (number_at c.args.rows.now k)) c.args.first c.loop-i.invariant.0 (omega (arith, c.loop-i-test.false)) (column-places c.args.rows.now c.args.first c.args.count) c.loop-i.invariant.1
