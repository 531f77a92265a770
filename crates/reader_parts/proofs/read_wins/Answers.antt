-- `read_wins` meets its contract. Assumes nothing.
use native.Mathlib.Omega.{arith}
use Rattle.std.proofs.lemmas.Result.{err_from_is_err_and}
use Rattle.cpl.specs.ReadExpr.{read_win}
use Rattle.tree.specs.Layout.{win_store}
use Rattle.reader_parts.proofs.Compose.{none_read, one_read, one_refused, all_read}
use Rattle.reader_parts.proofs.Wins.{win-sized, win-rows}
use Rattle.reader_parts.proofs.read_wins.Goals as goal

pub loop-init : goal.loop-init
loop-init c =
    record { way = none_read win_store read_win _ _ _ _ _ _ (omega arith) (omega arith); rows = omega arith }

pub read_win-requires : goal.read_win-requires
read_win-requires c =
    omega (arith, c.loop.invariant.way.few, c.loop.invariant.way.grown, c.loop.invariant.rows, c.requires)

pub returns-in_err-t : goal.returns-in_err-t
returns-in_err-t c =
    let p = err_from_is_err_and c.from_residual.result c.from_residual.ensures.1 in
    rw (p.1, p.2) (one_refused c.loop.invariant.way (omega arith) _ c.in_err-t.ensures)

pub loop-preserved : goal.loop-preserved
loop-preserved c =
    let g = c.in_ok-t.ensures 0 in
    record {
      way = one_read c.loop.invariant.way win-sized (omega arith) _ (omega arith) c.in_ok-t.ensures;
      rows = omega (arith, g.row_is, g.made_is, win-rows g.value, c.loop.invariant.rows);
    }

pub returns : goal.returns
returns c =
    all_read c.loop.invariant.way (omega arith)
