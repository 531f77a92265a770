-- The loop of `read_wins`: those read so far took two rows each and no more others than nodes, and the other windows are left. Assumes nothing.
use Rattle.std.proofs.Common.{◌+◌, ◌*◌, ◌-◌, ◌≤◌}
use Rattle.cpl.specs.ReadExpr.{read_win}
use Rattle.tree.specs.Layout.{win_store}
use Rattle.reader_parts.proofs.Compose.{Underway}
use Rattle.reader_parts.proofs.read_wins.Given as goal

abbrev pub invariant-loop : goal.invariant-loop
invariant-loop l =
    record {
      way : Underway win_store read_win l.file l.n (l.n - l.counter) l.fn.s l.t l.fn.cells l.cells l.fn.rows l.rows;
      rows : l.t.row + l.fn.s.made ≤ l.fn.s.row + 2 * l.counter + l.t.made;
    }
