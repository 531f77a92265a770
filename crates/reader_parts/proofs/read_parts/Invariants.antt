-- The loop of `read_parts`: those read so far took a row each, and the others are left. Assumes nothing.
use Rattle.std.proofs.Common.{◌≡◌, ◌+◌, ◌-◌}
use Rattle.reader_parts.specs.Parts.{store_of, reader_of}
use Rattle.reader_parts.proofs.Compose.{Underway}
use Rattle.reader_parts.proofs.read_parts.Given as goal

abbrev pub invariant-loop : goal.invariant-loop
invariant-loop l =
    record {
      way : Underway (store_of l.kind) (reader_of l.kind) l.file l.n (l.n - l.counter) l.fn.s l.t l.fn.cells l.cells l.fn.rows l.rows;
      rows : l.t.row ≡ l.fn.s.row + l.counter;
    }
