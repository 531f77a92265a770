-- `listing::write_lines` meets its contract: the lines of the nodes passed were written, each at most 56 bytes long. Assumes nothing.
use Prim.Native.Nat.{◌*◌, ◌≤◌}
use Rattle.listing.specs.Lines.{line_at, span}
use Rattle.writer_parts.specs.Wrote.{Wrote}
use lib.ListN.{length}
use mathlib.Core.Path.{◌≡◌}
use Rattle.listing.proofs.write_lines.Given as goal

abbrev pub invariant-loop-k : goal.invariant-loop-k
invariant-loop-k l = (l.at ≤ 56 * l.k) × (length l.out ≡ length l.initial.out) × Wrote (span (line_at l.nodes l.widths) 0 l.k) l.initial.out l.at
    l.out
