-- `key_rows::rows_of` meets its contract. The invariant: the first i rows are those of the pairs. Assumes nothing.
use Prim.Native.Nat.{◌≤◌}
use Rattle.key_rows.specs.Rows.{SameKeys}
use lib.ListN.{length}
use mathlib.Core.Path.{◌≡◌}
use Rattle.key_rows.proofs.rows_of.Given as goal

abbrev pub invariant-loop-i : goal.invariant-loop-i
invariant-loop-i l = (l.i ≤ l.n) × (length l.rows ≡ length l.initial.rows) × SameKeys l.i l.rows l.pairs
