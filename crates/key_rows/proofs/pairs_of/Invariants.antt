-- `key_rows::pairs_of` meets its contract. The invariant: the first i pairs are those of the rows. Assumes nothing.
use Prim.Native.Nat.{◌≤◌}
use Rattle.key_rows.specs.Rows.{SameKeys}
use lib.ListN.{length}
use mathlib.Core.Path.{◌≡◌}
use Rattle.key_rows.proofs.pairs_of.Given as goal

abbrev pub invariant-loop-i : goal.invariant-loop-i
invariant-loop-i l = (l.i ≤ l.n) × (length l.pairs ≡ length l.initial.pairs) × SameKeys l.i l.rows l.pairs
