-- `calls::write_others` meets its contract: the numbers passed were written, each at most 21 bytes long with its space. Assumes nothing.
use Prim.Native.Nat.{◌*◌, ◌≤◌}
use Rattle.calls.specs.Calls.{spaced}
use Rattle.writer_parts.specs.Wrote.{Wrote}
use lib.ListN.{length, take}
use mathlib.Core.Path.{◌≡◌}
use Rattle.calls.proofs.write_others.Given as goal

abbrev pub invariant-loop-n : goal.invariant-loop-n
invariant-loop-n l = (l.at ≤ 21 * l.n-index) × (length l.out ≡ length l.initial.out) × Wrote (spaced (take l.n-index l.numbers)) l.initial.out l.at l.out
