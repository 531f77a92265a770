-- `vector_text::bytes` meets its contract: the bytes passed are stored. Assumes nothing.
use Prim.Native.Nat.{◌*◌}
use Rattle.vector_text.proofs.Stores.{Bytes}
use Rattle.vector_text.proofs.bytes.Given as goal

abbrev pub invariant-loop-i : goal.invariant-loop-i
invariant-loop-i l = Bytes l.text l.initial.out l.out l.i (2 * l.i)
