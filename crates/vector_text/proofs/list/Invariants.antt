-- `vector_text::list` meets its contract: the numbers passed are stored. Assumes nothing.
use Rattle.std.specs.Prelude.{length}
use Rattle.vector_text.proofs.Stores.{Listed}
use mathlib.Core.Path.{◌≡◌}
use Rattle.vector_text.proofs.list.Given as goal

abbrev pub invariant-loop-piece : goal.invariant-loop-piece
invariant-loop-piece l = record { read : Listed l.fn.text l.initial.out l.out l.n; count : l.n ≡ length l.yielded }
