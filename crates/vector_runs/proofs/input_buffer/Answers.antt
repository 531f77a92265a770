-- `vector_runs::input_buffer` meets its contract: an array of equal bytes is as long as it says.
use Rattle.std.proofs.Common.{ℕ, sym}
use lib.ListN.{length-replicate}
use Rattle.vector_runs.proofs.input_buffer.Goals as goal

pub returns : goal.returns
returns c = sym (length-replicate {A = ℕ} 524288 0)
