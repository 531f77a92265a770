-- `required_indices::RequiredIndices::new_for_all_exprs` meets its contract.
use mathlib.Core.Path.{◌≡◌}
use mathlib.Core.Bool.{false}
use Rattle.required_indices.specs.Request.{flag_of}
use Rattle.required_indices.proofs.Loops.{Filled}
use Rattle.required_indices.proofs.Words.{all_w}
use Rattle.required_indices.proofs.RequiredIndices.new_for_all_exprs.Given as goal

abbrev pub invariant-loop-k : goal.invariant-loop-k
invariant-loop-k l = Filled (all_w l.n l.width) l.out.indices l.k × (l.out.used ≡ l.n) × (flag_of l.out ≡ false)
