-- `required_indices::RequiredIndices::below` meets its contract.
use mathlib.Core.Path.{◌≡◌}
use Rattle.required_indices.specs.Request.{words_of, flag_of}
use Rattle.required_indices.proofs.Loops.{Filled}
use Rattle.required_indices.proofs.Parts.{part_w}
use Rattle.required_indices.proofs.RequiredIndices.below.Given as goal

abbrev pub invariant-loop-k : goal.invariant-loop-k
invariant-loop-k l = Filled (part_w l.last l.n (words_of l.self)) l.out.indices l.k × (l.out.used ≡ l.last) × (flag_of l.out ≡ flag_of l.self)
