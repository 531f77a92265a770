-- `required_indices::RequiredIndices::append` meets its contract.
use mathlib.Core.Path.{◌≡◌}
use Rattle.required_indices.specs.Request.{words_of, flag_of}
use Rattle.required_indices.proofs.Loops.{Filled}
use Rattle.required_indices.proofs.Pads.{wide}
use Rattle.required_indices.proofs.Places.{Whole}
use Rattle.required_indices.proofs.Words.{or_w}
use Rattle.required_indices.proofs.RequiredIndices.append.Given as goal

abbrev pub invariant-loop-k : goal.invariant-loop-k
invariant-loop-k l = Filled (or_w (wide l.n (words_of l.self)) (wide l.n (words_of l.other))) l.out.indices l.k × (l.out.used ≡ l.n) × (flag_of l.out ≡ flag_of l.self) × (Whole l.self × Whole l.other)
