-- `required_indices::RequiredIndices::slide` meets its contract.
use mathlib.Core.Path.{◌≡◌}
use Rattle.required_indices.specs.Request.{words_of, flag_of}
use Rattle.required_indices.proofs.Loops.{Filled}
use Rattle.required_indices.proofs.Slides.{ahead, slide_w}
use Rattle.required_indices.proofs.RequiredIndices.slide.Given as goal

abbrev pub invariant-loop-k : goal.invariant-loop-k
invariant-loop-k l = Filled (slide_w l.last l.n (ahead l.up (words_of l.self))) l.out.indices l.k × (flag_of l.out ≡ flag_of l.self)
