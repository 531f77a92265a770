-- `sets_show::indices` meets its contract: the next index is below 512, so that the loop goes on behind it and ends.
use borrow.Author.Rules.{rules}
use native.Mathlib.Omega.{arith}
use Prim.Native.Nat.{ℕ, ◌≤◌, ◌<◌}
use mathlib.Core.Path.{◌≡◌}
use lib.ListN.{length}
use Rattle.std.specs.Prelude.{Option, Some}
use Rattle.cpl.specs.Lists.{All}
use Rattle.required_indices.specs.Words.{Word}
use Rattle.required_indices.specs.Request.{words_n, set_of, IsNext}
use Rattle.required_indices.specs.declared.RequiredIndices.{RequiredIndices}
use Rattle.required_indices.proofs.Places.{words, set_lt}
use Rattle.required_indices.proofs.Walk.{next_ge, next-below}
use Rattle.sets_show.proofs.indices.Goals as goal

found : (r : RequiredIndices) → length r.indices ≡ words_n → All Word r.indices → (at : ℕ) (out : Option ℕ) → IsNext (set_of r) at out → (i : ℕ) → out ≡ Some i → (at ≤ i) × (i < 512)
found r long hs at out g i e = (next_ge (set_of r) at out g i e, next-below (set_of r) at out g i e 512 (set_lt r long hs))

pub overflow_add-at : goal.overflow_add-at
overflow_add-at g c =
    let b = found c.args.r (search rules) (words c.args.r.indices (λ j. search rules)) c.loop-i.at c.next.result c.next.ensures c.in-Some.i c.in-Some.is in
    omega arith

pub loop-i-smaller : goal.loop-i-smaller
loop-i-smaller g c =
    let b = found c.args.r (search rules) (words c.args.r.indices (λ j. search rules)) c.loop-i.at c.next.result c.next.ensures c.in-Some.i c.in-Some.is in
    omega arith

pub loop-i-preserved : goal.loop-i-preserved
loop-i-preserved g c =
    let b = found c.args.r (search rules) (words c.args.r.indices (λ j. search rules)) c.loop-i.at c.next.result c.next.ensures c.in-Some.i c.in-Some.is in
    omega arith
