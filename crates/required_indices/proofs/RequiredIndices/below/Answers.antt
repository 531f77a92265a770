-- `required_indices::RequiredIndices::below` meets its contract.
use borrow.Author.Rules.{rules}
use native.Mathlib.Omega.{arith}
use Prim.Native.Nat.{ℕ}
use mathlib.Core.Path.{◌≡◌, refl, sym, ap, ◌∙◌}
use lib.ListN.{length, take, length-take}
use lib.Seq.{get_or-take}
use Rattle.required_indices.specs.Words.{number}
use Rattle.required_indices.specs.Request.{words_n, words_of}
use Rattle.required_indices.proofs.Pads.{words_take}
use Rattle.required_indices.proofs.Places.{words}
use Rattle.required_indices.proofs.Parts.{below_start, below_turn, below_end}
use Rattle.required_indices.proofs.RequiredIndices.below.Goals as goal

pub loop-k-init : goal.loop-k-init
loop-k-init c =
    let long : length c.args.self.indices ≡ words_n = search rules in
    let e = c.words_for.ensures in
    (below_start c.min-last.result c.args.n (words_of c.args.self) c.args.self.indices (omega (arith, c.min-last.ensures)), refl, refl)

pub loop-k-preserved : goal.loop-k-preserved
loop-k-preserved c =
    let r = c.args.self in
    let e = c.min-last.ensures in
    let d = c.words_for.ensures in
    let long : length r.indices ≡ words_n = search rules in
    let few = length-take r.used r.indices in (
      below_turn c.min-last.result c.args.n (words_of r) c.loop-k.out.indices c.loop-k.k c.loop-k.invariant.0 c.saturating_sub.result _ c.low_bits.result (omega arith) (omega arith) c.saturating_sub.ensures
          (sym (get_or-take r.used r.indices c.loop-k.k 0 (omega arith))) c.low_bits.ensures,
      c.loop-k.invariant.1,
      c.loop-k.invariant.2,
    )

pub returns : goal.returns
returns c =
    let r = c.args.self in
    let n = c.args.n in
    let last = c.min-last.result in
    let e = c.min-last.ensures in
    let d = c.words_for.ensures in
    let long : length r.indices ≡ words_n = search rules in
    let few = length-take r.used r.indices in
    let hs = words_take r.used (words r.indices (λ i. search rules)) in
    record {
      set =
          ap (λ (x : ℕ). number (take x c.loop-k.out.indices)) c.loop-k.invariant.1
          ∙ below_end last n (words_of r) c.loop-k.out.indices c.loop-k.k c.loop-k.invariant.0 (omega arith) (λ g. omega arith) hs;
      flag = c.loop-k.invariant.2;
    }
