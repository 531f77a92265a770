-- `required_indices::RequiredIndices::slide` meets its contract.
use borrow.Author.Rules.{rules}
use native.Mathlib.Omega.{arith}
use Prim.Native.Nat.{ℕ, ◌+◌, ◌-◌, ◌/◌, min}
use mathlib.Core.Path.{◌≡◌, refl, sym, ap, ◌∙◌}
use mathlib.Core.List.{List}
use lib.ListN.{length, get_or, length-take}
use mir.Val.{Fits}
use mir.Syntax.{w64}
use Rattle.required_indices.specs.Request.{words_n, words_of}
use Rattle.required_indices.proofs.Pads.{words_take, in_use}
use Rattle.required_indices.proofs.Places.{words}
use Rattle.required_indices.proofs.Slides.{ahead, slide_start, slide_turn, slide_end, slide_fits}
use Rattle.required_indices.proofs.RequiredIndices.slide.Goals as goal

pub loop-k-init : goal.loop-k-init
loop-k-init c =
    let long : length c.args.self.indices ≡ words_n = search rules in
    (slide_start c.min-last.result c.args.n (ahead c.args.up (words_of c.args.self)) c.args.self.indices (omega (arith, c.min-last.ensures)), refl)

pub loop-k-preserved : goal.loop-k-preserved
loop-k-preserved c =
    let r = c.args.self in
    let k = c.loop-k.k in
    let e = c.min-a.ensures in
    let long : length r.indices ≡ words_n = search rules in
    let same = sym (in_use r.used c.min-a.result r.indices (omega arith)) in
    let fits : Fits w64 c.word_behind-w.result = search rules in (
      slide_turn c.min-last.result c.args.n (ahead c.args.up (words_of r)) c.loop-k.out.indices k c.loop-k.invariant.0 c.word_behind-w.result c.word_behind-v.result c.carry.result (omega arith) fits.fits
          (c.word_behind-w.ensures ∙ ap (λ (x : List ℕ). get_or (ahead c.args.up x) (c.args.n / 64 + k) 0) same) (c.word_behind-v.ensures ∙ ap (λ (x : List ℕ). get_or (ahead c.args.up x) (c.args.n / 64 + k + 1) 0) same) c.carry.ensures,
      c.loop-k.invariant.1,
    )

pub returns : goal.returns
returns c =
    let r = c.args.self in
    let last = c.min-last.result in
    let hs = words_take r.used (words r.indices (λ i. search rules)) in
    let long : length r.indices ≡ words_n = search rules in
    let few = length-take r.used r.indices in
    let e : last ≡ min (length (words_of r) + c.args.up - c.args.n / 64) words_n = omega (arith, c.min-last.ensures, c.saturating_sub.ensures, c.min-a.ensures) in
    record {
      set =
          c.trimmed.ensures
          ∙ slide_end last c.args.up c.args.n (words_of r) c.loop-k.out.indices c.loop-k.k c.loop-k.invariant.0 (omega arith) hs (slide_fits last words_n c.args.up c.args.n hs e c.requires.n_bound);
      flag = c.loop-k.invariant.1;
    }
