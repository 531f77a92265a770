-- `required_indices::RequiredIndices::append` meets its contract.
use borrow.Author.Rules.{rules}
use native.Mathlib.Omega.{arith}
use Prim.Native.Nat.{ℕ}
use mathlib.Core.Path.{refl, sym, ap, ◌∙◌}
use mathlib.Core.List.{List}
use lib.ListN.{get_or, take, length-take}
use Rattle.required_indices.specs.Words.{number}
use Rattle.required_indices.specs.Request.{words_of}
use Rattle.required_indices.proofs.Pads.{words_take, in_use}
use Rattle.required_indices.proofs.Places.{Whole, words}
use Rattle.required_indices.proofs.Parts.{or_start, or_turn, or_end}
use Rattle.required_indices.proofs.RequiredIndices.append.Goals as goal

pub loop-k-init : goal.loop-k-init
loop-k-init c =
    let r = c.args.self in
    let q = c.args.other in
    let g : Whole r × Whole q = (record { long = search rules; each = words r.indices (λ i. search rules) }, record { long = search rules; each = words q.indices (λ i. search rules) }) in
    let long = g.0.long in
    let long' = g.1.long in
    let d = c.min-a.ensures in
    let d' = c.min-b.ensures in
    let n = c.max-n.result in
    let e = c.max-n.ensures in
    (or_start n (words_of r) (words_of q) r.indices 0 (omega arith), refl, refl, g)

pub loop-k-preserved : goal.loop-k-preserved
loop-k-preserved c =
    let k = c.loop-k.k in
    let g = c.loop-k.invariant.3 in
    let r = c.args.self in
    let q = c.args.other in
    let long = g.0.long in
    let long' = g.1.long in
    let d = c.min-a.ensures in
    let d' = c.min-b.ensures in
    let n = c.max-n.result in
    let e = c.max-n.ensures in
    let same = sym (in_use r.used c.min-a.result r.indices (omega arith)) in
    let same' = sym (in_use q.used c.min-b.result q.indices (omega arith)) in (
      or_turn n (words_of r) (words_of q) c.loop-k.out.indices k c.loop-k.invariant.0 c.word-w.result c.word-v.result (omega arith)
          (c.word-w.ensures ∙ ap (λ (x : List ℕ). get_or x k 0) same) (c.word-v.ensures ∙ ap (λ (x : List ℕ). get_or x k 0) same'),
      c.loop-k.invariant.1,
      c.loop-k.invariant.2,
      g,
    )

pub returns : goal.returns
returns c =
    let g = c.loop-k.invariant.3 in
    let r = c.args.self in
    let q = c.args.other in
    let long = g.0.long in
    let long' = g.1.long in
    let d = c.min-a.ensures in
    let d' = c.min-b.ensures in
    let n = c.max-n.result in
    let e = c.max-n.ensures in
    let few = length-take r.used r.indices in
    let few' = length-take q.used q.indices in
    let hs = words_take r.used g.0.each in
    let ks = words_take q.used g.1.each in
    let cur = c.loop-k.out.indices in
    record {
      set = ap (λ (x : ℕ). number (take x cur)) c.loop-k.invariant.1 ∙ or_end n (words_of r) (words_of q) cur c.loop-k.k c.loop-k.invariant.0 (omega arith) hs ks (omega arith) (omega arith);
      flag = c.loop-k.invariant.2;
    }
