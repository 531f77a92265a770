-- `required_indices::RequiredIndices::equals` meets its contract: each word of one is that of the other.
use borrow.Author.Rules.{rules}
use borrow.Author.Tests.{tests}
use native.Mathlib.Omega.{arith}
use mathlib.Core.Path.{◌≡◌, refl}
use lib.ListN.{get_or, length, length-take}
use Rattle.std.proofs.lemmas.Iterator.{YieldsList-from_range, cases_from_all}
use Rattle.required_indices.specs.Request.{words_n, words_of}
use Rattle.required_indices.proofs.Pads.{words_take, in_use}
use Rattle.required_indices.proofs.Places.{words}
use Rattle.required_indices.proofs.Parts.{equal_all}
use Rattle.required_indices.proofs.RequiredIndices.equals.Goals as goal

pub returns : goal.returns
returns c =
    let r = c.args.self in
    let q = c.args.other in
    let long : length r.indices ≡ words_n = search rules in
    let long' : length q.indices ≡ words_n = search rules in
    let few = length-take r.used r.indices in
    let few' = length-take q.used q.indices in
    let same = in_use r.used c.min-a.result r.indices (omega (arith, c.min-a.ensures)) in
    let same' = in_use q.used c.min-b.result q.indices (omega (arith, c.min-b.ensures)) in
    let hs = words_take r.used (words r.indices (λ i. search rules)) in
    let ks = words_take q.used (words q.indices (λ i. search rules)) in
    equal_all c.max-n.result (words_of r) (words_of q) hs ks (omega (arith, c.max-n.ensures, c.min-a.ensures)) (omega (arith, c.max-n.ensures, c.min-b.ensures)) c.all.result
    (rw (same, same') (cases_from_all _ _ _ (λ k. get_or (lib.ListN.take c.min-a.result r.indices) k 0 ≡ get_or (lib.ListN.take c.min-b.result q.indices) k 0) (λ k. get_or (lib.ListN.take c.min-a.result r.indices) k 0 ≡ get_or (lib.ListN.take c.min-b.result q.indices) k 0 → ⊥) c.all.ensures.ran (YieldsList-from_range 0 c.max-n.result c.max-n.result refl (omega arith)) (λ x p k. search (rules, tests)) (λ x p k. search (rules, tests))))
