-- `required_indices::insert_in` meets its contract: words of 0 come into use, and one of the words in use has the index.
use borrow.Author.Rules.{rules}
use native.Mathlib.Omega.{arith}
use Prim.Native.Nat.{ℕ, ◌-◌, ◌*◌, ◌/◌, ◌%◌, ◌^◌}
use mathlib.Core.Path.{ap, ◌∙◌}
use mathlib.Core.List.{List, ◌++◌}
use lib.Bits.{or_lt}
use lib.ListN.{length, length-drop, length-take, replicate, take}
use Rattle.std.proofs.lemmas.Slice.{take-put_mid}
use Rattle.required_indices.proofs.Places.{added, fits_mid, fits_set, words}
use Rattle.required_indices.proofs.insert_in.Goals as goal

pub returns-clause-added : goal.returns-clause-added
returns-clause-added c =
    let ws = c.args.words.now in
    let n = c.min-n.result in
    let end = c.max-end.result in
    let few = length-take (end - n) (lib.ListN.drop n ws) in
    let gone = length-drop n ws in
    let zeros = c.fill.ensures.after (λ y e. search rules) ∙ ap (λ (x : ℕ). replicate x 0) (omega arith) in
    added c.args.used c.args.i n end _ (words ws (λ k. search rules)) (omega arith)
    (take-put_mid n (end - n) ws c.fill.new.self end (omega (arith, c.fill.ensures.len)) (omega arith) ∙ ap (λ (x : List ℕ). take n ws ++ x) zeros) (omega arith)

pub returns-clause-fits : goal.returns-clause-fits
returns-clause-fits c =
    let zeros = c.fill.ensures.after (λ y e. search rules) in
    let all = fits_mid _ _ c.args.words.now _ _ zeros (λ k. search rules) in
    let k = c.args.i / 64 in
    fits_set _ k _ (or_lt 64 _ ((1 * 2 ^ (c.args.i % 64)) % 2 ^ 64) (all k).fits (omega arith)) all
