-- `required_indices::has_in` meets its contract.
use native.Mathlib.Omega.{arith}
use mathlib.Core.Path.{◌≡◌, sym, ap, ◌∙◌}
use mathlib.Core.List.{List}
use Prim.Native.Nat.{ℕ, ◌/◌, ◌%◌}
use lib.ListN.{length, get_or}
use Rattle.required_indices.specs.Set.{has}
use Rattle.required_indices.specs.Request.{words_n}
use Rattle.required_indices.proofs.Pads.{words_take, in_use}
use Rattle.required_indices.proofs.Places.{words, has_at}
use Rattle.required_indices.proofs.has_in.Goals as goal

pub returns : goal.returns
unfolding has
returns c =
    let ws = c.args.words.now in
    let n = c.min.result in
    let e = c.min.ensures in
    let long : length ws ≡ words_n = c.requires in
    let hs = words_take c.args.used (words ws c.type_inv.words) in
    ap (λ (x : ℕ). has x (c.args.i % 64)) (c.word-w.ensures ∙ ap (λ (x : List ℕ). get_or x (c.args.i / 64) 0) (sym (in_use c.args.used n ws (omega arith)))) ∙ sym (has_at hs c.args.i)
