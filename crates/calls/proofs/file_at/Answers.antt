-- `calls::file_at` meets its contract. Assumes nothing.
use Rattle.listing.proofs.Program.{behind, front}
use Rattle.listing.specs.Text.{most_read}
use Rattle.calls.specs.Calls.{file_in}
use Prim.Native.Nat.{ℕ, ◌+◌, min}
use lib.ListN.{drop, take}
use mathlib.Core.Path.{◌∙◌, ap}
use Rattle.calls.proofs.file_at.Goals as goal

pub returns : goal.returns
unfolding file_in
returns c =
    front c.min-size.result _ _ c.min-2.ensures ∙ ap (take c.min-size.result) (behind (c.args.at + 4) _ c.args.input.now c.min.ensures)
    ∙ ap (λ (i : ℕ). take i (drop (c.args.at + 4) c.args.input.now)) (c.min-size.ensures ∙ ap (λ (i : ℕ). min i most_read) c.word_at.ensures.0)
