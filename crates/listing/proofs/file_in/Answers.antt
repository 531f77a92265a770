-- `listing::file_in` meets its contract. Assumes nothing.
use Rattle.listing.proofs.Program.{behind, front}
use Rattle.listing.specs.Text.{file_in, most_read}
use lib.ListN.{take}
use mathlib.Core.Path.{◌∙◌, ap}
use Rattle.listing.proofs.file_in.Goals as goal

pub returns : goal.returns
unfolding file_in
returns c =
    front most_read _ _ c.min-2.ensures ∙ ap (take most_read) (behind 3 _ c.args.input.now c.min.ensures)
