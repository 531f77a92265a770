-- `arena::tag_at` meets its contract: a well formed node's tag is its expression's. Assumes nothing.
use mathlib.Core.Path.{sym, ◌∙◌}
use Rattle.arena.proofs.Laws.{here, tag}
use Rattle.arena.proofs.tag_at.Goals as goal

pub words_at-requires : goal.words_at-requires
words_at-requires c =
    (here _ _ c.requires).inside

pub returns : goal.returns
returns c =
    c.words_at.ensures.tag_is ∙ sym (tag _ _ (here _ _ c.requires))
