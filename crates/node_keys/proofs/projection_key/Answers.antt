-- `node_keys::projection_key` meets its contract: by `carried`. Assumes nothing.
use Rattle.node_keys.proofs.Founds.{empty-carried}
use mathlib.Core.Path.{sym, ◌∙◌}
use Rattle.node_keys.proofs.projection_key.Goals as goal

pub returns-then-is_empty : goal.returns-then-is_empty
returns-then-is_empty c = record { is = λ ks k. empty-carried _ k (sym c.is_empty.ensures ∙ c.if-is_empty.true) }
