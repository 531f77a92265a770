-- `node_keys::carried` meets its contract: by `seen_all`. Assumes nothing.
use Rattle.node_keys.proofs.Founds.{carried_no, carried_yes}
use mathlib.Core.Path.{sym, ◌∙◌}
use Rattle.node_keys.proofs.carried.Goals as goal

pub returns-then-equals : goal.returns-then-equals
returns-then-equals c = record { is = λ ks ps k h. carried_yes k h (sym c.equals.ensures ∙ c.if-equals.true) }

pub returns-else-equals : goal.returns-else-equals
returns-else-equals c = record { is = λ ks ps k h. carried_no k h (sym c.equals.ensures ∙ c.if-equals.false) c.new.ensures.set }
