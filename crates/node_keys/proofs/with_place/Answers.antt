-- `node_keys::with_place` meets its contract: a case for each way. Assumes nothing.
use Rattle.node_keys.proofs.Steps.{step-again, step_computed, step-first, step_other}
use mathlib.Core.Path.{sym, ◌∙◌, refl}
use Rattle.node_keys.proofs.with_place.Goals as goal

pub returns-in_default : goal.returns-in_default
returns-in_default c = step_computed c.in_default.is

pub returns-then-not-contains : goal.returns-then-not-contains
returns-then-not-contains c = step_other _ c.in-Some.is (sym c.contains.ensures ∙ c.if-not-contains.true)

pub returns-then-contains : goal.returns-then-contains
returns-then-contains c = step-again _ c.in-Some.is (sym c.contains.ensures ∙ c.if-not-contains.false) c.with_index-all.ensures.set (sym c.contains-2.ensures ∙ c.if-contains.true) refl refl

pub returns : goal.returns
returns c = step-first _ c.in-Some.is (sym c.contains.ensures ∙ c.if-not-contains.false) c.with_index-all.ensures.set (sym c.contains-2.ensures ∙ c.if-contains.false) c.with_index.ensures.set c.with_index-2.ensures.set
