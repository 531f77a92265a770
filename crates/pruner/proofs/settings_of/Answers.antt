-- `pruner::settings_of` meets its contract. Assumes nothing.
use Rattle.pruner.proofs.Ends.{high_settings, low_settings}
use mathlib.Core.Path.{refl}
use Rattle.pruner.proofs.settings_of.Goals as goal

pub returns-then-mode-gt1 : goal.returns-then-mode-gt1
returns-then-mode-gt1 c = rw (c.new.ensures.0, c.new.ensures.1) (high_settings _ _ c.then-mode-gt1.either, refl, refl)

pub returns : goal.returns
returns c = (low_settings _ _ c.if-mode-gt1.false c.if-mask-gt4095.false, refl, refl)
