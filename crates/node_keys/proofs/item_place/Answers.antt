-- `node_keys::item_place` meets its contract: by what the expression is. Assumes nothing.
use Rattle.node_keys.proofs.Steps.{place-column, place-literal, place-missing, place-one, place-two}
use mathlib.Core.Logic.{⊎_elim}
use mathlib.Core.Path.{refl}
use Rattle.node_keys.proofs.item_place.Goals as goal

pub returns-in-Col : goal.returns-in-Col
returns-in-Col c = place-column _ _ (rw c.in-Col.is at c.node_at.ensures) c.first_fit.ensures

pub returns-in-Lit : goal.returns-in-Lit
returns-in-Lit c =
    ⊎_elim
    (λ h. place-literal _ (rw h.1 at c.node_at.ensures) refl)
    (⊎_elim (λ h. place-missing _ (rw h at c.node_at.ensures) refl) (⊎_elim (λ h. place-one _ (rw h.2 at c.node_at.ensures).means refl) (λ h. place-two _ (rw h.3 at c.node_at.ensures).means refl)))
    c.in-Lit.is
