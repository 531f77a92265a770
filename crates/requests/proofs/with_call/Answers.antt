-- `requests::with_call` meets its contract. Assumes nothing.
use borrow.Author.Tests.{eq-eqb, ne_eqb}
use mathlib.Core.Path.{◌≡◌}
use mathlib.Core.List.{[], ◌∷◌}
use Prim.Native.Nat.{ℕ}
use Rattle.cpl.specs.Exprs.{call_exprs}
use Rattle.cpl.specs.Plan.{Expr}
use Rattle.tree.specs.Rows.{call_of}
use Rattle.requests.proofs.Adding.{adds_none}
use Rattle.requests.proofs.with_call.Goals as goal

no_call : (f : ℕ) (e : Expr) → f ≡ 0 → call_exprs (call_of f e) ≡ []
unfolding call_exprs call_of
no_call f e h = rw (eq-eqb f 0 h)

a_call : (f : ℕ) (e : Expr) → (f ≡ 0 → ⊥) → call_exprs (call_of f e) ≡ e ∷ []
unfolding call_exprs call_of
a_call f e h = rw (ne_eqb f 0 h)

pub returns-then-function-eq0 : goal.returns-then-function-eq0
returns-then-function-eq0 c =
    rw (no_call _ _ c.if-function-eq0.true) adds_none

pub returns : goal.returns
returns c =
    rw (a_call _ _ c.if-function-eq0.false) c.add_expr.ensures
