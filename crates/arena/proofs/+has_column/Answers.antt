-- The proof of the cycle of calls {has_column}. The measure is the node's number. Assumes nothing.
use mathlib.Core.Path.{◌≡◌, refl, sym, ap, ap₂, ◌∙◌}
use mathlib.Core.Logic.{inl, inr}
use mathlib.Core.Bool.{Bool, ◌||◌}
use Rattle.cpl.specs.Plan.{Expr, Op2, bin}
use Rattle.cpl.specs.Exprs.{columns?}
use Rattle.arena.proofs.Laws.{operand}
use Rattle.arena.proofs.+has_column.Goals as goal

two-columns : {e x y : Expr} {o : Op2} {a b : Bool} → e ≡ bin o x y → a ≡ columns? x → b ≡ columns? y → a || b ≡ columns? e
unfolding columns?
two-columns v p q = ap₂ ◌||◌ p q ∙ sym (ap columns? v)

pub has_column-requires : goal.has_column-requires
has_column-requires t c =
    operand _ _ _ c.decreases c.requires _ (rw c.in-One.is at c.node_at.ensures).below

pub has_column-requires-in-Two : goal.has_column-requires-in-Two
has_column-requires-in-Two t c =
    operand _ _ _ c.decreases c.requires _ (rw c.in-Two.is at c.node_at.ensures).first

pub returns-then-has_column : goal.returns-then-has_column
returns-then-has_column t c =
    c.if-has_column.true ∙ two-columns (rw c.in-Two.is at c.node_at.ensures).means (sym c.if-has_column.true ∙ c.has_column-in-Two.ensures) refl

pub has_column-requires-else-has_column : goal.has_column-requires-else-has_column
has_column-requires-else-has_column t c =
    operand _ _ _ c.decreases c.requires _ (rw c.in-Two.is at c.node_at.ensures).second

pub returns-in-Col : goal.returns-in-Col
unfolding columns?
returns-in-Col t c =
    sym (ap columns? (rw c.in-Col.is at c.node_at.ensures))

pub returns-in-Lit : goal.returns-in-Lit
unfolding columns?
returns-in-Lit t c =
    elim c.in-Lit.is [
      | inl (v, h) ↦ sym (ap columns? (rw h at c.node_at.ensures))
      | inr h ↦ sym (ap columns? (rw h at c.node_at.ensures))
    ]

pub returns-in-One : goal.returns-in-One
unfolding columns?
returns-in-One t c =
    c.has_column.ensures ∙ sym (ap columns? (rw c.in-One.is at c.node_at.ensures).means)

pub returns-else-has_column : goal.returns-else-has_column
returns-else-has_column t c =
    two-columns (rw c.in-Two.is at c.node_at.ensures).means (sym c.if-has_column.false ∙ c.has_column-in-Two.ensures) c.has_column-else-has_column.ensures
