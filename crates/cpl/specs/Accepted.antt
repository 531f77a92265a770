-- What acceptance says of a plan, node by node and without node numbers: `check` finds no fault exactly where `Accepted` holds (proofs/Accepted).
use Rattle.std.specs.Prelude.{List, [], ◌∷◌, Bool, true, not, ◌≤◌, T, length}
use Rattle.cpl.specs.Lists.{All}
use Rattle.cpl.specs.Plan.{Pair, Plan, leaf, unary, binary, Catalogue}
use Rattle.cpl.specs.Exprs.{known, leaf_exprs, definite, unary_exprs}
use Rattle.cpl.specs.Fields.{leaf_fields, leaf_input, unary_fields, binary_fields, fields_of}
use Rattle.cpl.specs.Accept.{conflict, Test, each_passes, binary_passes, even, together}

-- no two fields conflict, as a list of facts
pub data Clear : List Pair → Type 0 where
  n[] : Clear []
  ◌n∷◌ : {f : Pair} {fs : List Pair} → All (λ g. T (not (conflict f g))) fs → Clear fs → Clear (f ∷ fs)

infixr 30 ◌n∷◌
-- each reference finds one field, and no second one fits
pub record Resolved (all_pass : Test → Bool) : Type 0 where
  pub all_found : T (all_pass known)
  pub all_definite : T (all_pass definite)

-- a node without a fault
pub record NodeOk (C : Catalogue) (all_pass : Test → Bool) (inputs-even : Bool) (fs gs : List Pair) : Type 0 where
  pub resolved : Resolved all_pass
  pub as_wide : T inputs-even
  pub few : length fs ≤ C.version.max_fields
  pub distinct : Clear gs

unfoldable pub Accepted : Catalogue → Plan → Type 0
Accepted C (leaf h) = NodeOk C (each_passes (leaf_exprs h) (leaf_input C h)) true (leaf_fields C h) (leaf_fields C h)
Accepted C (unary h p) = Accepted C p × NodeOk C (each_passes (unary_exprs h) (fields_of C p)) true (unary_fields h (fields_of C p)) (unary_fields h (fields_of C p))
Accepted C (binary h p₁ p₂) =
    Accepted C p₁ × Accepted C p₂
    × NodeOk C (binary_passes h (fields_of C p₁) (fields_of C p₂)) (even h (fields_of C p₁) (fields_of C p₂)) (binary_fields h (fields_of C p₁) (fields_of C p₂)) (together h (fields_of C p₁) (fields_of C p₂))
