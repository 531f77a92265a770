-- What is known of an accepted plan in the lent arrays.
use Rattle.std.specs.Prelude.{◌≡◌, List, ℕ, ◌<◌}
use Rattle.cpl.specs.Fields.{fields_of}
use Rattle.cpl.specs.Plan.{Catalogue}
use Rattle.cpl.specs.Writable.{FitCatalogue}
use Rattle.cpl.specs.Accepted.{Accepted}
use Rattle.tree.specs.Tree.{lent, plan_at, WfTree}
use Rattle.lookup.specs.Fields.{RowIn, fields_at, first_at, width_at}

-- the plan can be walked, the fields of each node stand in its row, which lies in the array, and every node is accepted
pub record Standing (cells rows nodes fields widths : List ℕ) : Type 0 where
  pub C : Catalogue
  pub count : ℕ
  pub tables : FitCatalogue C
  pub tree : WfTree C (lent cells rows nodes) count
  pub stand : (j : ℕ) → j < count → fields_at fields widths j ≡ fields_of C (plan_at (lent cells rows nodes) j)
  pub accepted : (j : ℕ) → j < count → Accepted C (plan_at (lent cells rows nodes) j)
  pub inside : (j : ℕ) → j < count → RowIn fields (first_at widths j) (width_at widths j)
