-- The fields of a node of an accepted plan, in their row. Assumes nothing.
use mathlib.Core.Path.{◌≡◌, sym, ap, ap₂, ◌∙◌}
use mathlib.Core.Bool.{not}
use mathlib.Core.List.{List}
use Prim.Native.Nat.{ℕ, ◌<◌, ◌≤◌}
use native.Mathlib.Omega.{arith}
use lib.Dec.{T}
use lib.ListN.{length}
use Rattle.cpl.specs.Accept.{clash}
use Rattle.cpl.specs.Fields.{fields_of}
use Rattle.cpl.proofs.Accepted.{distinct-fields, few-fields}
use Rattle.cpl.proofs.Clash.{no_clash}
use Rattle.tree.specs.Rows.{one}
use Rattle.tree.specs.Tree.{lent, plan_at}
use Rattle.lookup.specs.Fields.{RowIn, field_at, fields_at, first_at, row_at, width_at}
use Rattle.lookup.specs.Standing.{Standing}
use Rattle.lookup.proofs.Lists.{list_length}

module _ {cells rows nodes fields widths : List ℕ} (z : Standing cells rows nodes fields widths) (j : ℕ) (l : j < z.count) where
  pub fields-few : length (fields_of z.C (plan_at (lent cells rows nodes) j)) ≤ z.C.version.max_fields
  fields-few = few-fields z.C (plan_at (lent cells rows nodes) j) (z.accepted j l)

  pub fields-clear : T (not (clash (fields_of z.C (plan_at (lent cells rows nodes) j))))
  fields-clear = no_clash (distinct-fields z.C (plan_at (lent cells rows nodes) j) (z.accepted j l))

  -- its row, from the first field on that is stored, of the width that is stored
  module _ {f w : ℕ} (d : f ≡ first_at widths j) (e : w ≡ width_at widths j) where
    pub row_is : row_at fields f w ≡ fields_of z.C (plan_at (lent cells rows nodes) j)
    unfolding fields_at
    row_is = ap₂ (row_at fields) d e ∙ z.stand j l

    pub row-long : w ≡ length (fields_of z.C (plan_at (lent cells rows nodes) j))
    row-long = sym (list_length (field_at fields) one f w) ∙ ap length row_is

    pub row_in : RowIn fields f w
    row_in = omega (arith, z.inside j l, d, e)
