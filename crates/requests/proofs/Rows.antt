-- A set has room for the fields of a node of an accepted plan. Assumes nothing.
use mathlib.Core.Path.{◌≡◌}
use mathlib.Core.List.{List}
use Prim.Native.Nat.{ℕ, ◌*◌, ◌≤◌, ◌<◌}
use native.Mathlib.Omega.{arith}
use lib.ListN.{length}
use Rattle.cpl.specs.Fields.{fields_of}
use Rattle.versions.proofs.Small.{small}
use Rattle.required_indices.specs.Request.{words_n}
use Rattle.tree.specs.Tree.{lent, plan_at}
use Rattle.lookup.specs.Fields.{first_at, width_at}
use Rattle.lookup.specs.Standing.{Standing}
use Rattle.lookup.proofs.Standing.{fields-few, row_in, row-long}
use Rattle.requests.specs.Asked.{Below}

module _ {cells rows nodes fields widths : List ℕ} (z : Standing cells rows nodes fields widths) (j : ℕ) (l : j < z.count) where
  pub set-fits : length (fields_of z.C (plan_at (lent cells rows nodes) j)) ≤ words_n * 64
  set-fits = omega (arith, fields-few z j l, (small z.tables.version_is).fields-small)

  pub row_below : {f w : ℕ} → f ≡ first_at widths j → w ≡ width_at widths j → Below fields f w
  row_below ef e = record { inside = row_in z j l ef e; few = omega (arith, row-long z j l ef e, set-fits) }
