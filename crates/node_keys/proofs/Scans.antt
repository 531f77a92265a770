-- The key of a scan, by whether its columns are given. Assumes nothing.
use mathlib.Core.Path.{◌≡◌, refl, sym, ap, ◌∙◌}
use mathlib.Core.Bool.{true, false}
use mathlib.Core.List.{List, map}
use mathlib.Core.Option.{some}
use Prim.Native.Nat.{ℕ}
use native.Mathlib.Omega.{arith}
use lib.Dec.{eqb}
use Rattle.cpl.specs.Plan.{scan}
use Rattle.cpl.specs.Writable.{FitLeaf, FitList}
use Rattle.rules.specs.Keys.{leaf_key}
use Rattle.required_indices.specs.Request.{Holds, set_of}
use Rattle.required_indices.specs.declared.RequiredIndices.{RequiredIndices}
use Rattle.tree.specs.Rows.{columns_at}
use Rattle.tree.specs.Tree.{if?}
use Rattle.tree.specs.declared.ScanNode.{ScanNode}
use Rattle.key_sets.specs.Slots.{slot_at}
use Rattle.node_keys.specs.Found.{Carries, Finds}
use Rattle.node_keys.specs.Keys.{ScanKey}
use Rattle.node_keys.specs.declared.Found.{Found}
use Rattle.node_keys.proofs.Founds.{empty-carried}
use Rattle.node_keys.proofs.Nodes.{key_as}
use Rattle.node_keys.proofs.Tables.{scan-all, scan-given}

module _ {rows keys : List ℕ} {s : ScanNode} {key : RequiredIndices} where
  pub scan_carries : {f : Found} {r : RequiredIndices} → s.given ≡ true → Holds key (slot_at keys s.table) false → Finds key (map some (columns_at rows s.first s.n)) f → Carries key f r → ScanKey rows keys s r
  unfolding FitLeaf FitList
  scan_carries e o h c = record {
    is = λ C es fit ts g.
        let k = key_as (ts.each s.table (omega (arith, g.0, fit.tables_fit.0))) o.set refl in
        key_as (c.is _ _ k (h.is _ k)) refl
        (sym (ap (λ b. leaf_key C (scan s.table s.qualifier (if? b (columns_at rows s.first s.n)) es)) e ∙ scan-given C s.table s.qualifier es (columns_at rows s.first s.n)));
  }

  pub scan-empty : s.given ≡ true → Holds key (slot_at keys s.table) false → eqb (set_of key) 0 ≡ true → ScanKey rows keys s key
  unfolding FitLeaf FitList
  scan-empty e o z = record {
    is = λ C es fit ts g.
        let k = key_as (ts.each s.table (omega (arith, g.0, fit.tables_fit.0))) o.set refl in
        key_as (empty-carried (map some (columns_at rows s.first s.n)) k z) refl
        (sym (ap (λ b. leaf_key C (scan s.table s.qualifier (if? b (columns_at rows s.first s.n)) es)) e ∙ scan-given C s.table s.qualifier es (columns_at rows s.first s.n)));
  }

  pub scan-whole : s.given ≡ false → Holds key (slot_at keys s.table) false → ScanKey rows keys s key
  unfolding FitLeaf FitList
  scan-whole e o = record {
    is = λ C es fit ts g.
        key_as (ts.each s.table (omega (arith, g.0, fit.tables_fit.0))) o.set
        (sym (ap (λ b. leaf_key C (scan s.table s.qualifier (if? b (columns_at rows s.first s.n)) es)) e ∙ scan-all C s.table s.qualifier es fit));
  }
