-- The ways to end of the steps of the walk. Assumes nothing.
use mathlib.Core.Path.{◌≡◌, refl, sym, ◌∙◌}
use mathlib.Core.Bool.{Bool, true, false}
use mathlib.Core.List.{List, map}
use Prim.Native.Nat.{ℕ, ◌+◌}
use Rattle.cpl.specs.Plan.{Item, Pair, item_expr}
use Rattle.cpl.specs.Tests.{all_b}
use Rattle.rules.specs.Rules.{used}
use Rattle.std.proofs.Common.{Ok}
use Rattle.required_indices.specs.Request.{Asks, Holds}
use Rattle.required_indices.specs.declared.RequiredIndices.{RequiredIndices}
use Rattle.requests.specs.Asked.{Adds}
use Rattle.requests.proofs.Adding.{adds_alone}
use Rattle.projections.specs.Lists.{Copies, is_bare}
use Rattle.projections.specs.declared.Selection.{Selection}
use Rattle.projections.specs.declared.Selection.TheVariants as selection
use Rattle.walk_steps.specs.Steps.{Picked}
use Rattle.walk_steps.specs.declared.Chosen.{Chosen}
use Rattle.walk_steps.specs.declared.Used.{Used}

-- ── kept items ──────────────────────────────────────────────────────────────────────────────

module _ (js : List Item) (fs : List Pair) {none ask : RequiredIndices} (h : Holds none 0 false) (a : Adds (map item_expr js) fs none ask) where
  -- what the items ask of the input
  asks-used : Asks ask (used (map item_expr js) fs)
  asks-used = adds_alone (map item_expr js) fs h a

  abbrev chosen : Selection → Used → Chosen
  chosen list u = record { ask = ask; list = list; used = u }

  module _ {u : Used} {items cells : List ℕ} where
    pub columns_picked : {b : Bool} → b ≡ all_b is_bare js → b ≡ true → Picked js fs u items cells items cells (Ok (chosen selection.Columns u))
    columns_picked e b = record { asks = asks-used; flag = a.flag ∙ h.flag; taken = (sym e ∙ b, refl, refl, refl) }

    pub items_picked : {items' cells' : List ℕ} {b : Bool} → b ≡ all_b is_bare js → b ≡ false → {n more : ℕ} → Copies js u.rows n items cells u.cells more items' cells'
        → Picked js fs u items cells items' cells'
        (Ok (chosen (selection.Items u.rows n) (record { records = u.records; rows = u.rows + n; cells = more })))
    items_picked e g d = record { asks = asks-used; flag = a.flag ∙ h.flag; taken = (sym e ∙ g, refl, refl, d) }
