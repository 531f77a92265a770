-- What is said of the keys of nodes that were worked out, and of the groups that stay.
use Rattle.std.specs.Prelude.{◌≡◌, true, List, ℕ, ◌+◌, ◌<◌, ◌≤◌, length}
use Rattle.std.proofs.Math.Option.{Option}
use Rattle.cpl.specs.Plan.{Catalogue, Expr, scan}
use Rattle.cpl.specs.Writable.{FitCatalogue, FitLeaf}
use Rattle.rules.specs.Keys.{carried, kept_groups, key_of, leaf_key}
use Rattle.rules.specs.Mask.{Mask}
use Rattle.required_indices.specs.Request.{Asks, set_of}
use Rattle.required_indices.specs.declared.RequiredIndices.{RequiredIndices}
use Rattle.tree.specs.Rows.{columns_at}
use Rattle.tree.specs.Tree.{if?, lent, plan_at}
use Rattle.tree.specs.declared.Node.{Node}
use Rattle.tree.specs.declared.Node.TheVariants.{Projection, Filter, Sort, Limit, Aggregate, Window, SubqueryAlias, Union, Distinct, Join, Scan, Empty}
use Rattle.tree.specs.declared.ScanNode.{ScanNode}
use Rattle.lookup.specs.Standing.{Standing}
use Rattle.key_sets.specs.Slots.{KeySet, SlotIn, TableKeys, keys_room, node_slot, slot_at}
use Rattle.node_keys.specs.Found.{ColumnsIn}

-- ── nodes ───────────────────────────────────────────────────────────────────────────────────

-- "A key passes up through Filter, Sort, Limit, SubqueryAlias"
abbrev pub PassesOn : Node → Type 0
PassesOn (Projection f n) = ⊥
PassesOn (Filter r) = Unit {0}
PassesOn (Sort f n) = Unit {0}
PassesOn (Limit s n) = Unit {0}
PassesOn (Aggregate f g v) = ⊥
PassesOn (Window f n) = ⊥
PassesOn (SubqueryAlias q) = Unit {0}
PassesOn (Union r) = ⊥
PassesOn Distinct = ⊥
PassesOn (Join j) = ⊥
PassesOn (Scan s) = ⊥
PassesOn (Empty b f n) = ⊥

-- "nothing else"
abbrev pub HasNone : Node → Type 0
HasNone (Projection f n) = ⊥
HasNone (Filter r) = ⊥
HasNone (Sort f n) = ⊥
HasNone (Limit s n) = ⊥
HasNone (Aggregate f g v) = Unit {0}
HasNone (Window f n) = Unit {0}
HasNone (SubqueryAlias q) = ⊥
HasNone (Union r) = Unit {0}
HasNone Distinct = Unit {0}
HasNone (Join j) = Unit {0}
HasNone (Scan s) = ⊥
HasNone (Empty b f n) = Unit {0}

-- the table's slot lies in the array, and so do the scan's columns where they are given
pub record ScanIn (rows keys : List ℕ) (s : ScanNode) : Type 0 where
  pub table : SlotIn keys s.table
  pub columns : s.given ≡ true → ColumnsIn rows s.first s.n

-- the key of a scan of a catalogue whose tables' keys stand in their slots
pub record ScanKey (rows keys : List ℕ) (s : ScanNode) (r : RequiredIndices) : Type 0 where
  pub is : (C : Catalogue) (es : List Expr) → FitCatalogue C → TableKeys C keys
      → let h = scan s.table s.qualifier (if? s.given (columns_at rows s.first s.n)) es in FitLeaf C h → KeySet (set_of r) (leaf_key C h)

-- the key of a Projection over its input's, its items being at the places ps
pub record ProjectionKey (key : RequiredIndices) (ps : List (Option ℕ)) (r : RequiredIndices) : Type 0 where
  pub is : (ks : List ℕ) → KeySet (set_of key) ks → KeySet (set_of r) (carried ks ps)

-- node k of an accepted plan, with slots for all
pub record NodeAsked (cells rows nodes fields widths keys : List ℕ) (k : ℕ) : Type 0 where
  pub standing : Standing cells rows nodes fields widths
  pub within : k < standing.count
  pub room : keys_room ≤ length keys

-- the slots of the nodes from k on have their keys
pub record NodeKeys {cells rows nodes fields widths : List ℕ} (z : Standing cells rows nodes fields widths) (k : ℕ) (keys : List ℕ) : Type 0 where
  pub each : (j : ℕ) → k ≤ j → j < z.count → KeySet (slot_at keys (node_slot j)) (key_of z.C (plan_at (lent cells rows nodes) j))

pub record NodeKeyIs (cells rows nodes fields widths keys : List ℕ) (k : ℕ) (r : RequiredIndices) : Type 0 where
  pub is : (z : Standing cells rows nodes fields widths) → k < z.count → TableKeys z.C keys → NodeKeys z (k + 1) keys → KeySet (set_of r) (key_of z.C (plan_at (lent cells rows nodes) k))

-- an accepted plan, with slots for all
pub record PlanAsked (cells rows nodes fields widths keys : List ℕ) (count : ℕ) : Type 0 where
  pub standing : Standing cells rows nodes fields widths
  pub count_is : count ≡ standing.count
  pub room : keys_room ≤ length keys

-- from the tables' keys those of all nodes
pub record KeysFound (cells rows nodes fields widths : List ℕ) (count : ℕ) (keys keys' : List ℕ) : Type 0 where
  pub long : length keys' ≡ length keys
  pub is : (z : Standing cells rows nodes fields widths) → count ≡ z.count → TableKeys z.C keys → TableKeys z.C keys' × NodeKeys z 0 keys'

-- ── groups ──────────────────────────────────────────────────────────────────────────────────

-- of groups at the places ps those that stay, where R is asked of them
pub record KeptGroups (key asked : RequiredIndices) (ps : List (Option ℕ)) (r : RequiredIndices) : Type 0 where
  pub is : (ks : List ℕ) (R : Mask) → KeySet (set_of key) ks → Asks asked R → length R ≡ length ps → Asks r (kept_groups ks ps R)
