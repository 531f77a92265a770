-- A node of an accepted plan that is asked for some of its fields.
use Rattle.std.specs.Prelude.{◌≡◌, List, ℕ, ◌<◌, ◌≤◌, length}
use Rattle.cpl.specs.Fields.{fields_of}
use Rattle.cpl.specs.Lists.{Fit}
use Rattle.rules.specs.Mask.{Mask}
use Rattle.required_indices.specs.Request.{Asks}
use Rattle.required_indices.specs.declared.RequiredIndices.{RequiredIndices}
use Rattle.tree.specs.Node.{node_at}
use Rattle.tree.specs.Tree.{lent, plan_at}
use Rattle.tree.specs.declared.Node.{Node}
use Rattle.tree.specs.declared.Node.TheVariants.{Projection, Filter, Sort, Limit, Aggregate, Window, SubqueryAlias, Union, Distinct, Join, Scan, Empty}
use Rattle.lookup.specs.Standing.{Standing}
use Rattle.key_sets.specs.Slots.{keys_room}
use Rattle.node_keys.specs.Keys.{NodeKeys}

-- a node that is no Projection
abbrev pub Other : Node → Type 0
Other (Projection f n) = ⊥
Other (Filter r) = Unit {0}
Other (Sort f n) = Unit {0}
Other (Limit s n) = Unit {0}
Other (Aggregate f g v) = Unit {0}
Other (Window f n) = Unit {0}
Other (SubqueryAlias q) = Unit {0}
Other (Union r) = Unit {0}
Other Distinct = Unit {0}
Other (Join j) = Unit {0}
Other (Scan s) = Unit {0}
Other (Empty b f n) = Unit {0}

-- `keys` has the keys of all nodes of such a plan
pub record AllKeys {cells rows nodes fields widths : List ℕ} (z : Standing cells rows nodes fields widths) (keys : List ℕ) : Type 0 where
  pub room : keys_room ≤ length keys
  pub nodes_have : NodeKeys z 0 keys

-- `node` is node k of such a plan and no Projection, and r asks for the fields R of it
pub record Asked (cells rows fields widths keys : List ℕ) (node : Node) (k : ℕ) (r : RequiredIndices) : Type 0 where
  pub nodes : List ℕ
  pub standing : Standing cells rows nodes fields widths
  pub keyed : AllKeys standing keys
  pub within : k < standing.count
  pub is : node ≡ node_at nodes k
  pub other : Other node
  pub R : Mask
  pub fit : Fit R (fields_of standing.C (plan_at (lent cells rows nodes) k))
  pub asks : Asks r R
