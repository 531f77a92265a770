-- What is known of the fields of an accepted, writable plan, and of the items of a projection that is still to be put on top of one.
use Rattle.std.specs.Prelude.{List, map, ◌≤◌, length}
use Rattle.cpl.specs.Limits.{Version}
use Rattle.cpl.specs.Lists.{All}
use Rattle.cpl.specs.Plan.{Pair, Item, item_pair, item_expr}
use Rattle.cpl.specs.Accept.{each_passes}
use Rattle.cpl.specs.Accepted.{Clear, Resolved}
use Rattle.cpl.specs.Writable.{FitList, FitPair, FitItem}

-- the fields of an accepted, writable plan
pub record FieldsOk (v : Version) (fs : List Pair) : Type 0 where
  pub few : length fs ≤ v.max_fields
  pub distinct : Clear fs
  pub pairs : All FitPair fs

-- items over these fields: their references are resolved, their pairs few and distinct, and they can be written
pub record Items (v : Version) (fs : List Pair) (is : List Item) : Type 0 where
  pub resolved : Resolved (each_passes (map item_expr is) fs)
  pub own : FieldsOk v (map item_pair is)
  pub fit : FitList FitItem v.max_items is
