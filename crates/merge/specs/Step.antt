-- What one step of merging says of the two lists.
use Rattle.std.specs.Prelude.{◌≡◌, Bool, true, List, map, Result, Ok, Err, ℕ, ◌*◌, ◌/◌, ◌%◌, ◌^◌, ◌≤◌, eqb, length}
use Rattle.std.proofs.Math.Option.{none, some}
use Rattle.cpl.specs.Exprs.{item_tags}
use Rattle.cpl.specs.Limits.{max_tags, max_wide}
use Rattle.cpl.specs.Accept.{each_passes}
use Rattle.cpl.specs.Plan.{Item, item_expr, item_pair}
use Rattle.cpl.specs.Tests.{sum_of}
use Rattle.cpl.specs.Accepted.{Clear, Resolved}
use Rattle.rules.specs.Merge.{merge_step}
use Rattle.rules.specs.Rewrite.{too_long}
use Rattle.arena.specs.Rows.{RowsOk, items_at}
use Rattle.arena.specs.declared.Full.{Full}
use Rattle.merge.specs.declared.Step.{Step}
use Rattle.merge.specs.declared.Step.TheVariants.{Merged, Same, Stop}

-- "bit t for a definition whose outermost tag beneath the alias is t"
abbrev pub pushes_tag : (mask tag : ℕ) → Bool
pushes_tag m t = eqb (m / 2 ^ t % 2) 1

-- an upper list js of an accepted plan reads the lower list is: no two of the lower pairs clash, and each reference of js finds one of them
pub record Reads (js is : List Item) : Type 0 where
  pub clear : Clear (map item_pair is)
  pub resolved : Resolved (each_passes (map item_expr js) (map item_pair is))

-- rows for the list, and nodes for all that a list may have; a row names a node in 16 bits
pub record Room (rows cells : List ℕ) (size : ℕ) : Type 0 where
  pub few : size ≤ max_wide
  pub rows_long : size * 4 ≤ length rows
  pub cells_long : max_tags * 3 ≤ length cells
  pub cells_short : length cells ≤ 196608

-- a list that stands at the front of two arrays, and is not too long
pub record Held (rows cells : List ℕ) (size : ℕ) : Type 0 where
  pub rows_ok : RowsOk rows cells 0 size
  pub few : sum_of item_tags (items_at rows cells 0 size) ≤ max_tags

-- "a merge step's list is over 4,096 tags"
pub record Over (house : Bool) (mask : ℕ) (js is : List Item) : Type 0 where
  pub list : List Item
  pub step : merge_step house mask js is ≡ some list
  pub long : too_long list ≡ true

-- what a step answers of the upper list js and the lower list is
abbrev pub Stepped : (house : Bool) (mask : ℕ) (js is : List Item) (size : ℕ) → Result Step Full → (rows cells : List ℕ) → Type 0
Stepped house mask js is size (Ok Same) rows cells = merge_step house mask js is ≡ some js
Stepped house mask js is size (Ok Stop) rows cells = merge_step house mask js is ≡ none
Stepped house mask js is size (Ok Merged) rows cells = (merge_step house mask js is ≡ some (items_at rows cells 0 size)) × Held rows cells size
Stepped house mask js is size (Err full) rows cells = Over house mask js is
