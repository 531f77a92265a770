-- Kept items and kept fields: tests of them, and what copying items answers.
use Rattle.std.specs.Prelude.{◌≡◌, Bool, true, false, ◌&&◌, List, [], ◌∷◌, Result, Ok, Err, ℕ, ◌+◌, ◌*◌, ◌/◌, ◌^◌, ◌<◌, ◌≤◌, length}
use Rattle.cpl.specs.Tests.{all_b}
use Rattle.cpl.specs.Plan.{Pair, eq_p, Item, bare, named}
use Rattle.rules.specs.Mask.{select}
use Rattle.required_indices.specs.Request.{request_mask, set_of}
use Rattle.required_indices.specs.declared.RequiredIndices.{RequiredIndices}
use Rattle.arena.specs.Cells.{Wf}
use Rattle.arena.specs.declared.Full.{Full}
use Rattle.arena.specs.Rows.{items_at}
use Rattle.arena.specs.declared.Items.{Items}
use Rattle.arena_build.specs.Lists.{Listing, ListRefused}
use Rattle.lookup.specs.Fields.{RowIn, row_at}
use Rattle.projections.specs.declared.Copied.{Copied}

-- ── tests ───────────────────────────────────────────────────────────────────────────────────

unfoldable pub is_bare : Item → Bool
is_bare (bare c) = true
is_bare (named c e) = false

-- equal in number and place by place
unfoldable pub same_b : List Pair → List Pair → Bool
same_b [] [] = true
same_b [] (g ∷ gs) = false
same_b (f ∷ fs) [] = false
same_b (f ∷ fs) (g ∷ gs) = eq_p f g && same_b fs gs

-- the kept items of a list, and the kept fields of a row
abbrev pub kept_items : (items cells : List ℕ) (first count : ℕ) → RequiredIndices → List Item
kept_items s cells f n r = select (request_mask n r) (items_at s cells f n)

abbrev pub kept_of : Items → RequiredIndices → List Item
kept_of l r = kept_items l.rows.now l.cells.now l.first l.count r

abbrev pub kept_fields : (fields : List ℕ) (start width : ℕ) → RequiredIndices → List Pair
kept_fields s f w r = select (request_mask w r) (row_at s f w)

-- whatever cells the rows belong to
pub record AllBare (items : List ℕ) (first count : ℕ) (kept : RequiredIndices) (r : Bool) : Type 0 where
  pub is : (cells : List ℕ) → r ≡ all_b is_bare (kept_items items cells first count kept)

-- the fields lie in the array, and no index is past them
pub record FieldsIn (fields : List ℕ) (start width : ℕ) (r : RequiredIndices) : Type 0 where
  pub inside : RowIn fields start width
  pub within : set_of r < 2 ^ width

-- ── copies ──────────────────────────────────────────────────────────────────────────────────

-- the rows from `row` on, behind `used` nodes: no more rows are in use than nodes, and there is a row more than there are nodes; a row names
-- a node in 16 bits
pub record Room (rows cells : List ℕ) (row used : ℕ) : Type 0 where
  pub behind : row ≤ used
  pub rows_fit : (length cells / 3 + 1) * 4 ≤ length rows
  pub few : length cells ≤ 196608
  pub wf : Wf cells used

-- the items stand in the n rows from `row` on; still no more rows are in use than nodes
pub record Copies (js : List Item) (row n : ℕ) (rows cells : List ℕ) (used more : ℕ) (rows' cells' : List ℕ) : Type 0 where
  pub listing : Listing js row n rows cells used more rows' cells'
  pub long : n ≡ length js
  pub behind : row + n ≤ more

abbrev pub CopyAnswer : List Item → ℕ → (rows cells : List ℕ) → ℕ → Result Copied Full → (rows' cells' : List ℕ) → Type 0
CopyAnswer js row rows cells used (Ok c) rows' cells' = Copies js row c.rows rows cells used c.used rows' cells'
CopyAnswer js row rows cells used (Err full) rows' cells' = ListRefused js row rows cells used rows' cells'
