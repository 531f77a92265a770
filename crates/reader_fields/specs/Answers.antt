-- What the readers of src/ answer and store, in terms of the readers of cpl and of the layout of tree.
-- Each goes by cases of the answer: it says what the definition's reader finds, so the answer is the definition's.
-- Assumes nothing: these are definitions.
use Rattle.std.specs.Prelude.{ℕ, ◌+◌, ◌*◌, ◌≤◌, ◌<◌, ◌≡◌, Bool, List, [], leb, Result, Ok, Err}
use Rattle.std.proofs.lemmas.List.Edits.{sets}
use Rattle.cpl.specs.Limits.{max_tags}
use Rattle.cpl.specs.Plan.{Pair, pair, Expr}
use Rattle.cpl.specs.Exprs.{expr_tags}
use Rattle.cpl.specs.Read.{Res, ok, bad, Reader}
use Rattle.cpl.specs.ReadExpr.{expr_to}
use Rattle.refusals.specs.Codes.{code_of}
use Rattle.refusals.specs.declared.Refusal.{Refusal}
use Rattle.tree.specs.Layout.{Store, expr_cells}
use Rattle.reader_fields.specs.declared.Field.{Field}
use Rattle.reader_fields.specs.declared.PairField.{PairField}
use Rattle.reader_fields.specs.declared.Spot.{Spot}

-- ── fields ──────────────────────────────────────────────────────────────────────────────────

-- what a reader of a field finds at a place, for all numbers of tags and nodes
abbrev pub Finds : Type 0 → Type 0
Finds A = ℕ → ℕ → Res A

-- the answer is the reader's, and its value is below `top`
abbrev pub Fields : (top : ℕ) → Finds ℕ → Result Field Refusal → Type 0
Fields top p (Ok f) = ((tags n : ℕ) → p tags n ≡ ok f.value f.next tags n) × (f.value < top)
Fields top p (Err e) = (tags n : ℕ) → p tags n ≡ bad (code_of e.reason) e.place

-- counts from `least` on are allowed
abbrev pub From : (least : ℕ) → (ℕ → Bool) → Type 0
From least allowed = (x : ℕ) → allowed x ≡ leb least x

-- a tag is one tag more
abbrev pub Tags : (tags : ℕ) → (ℕ → Res ℕ) → Result Field Refusal → Type 0
Tags tags p (Ok f) = ((n : ℕ) → p n ≡ ok f.value f.next (tags + 1) n) × (f.value < 256) × (tags < max_tags)
Tags tags p (Err e) = (n : ℕ) → p n ≡ bad (code_of e.reason) e.place

abbrev pub Pairs : Finds Pair → Result PairField Refusal → Type 0
Pairs p (Ok f) = ((tags n : ℕ) → p tags n ≡ ok (pair f.qualifier f.name) f.next tags n) × (f.qualifier < 65536) × (f.name < 65536)
Pairs p (Err e) = (tags n : ℕ) → p tags n ≡ bad (code_of e.reason) e.place

-- ── parts ───────────────────────────────────────────────────────────────────────────────────

abbrev pub spot : (at tags made row : ℕ) → Spot
spot at tags made row = record { at = at; tags = tags; made = made; row = row }

-- something was read, which ends at the spot t and stands in the cells and rows from the spot `from` on
pub record Took {A : Type 0} (s : Store A) (from : Spot) (cells cells' rows rows' : List ℕ) (n : ℕ) (x : Res A) (t : Spot) : Type 0 where
  pub value : A
  pub is : x ≡ ok value t.at t.tags n
  pub made_is : t.made ≡ from.made + s.nodes_in value
  pub row_is : t.row ≡ from.row + s.rows_held value
  pub cells_are : cells' ≡ sets cells (3 * from.made) (s.cells_of from.made value)
  pub rows_are : rows' ≡ sets rows (4 * from.row) (s.rows_of from.made value)
  pub grown : from.tags + s.nodes_in value ≤ t.tags
  pub few : t.tags ≤ max_tags

-- the answer is what was read, x, and what was read is stored
abbrev pub Right : {A : Type 0} → Store A → Spot → (cells cells' rows rows' : List ℕ) → (n : ℕ) → Res A → Result Spot Refusal → Type 0
Right s from cells cells' rows rows' n x (Ok t) = Took s from cells cells' rows rows' n x t
Right s from cells cells' rows rows' n x (Err e) = x ≡ bad (code_of e.reason) e.place

-- an expression without a row
abbrev pub bare_store : Store Expr
bare_store = record { cells_of = expr_cells; rows_of = λ made e. []; nodes_in = expr_tags; rows_held = λ e. 0 }

-- the answer for what p reads at a spot, where only cells are stored to
abbrev pub RightCells : Reader Expr → List ℕ → (from : Spot) → (tags : ℕ) → (cells cells' : List ℕ) → Result Spot Refusal → Type 0
RightCells p file from tags cells cells' r = (n : ℕ) → Right bare_store from cells cells' [] [] n (p file from.at tags n) r

-- the same of an expression, for every depth that the tags left allow
abbrev pub Reads : List ℕ → (from : Spot) → (cells cells' : List ℕ) → Result Spot Refusal → Type 0
Reads file from cells cells' r = (deep : ℕ) → max_tags < from.tags + deep → RightCells (expr_to deep) file from from.tags cells cells' r
