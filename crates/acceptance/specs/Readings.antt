-- What is said of a file, and the plan of an accepted one as it stands in the arrays.
use Rattle.std.specs.Prelude.{◌≡◌, Bool, false, List, [], ◌∷◌, ℕ, ◌<◌, ◌≤◌, length, Result, Ok, Err}
use Rattle.std.proofs.Math.Option.{none}
use Rattle.cpl.specs.Limits as cpl-limits
use Rattle.cpl.specs.Plan.{Catalogue, Plan}
use Rattle.cpl.specs.Exprs.{plan_nodes, plan_tags}
use Rattle.cpl.specs.Read.{ok}
use Rattle.cpl.specs.ReadPlan.{read_catalogue, read_file, read_mark, starts}
use Rattle.cpl.specs.Accept as cpl
use Rattle.cpl.specs.Writable.{FitCatalogue}
use Rattle.rules.specs.Check as rules
use Rattle.rules.specs.Success.{source_of}
use Rattle.refusals.specs.Codes.{code_of}
use Rattle.refusals.specs.declared.Refusal.{Refusal}
use Rattle.versions.specs.Versions.{fields_room, rows_room, version_of}
use Rattle.versions.specs.declared.Version.{Version}
use Rattle.tree.specs.Tree.{lent, plan_at, WfTree}
use Rattle.key_sets.specs.Slots.{TableKeys}
use Rattle.accept.specs.Verdicts.{FieldsStand}
use Rattle.acceptance.specs.declared.Checked.{Checked}
use Rattle.acceptance.specs.declared.Reading.{Reading}

-- an accepted plan's numbers, or a refusal's
abbrev pub checked_of : Result Reading Refusal → Checked
checked_of (Ok r) = record { code = 0; place = 0; nodes = r.nodes; fields = r.fields }
checked_of (Err e) = record { code = code_of e.reason; place = e.place; nodes = 0; fields = 0 }

-- the four numbers are those of the definition
pub record CheckedIs (c : rules.Checked) (r : Checked) : Type 0 where
  pub code_is : r.code ≡ c.code
  pub place_is : r.place ≡ c.place
  pub nodes_is : r.nodes ≡ c.nodes
  pub fields_is : r.fields ≡ c.fields

-- the plan at the root of the arrays
abbrev pub root_plan : (cells rows nodes : List ℕ) → Plan
root_plan cells rows nodes = plan_at (lent cells rows nodes) 0

-- the file starts with the mark of this version
abbrev pub Marked : (file : List ℕ) → cpl-limits.Version → Type 0
Marked file v = read_mark file 0 0 0 ≡ ok v 5 0 0

-- does the file start with the mark of the version of this number?
abbrev pub marked_as : (number : ℕ) (file : List ℕ) → Bool
marked_as number file = starts (67 ∷ 80 ∷ 76 ∷ number ∷ 0 ∷ []) file

-- it is of no version below this number
abbrev pub NoneBelow : (file : List ℕ) → (number : ℕ) → Type 0
NoneBelow file number = (k : ℕ) → 1 ≤ k → k < number → marked_as k file ≡ false

-- 128 fields a node are enough for the file's version
abbrev pub Narrow : (file : List ℕ) → Type 0
Narrow file = (v : cpl-limits.Version) → Marked file v → v.max_fields ≤ 128

-- so many numbers of rows and of fields are enough for the file's version
abbrev pub Fits : (file : List ℕ) → (rows fields : ℕ) → Type 0
Fits file rows fields = (v : cpl-limits.Version) → Marked file v → (rows_room v ≤ rows) × (fields_room v ≤ fields)

-- the lent arrays are long enough for every plan file of the file's version
pub record Room (file cells rows nodes names fields widths keys : List ℕ) : Type 0 where
  pub cells_long : 12288 ≤ length cells
  pub rows_long : (v : cpl-limits.Version) → Marked file v → rows_room v ≤ length rows
  pub nodes_long : 1792 ≤ length nodes
  pub names_long : 8208 ≤ length names
  pub fields_long : (v : cpl-limits.Version) → Marked file v → fields_room v ≤ length fields
  pub widths_long : 512 ≤ length widths
  pub keys_long : 2448 ≤ length keys

-- the file's plan was read, is of that version, starts at that offset, is accepted and stands in the arrays with the fields of each of its nodes and the
-- keys of its tables
pub record PlanIn (file cells rows nodes fields widths keys : List ℕ) (version : Version) (start count : ℕ) : Type 0 where
  pub C : Catalogue
  pub version_is : C.version ≡ version_of version
  pub tables : FitCatalogue C
  pub tree : WfTree C (lent cells rows nodes) count
  pub whole : count ≡ plan_nodes (root_plan cells rows nodes)
  pub reads : read_file file ≡ ok (source_of C (root_plan cells rows nodes)) (length file) (plan_tags (root_plan cells rows nodes)) count
  pub starts_at : read_catalogue C.version file 5 0 0 ≡ ok C start 0 0
  pub fine : cpl.check C (root_plan cells rows nodes) 0 ≡ none
  pub keyed : TableKeys C keys
  pub stand : (j : ℕ) → j < count → FieldsStand C (lent cells rows nodes) fields widths j

-- where the file is accepted, its plan
abbrev pub Accepted : (file cells rows nodes fields widths keys : List ℕ) → Result Reading Refusal → Type 0
Accepted file cells rows nodes fields widths keys (Ok r) = PlanIn file cells rows nodes fields widths keys r.version r.start r.nodes
Accepted file cells rows nodes fields widths keys (Err e) = Unit {0}

-- what is said of a file; and where it is accepted, its plan
pub record ReadingIs (file cells rows nodes fields widths keys : List ℕ) (r : Result Reading Refusal) : Type 0 where
  pub says : CheckedIs (rules.check_file file) (checked_of r)
  pub plan : Accepted file cells rows nodes fields widths keys r
