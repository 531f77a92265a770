-- The answers for plans and files. Assumes nothing: these are definitions.
use Rattle.std.specs.Prelude.{ℕ, suc, ◌+◌, ◌*◌, ◌≤◌, ◌<◌, ◌≡◌, List, length, Result, Ok, Err}
use Rattle.std.proofs.lemmas.List.Edits.{sets}
use Rattle.cpl.specs.Limits.{max_tags, max_nodes, max_tables}
use Rattle.cpl.specs.Limits as cpl
use Rattle.cpl.specs.Plan.{Plan, Catalogue, Source}
use Rattle.cpl.specs.Exprs.{plan_nodes}
use Rattle.cpl.specs.Read.{Res, ok, bad, Reader, ◌>>=◌, give}
use Rattle.cpl.specs.ReadPlan.{read_mark, read_catalogue, plan_to, read_end, read_file}
use Rattle.tree.specs.Layout.{expr_nodes, plan_rows_in, plan_cells, plan_rows, plan_table}
use Rattle.versions.specs.Versions.{version_of, node_rows}
use Rattle.versions.specs.declared.Version.{Version}
use Rattle.key_sets.specs.Slots.{TableKeys}
use Rattle.refusals.specs.Codes.{code_of}
use Rattle.refusals.specs.declared.Refusal.{Refusal}
use Rattle.reader_fields.specs.declared.Spot.{Spot}
use Rattle.catalogue.specs.Tables.{tables_at}
use Rattle.reader.specs.declared.Planned.{Planned}
use Rattle.reader.specs.declared.Read as answer

-- a plan was read, which ends at the spot t and has the nodes from k to k'
pub record TookPlan (v : cpl.Version) (from : Spot) (k : ℕ) (cells cells' rows rows' nodes nodes' : List ℕ) (x : Res Plan) (t : Spot) (k' : ℕ) : Type 0 where
  pub plan : Plan
  pub is : x ≡ ok plan t.at t.tags k'
  pub made_is : t.made ≡ from.made + expr_nodes plan
  pub row_is : t.row ≡ from.row + plan_rows_in plan
  pub count_is : k' ≡ k + plan_nodes plan
  pub cells_are : cells' ≡ sets cells (3 * from.made) (plan_cells from.made plan)
  pub rows_are : rows' ≡ sets rows (4 * from.row) (plan_rows from.made plan)
  pub nodes_are : nodes' ≡ sets nodes (7 * k) (plan_table k from.made from.row plan)
  pub grown : from.tags + expr_nodes plan ≤ t.tags
  pub few_tags : t.tags ≤ max_tags
  pub few_nodes : k' ≤ max_nodes
  pub few_rows : plan_rows_in plan ≤ node_rows v * plan_nodes plan + expr_nodes plan

abbrev pub RightPlan : cpl.Version → Spot → (k : ℕ) → (cells cells' rows rows' nodes nodes' : List ℕ) → Res Plan → Result Planned Refusal → Type 0
RightPlan v from k cells cells' rows rows' nodes nodes' x (Ok p) = TookPlan v from k cells cells' rows rows' nodes nodes' x p.spot p.nodes
RightPlan v from k cells cells' rows rows' nodes nodes' x (Err e) = x ≡ bad (code_of e.reason) e.place

-- the same of what stands at a spot, for every depth that the nodes left allow
abbrev pub ReadsPlan : cpl.Version → Catalogue → (file : List ℕ) → Spot → (k : ℕ) → (cells cells' rows rows' nodes nodes' : List ℕ) → Result Planned Refusal → Type 0
ReadsPlan v C file from k cells cells' rows rows' nodes nodes' r =
    (deep : ℕ) → max_nodes < k + deep → RightPlan v from k cells cells' rows rows' nodes nodes' (plan_to C deep file from.at from.tags k) r

-- ── files ───────────────────────────────────────────────────────────────────────────────────

-- what follows the catalogue
abbrev pub read_body : Catalogue → Reader Source
read_body C = plan_to C (suc max_nodes) >>= λ p. read_end >>= λ z. give (record { catalogue = C; plan = p })

-- the plan p stands in the arrays from their start on
pub record Holds (cells cells' rows rows' nodes nodes' : List ℕ) (p : Plan) (count tags made : ℕ) : Type 0 where
  pub made_is : made ≡ expr_nodes p
  pub count_is : count ≡ plan_nodes p
  pub cells_are : cells' ≡ sets cells 0 (plan_cells 0 p)
  pub rows_are : rows' ≡ sets rows 0 (plan_rows 0 p)
  pub nodes_are : nodes' ≡ sets nodes 0 (plan_table 0 0 0 p)
  pub few_made : made ≤ tags
  pub few_tags : tags ≤ max_tags
  pub few_nodes : count ≤ max_nodes

pub record TookBody (C : Catalogue) (cells cells' rows rows' nodes nodes' : List ℕ) (x : Res Source) (size count tags made : ℕ) : Type 0 where
  pub plan : Plan
  pub is : x ≡ ok (record { catalogue = C; plan = plan }) size tags count
  pub holds : Holds cells cells' rows rows' nodes nodes' plan count tags made

abbrev pub RightBody : Catalogue → (file : List ℕ) → (at : ℕ) → Version → (n : ℕ) → (cells cells' rows rows' nodes nodes' : List ℕ) → Result answer.Read Refusal → Type 0
RightBody C file at v n cells cells' rows rows' nodes nodes' (Ok r) =
    (r.version ≡ v) × (r.tables ≡ n) × (r.start ≡ at) × TookBody C cells cells' rows rows' nodes nodes' (read_body C file at 0 0) (length file) r.nodes r.tags r.made
RightBody C file at v n cells cells' rows rows' nodes nodes' (Err e) = read_body C file at 0 0 ≡ bad (code_of e.reason) e.place

-- the file was read as a catalogue and a plan: the catalogue's tables stand in the names, their keys in the tables' slots, the plan in the other three arrays,
-- and the plan starts at the offset `start`
pub record TookFile (file cells cells' rows rows' nodes nodes' names' keys' : List ℕ) (version : Version) (tables start count tags made : ℕ) : Type 0 where
  pub plan : Plan
  pub C : Catalogue
  pub version_is : C.version ≡ version_of version
  pub tables_are : C.tables ≡ tables_at names' 0 tables
  pub marked : read_mark file 0 0 0 ≡ ok C.version 5 0 0
  pub is : read_file file ≡ ok (record { catalogue = C; plan = plan }) (length file) tags count
  pub starts_at : read_catalogue C.version file 5 0 0 ≡ ok C start 0 0
  pub few_tables : tables ≤ max_tables
  pub keys_are : TableKeys C keys'
  pub holds : Holds cells cells' rows rows' nodes nodes' plan count tags made

abbrev pub RightFile : (file cells cells' rows rows' nodes nodes' names' keys' : List ℕ) → Result answer.Read Refusal → Type 0
RightFile file cells cells' rows rows' nodes nodes' names' keys' (Ok r) =
    TookFile file cells cells' rows rows' nodes nodes' names' keys' r.version r.tables r.start r.nodes r.tags r.made
RightFile file cells cells' rows rows' nodes nodes' names' keys' (Err e) = read_file file ≡ bad (code_of e.reason) e.place
