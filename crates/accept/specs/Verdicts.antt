-- What is asked of a plan so that it can be judged, and what a judged plan leaves in the arrays.
use Rattle.std.specs.Prelude.{◌≡◌, List, ℕ, ◌+◌, ◌*◌, ◌<◌, ◌≤◌, length, Result, Ok}
use Rattle.cpl.specs.Accept.{check}
use Rattle.cpl.specs.Exprs.{plan_nodes}
use Rattle.cpl.specs.Fields.{fields_of}
use Rattle.cpl.specs.Limits.{max_nodes}
use Rattle.cpl.specs.Plan.{Catalogue}
use Rattle.cpl.specs.Writable.{FitCatalogue}
use Rattle.refusals.specs.declared.Refusal.{Refusal}
use Rattle.versions.specs.Versions.{version_of}
use Rattle.versions.specs.declared.Version.{Version}
use Rattle.tree.specs.Tree.{Arrays, WfTree, plan_at}
use Rattle.lookup.specs.Fields.{RowIn, WidthsKept, fields_at, first_at, width_at}
use Rattle.parts.specs.Catalogue.{NamesOk, catalogue_at}
use Rattle.verdicts.specs.Nodes.{KeptBelow}
use Rattle.verdicts.specs.Verdicts.{fault_of}

-- the fields of the plan at node j stand in the arrays
pub record FieldsStand (C : Catalogue) (a : Arrays) (s w : List ℕ) (j : ℕ) : Type 0 where
  pub fields : fields_at s w j ≡ fields_of C (plan_at a j)
  pub few : width_at w j ≤ C.version.max_fields
  pub inside : RowIn s (first_at w j) (width_at w j)

-- below field `next`
pub record Settled (C : Catalogue) (a : Arrays) (s w : List ℕ) (next j : ℕ) : Type 0 where
  pub stand : FieldsStand C a s w j
  pub before : first_at w j + width_at w j ≤ next

-- the node after the last of the plan at k
abbrev pub end_of : Arrays → ℕ → ℕ
end_of a k = k + plan_nodes (plan_at a k)

-- as many fields as the nodes of the plan at k may have
abbrev pub span_of : Catalogue → Arrays → ℕ → ℕ
span_of C a k = C.version.max_fields * plan_nodes (plan_at a k)

-- the fields of each node of the plan at node k stand in the arrays, below field `next`. Fields below `free` were kept, and other nodes have their
-- rows where they had them.
pub record Done (C : Catalogue) (a : Arrays) (k free next : ℕ) (s w s' w' : List ℕ) : Type 0 where
  pub from : free ≤ next
  pub upto : next ≤ free + span_of C a k
  pub each : (j : ℕ) → k ≤ j → j < end_of a k → Settled C a s' w' next j
  pub rows_kept : KeptBelow free s s'
  pub widths_kept : WidthsKept k (end_of a k) w w'

-- the plan at node k is judged: the answer is `check`'s; where there is no fault, the fields of each of its nodes stand in the arrays
pub record Checked (C : Catalogue) (a : Arrays) (k free : ℕ) (s w s' w' : List ℕ) (r : Result ℕ Refusal) : Type 0 where
  pub says : fault_of r ≡ check C (plan_at a k) k
  pub done : (next : ℕ) → r ≡ Ok next → Done C a k free next s w s' w'

-- what is asked so that the plan at node k can be judged
pub record Walking (C : Catalogue) (a : Arrays) (names : List ℕ) (most : ℕ) (s w : List ℕ) (k free : ℕ) : Type 0 where
  pub count : ℕ
  pub tables : ℕ
  pub tree : WfTree C a count
  pub here : k < count
  pub named : NamesOk names tables
  pub tables_fit : FitCatalogue C
  pub tables_are : C.tables ≡ catalogue_at names tables
  pub most_is : C.version.max_fields ≡ most
  pub room : (free + span_of C a k) * 2 ≤ length s
  pub wide : max_nodes + max_nodes ≤ length w

-- the same in the words of a version: k is a node of a tree of `count` nodes, the catalogue is that of the version and of the tables in their array,
-- and there is room for the fields of the plan's nodes from field `free` on, and for the rows of 256 nodes
pub record Judgeable (C : Catalogue) (a : Arrays) (count : ℕ) (names : List ℕ) (tables : ℕ) (version : Version) (s w : List ℕ) (k free : ℕ) : Type 0 where
  pub tree : WfTree C a count
  pub here : k < count
  pub named : NamesOk names tables
  pub tables_fit : FitCatalogue C
  pub tables_are : C.tables ≡ catalogue_at names tables
  pub version_is : C.version ≡ version_of version
  pub room : (free + span_of C a k) * 2 ≤ length s
  pub wide : max_nodes + max_nodes ≤ length w
