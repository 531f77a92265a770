-- What an answer stands for, and what a judged node leaves in the arrays.
use Rattle.std.specs.Prelude.{◌≡◌, List, ℕ, ◌+◌, ◌≤◌, Result, Ok, Err}
use Rattle.std.proofs.Math.Option.{Option, none, some}
use Rattle.cpl.specs.Accept.{Fault, fault}
use Rattle.cpl.specs.Plan.{Catalogue, Pair}
use Rattle.cpl.specs.ReadPlan.{Head}
use Rattle.lookup.specs.Fields.{RowIn, WidthsKept, fields_at, first_at, width_at}
use Rattle.verdicts.specs.Heads.{fields_head, head_fault}
use Rattle.verdicts.specs.Nodes.{KeptBelow}
use Rattle.refusals.specs.Codes.{code_of}
use Rattle.refusals.specs.declared.Refusal.{Refusal}

-- no fault, with the number of the next free field; or why a node is refused
abbrev pub fault_of : Result ℕ Refusal → Option Fault
fault_of (Ok next) = none
fault_of (Err e) = some (fault (code_of e.reason) e.place)

-- node k, with head h over inputs with the fields fl and fr, has its row, which ends below field `next`: s and w are the fields and widths before,
-- s' and w' after. Fields below `free` were kept.
pub record Placed (C : Catalogue) (h : Head) (fl fr : List Pair) (k free next : ℕ) (s w s' w' : List ℕ) : Type 0 where
  pub from : free ≤ next
  pub upto : next ≤ free + C.version.max_fields
  pub row : fields_at s' w' k ≡ fields_head C h fl fr
  pub few : width_at w' k ≤ C.version.max_fields
  pub before : first_at w' k + width_at w' k ≤ next
  pub inside : RowIn s' (first_at w' k) (width_at w' k)
  pub rows_kept : KeptBelow free s s'
  pub widths_kept : WidthsKept k (k + 1) w w'

-- it is judged, and where there is no fault it has its row
pub record Judged (C : Catalogue) (h : Head) (fl fr : List Pair) (k free : ℕ) (s w s' w' : List ℕ) (r : Result ℕ Refusal) : Type 0 where
  pub says : fault_of r ≡ head_fault C k h fl fr
  pub done : (next : ℕ) → r ≡ Ok next → Placed C h fl fr k free next s w s' w'
