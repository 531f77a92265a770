-- What an intake stands for: the refusal that document 01 gives, or an accepted plan in the arrays and its request.
use Rattle.std.specs.Prelude.{◌≡◌, Bool, true, false, List, ℕ, length, Result, Ok, Err}
use Rattle.cpl.specs.Tests.{iota}
use Rattle.cpl.specs.Plan.{Plan, Catalogue}
use Rattle.cpl.specs.ReadPlan.{read_file}
use Rattle.cpl.specs.Fields.{fields_of}
use Rattle.rules.specs.Mask.{Mask}
use Rattle.rules.specs.Merge.{Merge}
use Rattle.rules.specs.Request.{mask_of}
use Rattle.rules.specs.Rewrite.{rewrite}
use Rattle.rules.specs.Answer.{refused, finish, judged}
use Rattle.required_indices.specs.Request.{Asks, flag_of}
use Rattle.refusals.specs.Codes.{code_of}
use Rattle.refusals.specs.declared.Refusal.{Refusal}
use Rattle.acceptance.specs.Readings.{PlanIn, root_plan}
use Rattle.intake.specs.declared.Intake.{Intake}

-- a request of all fields, or of these
unfoldable pub wanted : (all : Bool) (request : List ℕ) (width : ℕ) → List ℕ
wanted true request width = iota 0 width
wanted false request width = request

-- the root's fields that are asked for
abbrev pub asked_of : Catalogue → Plan → (request : ℕ → List ℕ) → Mask
asked_of C p request = let width = length (fields_of C p) in mask_of width (request width)

-- the plan was read, is accepted and rightly requested: what is left is to rewrite it
pub record Taken (file : List ℕ) (request : ℕ → List ℕ) (cells rows nodes fields widths keys : List ℕ) (r : Intake) : Type 0 where
  pub plan : PlanIn file cells rows nodes fields widths keys r.version r.start r.count
  pub asks : Asks r.set (asked_of plan.C (root_plan cells rows nodes) request)
  pub flag : flag_of r.set ≡ false
  pub rest : (M : Merge) → judged M request (read_file file) ≡ finish plan.C (rewrite M plan.C (root_plan cells rows nodes) (asked_of plan.C (root_plan cells rows nodes) request))

-- taken; or the refusal, whatever the mode
abbrev pub IntakeIs : (file : List ℕ) (request : ℕ → List ℕ) (cells rows nodes fields widths keys : List ℕ) → Result Intake Refusal → Type 0
IntakeIs file request cells rows nodes fields widths keys (Ok r) = Taken file request cells rows nodes fields widths keys r
IntakeIs file request cells rows nodes fields widths keys (Err e) = (M : Merge) → judged M request (read_file file) ≡ refused (code_of e.reason) e.place
