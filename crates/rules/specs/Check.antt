-- Request 2 of document 02, "Check apart from rewriting": what of a file is accepted, and what "one that reads and checks" answers.
use Rattle.std.specs.Prelude.{List, ℕ, length}
use Rattle.std.proofs.Math.Option.{Option, none, some}
use Rattle.cpl.specs.Plan.{Plan, Catalogue, Source}
use Rattle.cpl.specs.Exprs.{plan_nodes}
use Rattle.cpl.specs.Read.{Res, ok, bad}
use Rattle.cpl.specs.ReadPlan.{read_file}
use Rattle.cpl.specs.Fields.{fields_of}
use Rattle.cpl.specs.Accept.{Fault, fault, check}

-- an accepted plan over its catalogue, or a refusal
pub data Finding : Type 0 where
  accepted : Catalogue → Plan → Finding
  faulty : (code place : ℕ) → Finding

-- of a plan that was read, with its first fault
abbrev pub finding_of : Catalogue → Plan → Option Fault → Finding
finding_of C p none = accepted C p
finding_of C p (some (fault code node)) = faulty code node

unfoldable pub finding : Res Source → Finding
finding (ok s next tags nodes) = finding_of s.catalogue s.plan (check s.catalogue s.plan 0)
finding (bad code place) = faulty code place

-- "answering the node count and root field count or codes 2 to 10"
pub record Checked : Type 0 where
  pub code : ℕ
  pub place : ℕ
  pub nodes : ℕ
  pub fields : ℕ

unfoldable pub numbers_of : Finding → Checked
numbers_of (accepted C p) = record { code = 0; place = 0; nodes = plan_nodes p; fields = length (fields_of C p) }
numbers_of (faulty code place) = record { code = code; place = place; nodes = 0; fields = 0 }

unfoldable pub check_file : (file : List ℕ) → Checked
check_file file = numbers_of (finding (read_file file))
