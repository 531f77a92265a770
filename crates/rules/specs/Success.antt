-- What an answer of code 0 is: the file reads as an accepted plan, the output reads as the rewritten plan with the same catalogue, that plan is
-- accepted too, and it has the old root's fields at the kept mask.
use Rattle.std.specs.Prelude.{◌≡◌, List, ℕ, length, take}
use Rattle.std.proofs.Math.Option.{none}
use Rattle.cpl.specs.Plan.{Plan, Catalogue, Source}
use Rattle.cpl.specs.Exprs.{plan_nodes, plan_tags}
use Rattle.cpl.specs.Read.{ok}
use Rattle.cpl.specs.ReadPlan.{read_file}
use Rattle.cpl.specs.Fields.{fields_of}
use Rattle.cpl.specs.Accept.{check}
use Rattle.rules.specs.Mask.{Mask}
use Rattle.rules.specs.Request.{request_fault, mask_of}
use Rattle.rules.specs.Rewrite.{Walked, rewrite}
use Rattle.rules.specs.FieldsKept.{FieldsKept}
use Rattle.rules.specs.Answer.{Answer, merge_of}

-- the file reads as the source, to its last byte
abbrev pub ReadsAs : List ℕ → Source → Type 0
ReadsAs file s = read_file file ≡ ok s (length file) (plan_tags s.plan) (plan_nodes s.plan)

-- the bytes that an answer wrote
abbrev pub wrote : Answer → List ℕ
wrote a = take a.length a.out

abbrev pub source_of : Catalogue → Plan → Source
source_of C p = record { catalogue = C; plan = p }

pub record Success (mode mask : ℕ) (file : List ℕ) (request : ℕ → List ℕ) (a : Answer) : Type 0 where
  pub catalogue : Catalogue
  pub old : Plan
  pub reads : ReadsAs file (source_of catalogue old)
  pub accepted : check catalogue old 0 ≡ none
  pub asked : request_fault (length (fields_of catalogue old)) (request (length (fields_of catalogue old))) ≡ none
  pub R : Mask
  pub asks : R ≡ mask_of (length (fields_of catalogue old)) (request (length (fields_of catalogue old)))
  pub walked : Walked
  pub by_the_rules : walked ≡ rewrite (merge_of mode mask) catalogue old R
  pub reads_back : ReadsAs (wrote a) (source_of catalogue walked.plan)
  pub accepted_back : check catalogue walked.plan 0 ≡ none
  pub kept : FieldsKept catalogue (fields_of catalogue old) R walked
