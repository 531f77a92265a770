-- The bytes before the plan: a file with another plan over the same catalogue starts with them. Assumes nothing.
use mathlib.Core.Path.{◌≡◌, refl, sym, ap, ap₂, ◌∙◌}
use mathlib.Core.List.{List, ◌++◌}
use Prim.Native.Nat.{ℕ, ◌≤◌}
use native.Mathlib.Omega.{arith}
use lib.ListN.{length, length-append, take}
use lib.Seq.{take-append_seam}
use Rattle.cpl.specs.AreBytes.{AreBytes}
use Rattle.cpl.specs.Bytes.{bytes_of, catalogue_bytes, plan_bytes}
use Rattle.cpl.specs.Plan.{Catalogue, Plan}
use Rattle.cpl.specs.Read.{ok}
use Rattle.cpl.specs.ReadPlan.{mark_bytes, read_catalogue, read_file}
use Rattle.cpl.proofs.CatalogueTrip.{catalogue_codec}
use Rattle.cpl.proofs.Codec.{Stood, found_stood, holds-ok, stood_inside}
use Rattle.cpl.proofs.RoundTrip.{written_read}
use Rattle.rules.specs.Success.{source_of}
use Rattle.intake.specs.Intake.{Taken}
use Rattle.intake.specs.declared.Intake.{Intake}
use Rattle.delivery.specs.Delivery.{Heads}

head_bytes : (C : Catalogue) (p : Plan) → bytes_of (source_of C p) ≡ (mark_bytes C.version ++ catalogue_bytes C) ++ plan_bytes C.version p
unfolding bytes_of
head_bytes C p = refl

module _ (file : List ℕ) (bytes : AreBytes file) (C : Catalogue) (p : Plan) {start next tags nodes : ℕ}
    (catalogue : read_catalogue C.version file 5 0 0 ≡ ok C start 0 0) (reads : read_file file ≡ ok (source_of C p) next tags nodes) where
  is_file : file ≡ (mark_bytes C.version ++ catalogue_bytes C) ++ plan_bytes C.version p
  is_file = sym (written_read file bytes (source_of C p) next tags nodes reads).same ∙ head_bytes C p

  long : 5 ≤ length file
  long = omega (arith, ap length is_file, length-append (mark_bytes C.version ++ catalogue_bytes C) (plan_bytes C.version p), length-append (mark_bytes C.version) (catalogue_bytes C))

  stood : Stood file 5 0 0 (catalogue_bytes C) 0 0 start 0 0
  stood = found_stood (holds-ok _ catalogue ((catalogue_codec C.version (written_read file bytes (source_of C p) next tags nodes reads).writable.tables.version_is).only.found file bytes 5 0 0 long (omega arith) (omega arith)))

  first-bytes : take start file ≡ mark_bytes C.version ++ catalogue_bytes C
  first-bytes =
      let e : start ≡ length (mark_bytes C.version ++ catalogue_bytes C) = omega (arith, stood.next, length-append (mark_bytes C.version) (catalogue_bytes C)) in
      ap₂ take e is_file ∙ take-append_seam (mark_bytes C.version ++ catalogue_bytes C) (plan_bytes C.version p)

  pub heads : Heads file start C
  heads = record { inside = stood_inside stood; bytes_are = λ p'. ap (λ xs. xs ++ plan_bytes C.version p') first-bytes ∙ sym (head_bytes C p') }

-- of a file that was taken in
pub taken-heads : {file : List ℕ} {request : ℕ → List ℕ} {cells rows nodes fields widths keys : List ℕ} {r : Intake} → AreBytes file
    → (t : Taken file request cells rows nodes fields widths keys r) → Heads file r.start t.plan.C
taken-heads {file} b t = heads file b t.plan.C _ t.plan.starts_at t.plan.reads
