-- A listing as an answer: what is said of a file decides whether it is listed. Assumes nothing.
use mathlib.Core.Path.{◌≡◌, refl, sym, ap, ap₂, ◌∙◌}
use mathlib.Core.Logic.{inl, inr}
use mathlib.Core.List.{List, [], ◌∷◌, ◌++◌}
use Prim.Native.Nat.{ℕ, ◌<◌, ◌≤◌}
use native.Mathlib.Omega.{arith}
use lib.ListN.{length, take, drop}
use lib.Seq.{take_at}
use Rattle.cpl.specs.ReadPlan.{read_file}
use Rattle.rules.specs.Answer.{refusal, success}
use Rattle.rules.specs.Check.{Finding, accepted, check_file, faulty, finding, numbers_of}
use Rattle.acceptance.specs.Readings.{CheckedIs}
use Rattle.acceptance.specs.declared.Checked.{Checked}
use Rattle.acceptance.proofs.Findings.{RefusalCode, Sound, file_sound}
use Rattle.writer_parts.specs.Wrote.{Wrote, over}
use Rattle.listing.specs.Text.{finding_text, list_text, plan_text}
use Rattle.calls.specs.Calls.{listed, numbers_text, said, text_of}

-- the text of a listing and of its answer
said-listing : (bytes rest : List ℕ) → text_of 0 0 (take (length bytes) (bytes ++ rest)) ≡ said (success bytes [])
unfolding text_of said success
said-listing bytes rest =
    ap (text_of 0 0) (take_at bytes rest (length bytes) refl)
    ∙ ap (λ (ys : List ℕ). numbers_text (0 ∷ length bytes ∷ 0 ∷ []) ++ ys) (sym (take_at bytes (drop (length bytes) []) (length bytes) refl))

-- a refusal has a code
coded : (code : ℕ) → RefusalCode code → 0 < code
coded code (inl h) = omega (arith, h.0)
coded code (inr e) = omega arith

plan-listed : (f : Finding) (rest : List ℕ) → Sound f → (numbers_of f).code ≤ 0 → text_of 0 0 (take (length (finding_text f)) (finding_text f ++ rest)) ≡ said (listed f)
unfolding numbers_of finding_text listed
plan-listed (accepted C p) rest s z = said-listing (plan_text C p) rest
plan-listed (faulty code place) rest s z = absurd (omega (arith, coded code s))

plan-refused : (f : Finding) → 0 < (numbers_of f).code → text_of (numbers_of f).code (numbers_of f).place [] ≡ said (listed f)
unfolding numbers_of listed text_of said refusal
plan-refused (accepted C p) l = absurd (omega arith)
plan-refused (faulty code place) l = refl

module _ (file : List ℕ) {c : Checked} (h : CheckedIs (check_file file) c) where
  pub file_listed : {xs lines : List ℕ} {n : ℕ} → c.code ≤ 0 → Wrote (list_text file) xs n lines → text_of 0 0 (take n lines) ≡ said (listed (finding (read_file file)))
  unfolding check_file list_text over
  file_listed {xs} z w =
      ap₂ (λ (i : ℕ) (ys : List ℕ). text_of 0 0 (take i ys)) w.long w.ends
      ∙ plan-listed (finding (read_file file)) (drop (length (list_text file)) xs) (file_sound file) (omega (arith, h.code_is))

  pub file_refused : 0 < c.code → text_of c.code c.place [] ≡ said (listed (finding (read_file file)))
  unfolding check_file
  file_refused l = ap₂ (λ (i : ℕ) (j : ℕ). text_of i j []) h.code_is h.place_is ∙ plan-refused (finding (read_file file)) (omega (arith, h.code_is))
