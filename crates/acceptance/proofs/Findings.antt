-- What is known of the definition of `check`: its codes, and that the rewriting answers are said through it. Assumes nothing.
use mathlib.Core.Path.{◌≡◌, refl}
use mathlib.Core.Logic.{◌⊎◌, inl, inr}
use mathlib.Core.List.{List}
use mathlib.Core.Option.{Option, none, some}
use Prim.Native.Nat.{ℕ, ◌<◌}
use native.Mathlib.Omega.{arith}
use Rattle.cpl.specs.Plan.{Plan, Catalogue, Source}
use Rattle.cpl.specs.Codes.{AMBIGUOUS}
use Rattle.cpl.specs.Read.{Res, ok, bad}
use Rattle.cpl.specs.ReadPlan.{read_file}
use Rattle.cpl.specs.Accept.{Fault, fault, check}
use Rattle.cpl.proofs.Refusals.{Within, Coded, reading_coded, Faulty, check_coded}
use Rattle.rules.specs.Merge.{Merge}
use Rattle.rules.specs.Answer.{refused, passed_on, checked, judged}
use Rattle.rules.specs.Check.{Finding, accepted, faulty, finding_of, finding, Checked, numbers_of, check_file}

-- ── codes ───────────────────────────────────────────────────────────────────────────────────

-- "2 to 10", and 17 in its place
abbrev pub RefusalCode : ℕ → Type 0
RefusalCode code = Within 2 10 code ⊎ (code ≡ AMBIGUOUS)

abbrev pub Sound : Finding → Type 0
Sound (accepted C p) = Unit {0}
Sound (faulty code place) = RefusalCode code

found_sound : (C : Catalogue) (p : Plan) (f : Option Fault) → Faulty f → Sound (finding_of C p f)
found_sound C p none h = tt
found_sound C p (some (fault code node)) (inl h) = inl (omega (arith, h.0), omega (arith, h.1))
found_sound C p (some (fault code node)) (inr e) = inr e

finding_sound : (r : Res Source) → Coded r → Sound (finding r)
unfolding finding
finding_sound (ok s next tags nodes) h = found_sound s.catalogue s.plan (check s.catalogue s.plan 0) (check_coded s.catalogue s.plan 0)
finding_sound (bad code place) h = inl (omega (arith, h.0), omega (arith, h.1))

pub file_sound : (file : List ℕ) → Sound (finding (read_file file))
file_sound file = finding_sound (read_file file) (reading_coded file)

-- "the node count and root field count or codes 2 to 10"
abbrev pub Told : Checked → Type 0
Told c = ((c.code ≡ 0) × (c.place ≡ 0)) ⊎ (RefusalCode c.code × (c.nodes ≡ 0) × (c.fields ≡ 0))

numbers_told : (f : Finding) → Sound f → Told (numbers_of f)
unfolding numbers_of
numbers_told (accepted C p) h = inl (refl, refl)
numbers_told (faulty code place) h = inr (h, refl, refl)

pub check_told : (file : List ℕ) → Told (check_file file)
unfolding check_file
check_told file = numbers_told (finding (read_file file)) (file_sound file)

-- ── the rewriting answers ───────────────────────────────────────────────────────────────────

module _ (M : Merge) (request : ℕ → List ℕ) where
  pub judged_by : (r : Res Source) → judged M request r ≡ passed_on M request (finding r)
  unfolding judged checked finding
  judged_by (ok s next tags nodes) = refl
  judged_by (bad code place) = refl

  -- a code is passed on
  pub refused_by : (f : Finding) → 0 < (numbers_of f).code → passed_on M request f ≡ refused (numbers_of f).code (numbers_of f).place
  unfolding numbers_of
  refused_by (accepted C p) l = absurd (omega arith)
  refused_by (faulty code place) l = refl
