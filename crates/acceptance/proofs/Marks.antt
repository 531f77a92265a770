-- Versions in turn: the mark of one, or of none. Assumes nothing.
use mathlib.Core.Path.{◌≡◌, refl, sym, ap, ap₂, subst, ◌∙◌}
use mathlib.Core.Bool.{Bool, true, false}
use mathlib.Core.List.{List, []}
use Prim.Native.Nat.{ℕ, ◌+◌, ◌<◌}
use native.Mathlib.Decide.{ℕ_discrete}
use native.Mathlib.Omega.{arith}
use Rattle.cpl.specs.Limits.{Version, version1}
use Rattle.std.specs.Prelude.{Err}
use Rattle.cpl.specs.Read.{ok, bad}
use Rattle.cpl.specs.ReadPlan.{mark_bytes, read_mark, starts}
use Rattle.rules.specs.Check.{check_file}
use Rattle.reader.proofs.Files.{file_mark, marked-none}
use Rattle.acceptance.specs.Readings.{checked_of, CheckedIs, Narrow, NoneBelow, marked_as}
use Rattle.refusals.specs.Codes.{code_of}
use Rattle.refusals.specs.declared.Reason.TheVariants as reason
use Rattle.refusals.specs.declared.Refusal.{Refusal}
use Rattle.acceptance.proofs.Ways.{refuse_read}

module _ (file : List ℕ) where
  pub none_first : NoneBelow file 1
  none_first = λ k a l. absurd (omega arith)

  pub none_more : (n : ℕ) {b : Bool} → NoneBelow file n → b ≡ false → b ≡ marked_as n file → NoneBelow file (n + 1)
  none_more n o e f = λ k a l. elim (ℕ_discrete k n) [ yes z ↦ subst (λ m. marked_as m file ≡ false) (sym z) (sym f ∙ e) | no z ↦ o k a (omega arith) ]

  -- version 1 is narrow
  first_is : {b : Bool} → b ≡ true → b ≡ starts (mark_bytes version1) file → read_mark file 0 0 0 ≡ ok version1 5 0 0
  unfolding read_mark
  first_is e f = rw (← f, e)

  one-version : {v w : Version} → ok v 5 0 0 ≡ ok w 5 0 0 → v ≡ w
  one-version e = cc

  pub first_narrow : {b : Bool} {n : ℕ} → b ≡ true → b ≡ marked_as n file → n ≡ 1 → Narrow file
  first_narrow e f h = λ v m. omega (arith, ap (λ u. u.max_fields) (one-version (sym (first_is e (f ∙ ap (λ k. marked_as k file) h)) ∙ m)))

  -- no version's mark
  pub unmarked : (n : ℕ) → NoneBelow file n → 2 < n → (e : Refusal) → e.reason ≡ reason.Mark → e.place ≡ 0 → CheckedIs (check_file file) (checked_of (Err e))
  unmarked n o h e k z =
      let no = marked-none file {a = false} refl (sym (o 1 (omega arith) (omega arith))) {b = false} refl (sym (o 2 (omega arith) (omega arith))) in
      (refuse_read file [] [] [] [] [] [] e (file_mark file no ∙ ap₂ bad (ap code_of (sym k)) (sym z))).says
