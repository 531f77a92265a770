-- The first 513 indices of a request are answered as all of them: a root has at most 512 fields, so a longer request has its first fault among them.
-- Assumes nothing.
use mathlib.Core.Path.{◌≡◌, refl, sym, ap, ◌∙◌, subst⁻¹}
use mathlib.Core.Bool.{Bool, true, false, true≢false, ◌&&◌}
use mathlib.Core.List.{List, [], ◌∷◌}
use mathlib.Core.Option.{Option, none, some}
use Prim.Native.Nat.{ℕ, zero, suc, ◌+◌, ◌≤◌}
use native.Mathlib.Omega.{arith}
use borrow.Author.Tests.{leb-true, ltb-true}
use lib.Dec.{leb, ltb}
use lib.ListN.{length, take}
use Rattle.cpl.specs.Accept.{Fault, fault, check}
use Rattle.cpl.specs.Codes.{SETTING}
use Rattle.cpl.specs.Fields.{fields_of}
use Rattle.cpl.specs.Plan.{Catalogue, Plan, Source}
use Rattle.cpl.specs.Limits.{Version, IsVersion, is_1, is_2, version1, version2, max_nodes, max_tables}
use Rattle.cpl.specs.Read.{Res, ok, bad, and_then, pick, any, counted, counted_after, nonzero}
use Rattle.cpl.specs.ReadPlan.{mark_bytes, plan_to, read_catalogue, read_end, read_file, read_mark, read_source, read_table_key, starts}
use Rattle.cpl.proofs.Accepted.{accepted, few-fields}
use Rattle.cpl.proofs.Codec.{Holds, holds-pick, holds_then}
use Rattle.rules.specs.Answer.{Verdict, answer, checked, deliver, judged, merge_of, refused, reply, requested, settings_ok, verdict}
use Rattle.rules.specs.Merge.{Merge}
use Rattle.rules.specs.Request.{fault_from, request_fault}
use Rattle.versions.proofs.Small.{small}
use Rattle.calls.specs.Calls.{most_asked}

-- of a request and its start: they are the same, or have the same fault
data Cut (xs ys : List ℕ) (f g : Option ℕ) : Type 0 where
  same : xs ≡ ys → Cut xs ys f g
  both : (i : ℕ) → f ≡ some i → g ≡ some i → Cut xs ys f g

ands : (b c : Bool) → (b && c) ≡ true → (b ≡ true) × (c ≡ true)
ands true true e = (refl, refl)
ands true false e = (refl, e)
ands false c e = absurd (true≢false (sym e))

abbrev Cuts : (n position least width : ℕ) (xs : List ℕ) → Type 0
Cuts n position least width xs = Cut (take (suc n) xs) xs (fault_from position least width (take (suc n) xs)) (fault_from position least width xs)

cut : (n position least width : ℕ) (xs : List ℕ) → width ≤ least + n → Cuts n position least width xs
unfolding fault_from
cut n position least width [] h = same refl
cut n position least width (x ∷ xs) h = go n (leb least x && ltb x width) refl h (λ m l. cut m (suc position) (suc x) width xs l)
  where
    deeper : (m : ℕ) → (leb least x && ltb x width) ≡ true → Cuts m (suc position) (suc x) width xs → Cuts (suc m) position least width (x ∷ xs)
    deeper m t (same e) = same (ap (λ (ys : List ℕ). x ∷ ys) e)
    deeper m t (both i f g) =
        both i (ap (λ (b : Bool). pick b (fault_from (suc position) (suc x) width (take (suc m) xs)) (some position)) t ∙ f)
        (ap (λ (b : Bool). pick b (fault_from (suc position) (suc x) width xs) (some position)) t ∙ g)

    go : (k : ℕ) (b : Bool) → (leb least x && ltb x width) ≡ b → width ≤ least + k
        → ((m : ℕ) → width ≤ suc x + m → Cuts m (suc position) (suc x) width xs) → Cuts k position least width (x ∷ xs)
    go k false t l rest =
        both position (ap (λ (b : Bool). pick b (fault_from (suc position) (suc x) width (take k xs)) (some position)) t)
        (ap (λ (b : Bool). pick b (fault_from (suc position) (suc x) width xs) (some position)) t)
    go zero true t l rest =
        let p = ands (leb least x) (ltb x width) t in
        absurd (omega (arith, leb-true least x p.0, ltb-true x width p.1))
    go (suc m) true t l rest =
        let p = ands (leb least x) (ltb x width) t in
        deeper m t (rest m (omega (arith, leb-true least x p.0, ltb-true x width p.1)))

-- ── a file that is read is of some version ──────────────────────────────────────────────────

-- whatever is read first
after_any : {A B : Type 0} (Q : B → ℕ → ℕ → ℕ → Type 0) (r : Res A) (k : A → ℕ → ℕ → ℕ → Res B) → ((a : A) (at t n : ℕ) → Holds Q (k a at t n)) → Holds Q (and_then r k)
after_any Q (ok a at t n) k f = f a at t n
after_any Q (bad code place) k f = tt

catalogue-version : (v : Version) (file : List ℕ) (at t n : ℕ) → Holds (λ C at t n. C.version ≡ v) (read_catalogue v file at t n)
unfolding read_catalogue
catalogue-version v file at t n =
    after_any _ (counted 1 any max_tables (counted v.wide any v.max_columns (nonzero 2)) file at t n) _ λ ts at' t' n'.
    after_any _ (counted_after v.late any v.max_table_keys (read_table_key v ts) file at' t' n') _ λ ks at'' t'' n''. refl

known-version : (file : List ℕ) → Holds (λ s at t n. IsVersion s.catalogue.version) (read_file file)
unfolding read_source read_mark
known-version file =
    holds_then Known Q (read_mark file 0 0 0) _
    (holds-pick Known (starts (mark_bytes version1) file) (ok version1 5 0 0) _ (λ e. is_1) λ _.
    holds-pick Known (starts (mark_bytes version2) file) (ok version2 5 0 0) _ (λ e. is_2) λ _. tt)
    λ v at t n k.
    holds_then _ Q (read_catalogue v file at t n) _ (catalogue-version v file at t n) λ C at' t' n' e.
    after_any Q (plan_to C (suc max_nodes) file at' t' n') _ λ p at'' t'' n''.
    after_any Q (read_end file at'' t'' n'') _ λ z at''' t''' n'''. subst⁻¹ IsVersion e k
  where
    Known : Version → ℕ → ℕ → ℕ → Type 0
    Known v at t n = IsVersion v

    Q : Source → ℕ → ℕ → ℕ → Type 0
    Q s at t n = IsVersion s.catalogue.version

-- ── the answer ──────────────────────────────────────────────────────────────────────────────

module _ (M : Merge) (C : Catalogue) (known : IsVersion C.version) (p : Plan) (xs : List ℕ) where
  abbrev width : ℕ
  width = length (fields_of C p)

  asked : Cut (take most_asked xs) xs (request_fault width (take most_asked xs)) (request_fault width xs)
      → requested M C p (take most_asked xs) (request_fault width (take most_asked xs)) ≡ requested M C p xs (request_fault width xs)
  unfolding requested
  asked (same e) = ap (λ (ys : List ℕ). requested M C p ys (request_fault width ys)) e
  asked (both i f g) = ap (requested M C p (take most_asked xs)) f ∙ sym (ap (requested M C p xs) g)

  few : check C p 0 ≡ none → Cut (take most_asked xs) xs (request_fault width (take most_asked xs)) (request_fault width xs)
  unfolding request_fault
  few e = cut 512 0 0 (length (fields_of C p)) xs (omega (arith, few-fields C p (accepted C p 0 e), (small known).fields-small))

  plan-asked : (f : Option Fault) → check C p 0 ≡ f → checked M C p (λ n. take most_asked xs) f ≡ checked M C p (λ n. xs) f
  unfolding checked
  plan-asked none e = asked (few e)
  plan-asked (some (fault code node)) e = refl

file_asked : (M : Merge) (xs : List ℕ) (r : Res Source) → Holds (λ s at t n. IsVersion s.catalogue.version) r
    → judged M (λ n. take most_asked xs) r ≡ judged M (λ n. xs) r
unfolding judged
file_asked M xs (ok s next tags nodes) k = plan-asked M s.catalogue k s.plan xs (check s.catalogue s.plan 0) refl
file_asked M xs (bad code place) k = refl

pub first-asked : (mode mask : ℕ) (file xs out : List ℕ) → answer mode mask file (take most_asked xs) out ≡ answer mode mask file xs out
unfolding reply verdict
first-asked mode mask file xs out = ap (λ (v : Verdict). deliver (pick (settings_ok mode mask) v (refused SETTING 0)) out) (file_asked (merge_of mode mask) xs (read_file file) (known-version file))
