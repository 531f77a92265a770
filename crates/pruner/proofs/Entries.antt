-- What the entries say of a request of these fields and of one of all fields. Assumes nothing.
use mathlib.Core.Path.{◌≡◌, sym, subst, ◌∙◌}
use mathlib.Core.Bool.{true, false}
use mathlib.Core.List.{List}
use Prim.Native.Nat.{ℕ}
use Rattle.cpl.specs.AreBytes.{AreBytes}
use Rattle.cpl.specs.Tests.{iota}
use Rattle.rules.specs.Answer.{reply}
use Rattle.meaning.proofs.Files.{plain_promise, promise, promise_keyed}
use Rattle.intake.specs.Intake.{wanted}
use Rattle.answers.specs.Answers.{AnswerIs}
use Rattle.answers.specs.declared.Answer.{Answer}
use Rattle.pruner.specs.Answers.{Narrows, Promised}

-- an entry's contract: the answer, and what house mode promises of it
abbrev pub Meets : (mode mask : ℕ) (file : List ℕ) (request : ℕ → List ℕ) (out : List ℕ) (r : Answer) (out' : List ℕ) → Type 0
Meets mode mask file request out r out' = AnswerIs (reply mode mask file request out) r out' × Promised mode mask file request out r.code

narrows : (mask : ℕ) (file : List ℕ) (request : ℕ → List ℕ) (out : List ℕ) → AreBytes file → (reply 1 mask file request out).code ≡ 0
    → Narrows mask file request (reply 1 mask file request out)
narrows mask file request out b z =
    let k = promise_keyed mask file request out b z in
    record { keyed = k; plain = plain_promise mask file request _ b k.plans; version1 = λ old. promise mask file request out b old z }

-- "Narrow" of the very bytes, in house mode
pub promised : (mode mask : ℕ) (file : List ℕ) (request : ℕ → List ℕ) (out : List ℕ) {r : Answer} {out' : List ℕ} → AreBytes file
    → AnswerIs (reply mode mask file request out) r out' → Meets mode mask file request out r out'
promised mode mask file request out b h =
    let p : (m : ℕ) → 1 ≡ m → (reply m mask file request out).code ≡ 0 → Narrows mask file request (reply m mask file request out) =
    λ m d. subst (λ (n : ℕ). (reply n mask file request out).code ≡ 0 → Narrows mask file request (reply n mask file request out)) d
    (narrows mask file request out b) in
    (h, λ e z. p mode (sym e) (sym h.code_is ∙ z))

-- ── which fields are asked for ──────────────────────────────────────────────────────────────

module _ (mode mask : ℕ) (file request out : List ℕ) {r : Answer} {out' : List ℕ} where
  pub of_these : Meets mode mask file (wanted false request) out r out' → Meets mode mask file (λ width. request) out r out'
  unfolding wanted
  of_these h = h

  pub of_all : Meets mode mask file (wanted true request) out r out' → Meets mode mask file (λ width. iota 0 width) out r out'
  unfolding wanted
  of_all h = h
