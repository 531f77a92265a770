-- An answer as three numbers: what is known of it, and that two that meet a contract are the same. Assumes nothing.
use mathlib.Core.Path.{◌≡◌, sym, ap, subst, ◌∙◌}
use mathlib.Core.List.{List, [], ◌∷◌}
use Prim.Native.Nat.{ℕ}
use Rattle.rules.specs.Answer as rules
use Rattle.rules.specs.Answer.{reply}
use Rattle.answers.specs.Answers.{AnswerIs}
use Rattle.answers.specs.declared.Answer.{Answer}
use Rattle.pruner.specs.Answers.{Promised}
use Rattle.pruner.proofs.Entries.{Meets}
use Rattle.simmerroof.specs.Numbers.{NumbersAre, code_in}

-- an answer put into an array
pub put_numbers : {a : rules.Answer} {r : Answer} {out' three : List ℕ} → AnswerIs a r out' → three ≡ r.code ∷ r.length ∷ r.place ∷ [] → NumbersAre a three out'
put_numbers h e = record { numbers_are = rw (← h.code_is, ← h.length_is, ← h.place_is) e; out_is = h.out_is }

-- the same, with what is known of its code
put_into : {a : rules.Answer} {r : Answer} {out' three : List ℕ} (P : ℕ → Type 0) → AnswerIs a r out' × P r.code → three ≡ r.code ∷ r.length ∷ r.place ∷ []
    → NumbersAre a three out' × P (code_in three)
put_into P h e = (put_numbers h.0 e, subst P (sym (ap code_in e)) h.1)

-- of an entry over plan files
pub numbers : (mode mask : ℕ) (file : List ℕ) (request : ℕ → List ℕ) (out : List ℕ) {r : Answer} {out' three : List ℕ} → Meets mode mask file request out r out'
    → three ≡ r.code ∷ r.length ∷ r.place ∷ []
    → NumbersAre (reply mode mask file request out) three out' × Promised mode mask file request out (code_in three)
numbers mode mask file request out h e = put_into (λ code. Promised mode mask file request out code) h e

-- of an entry over predicates, with what code 0 promises
pub keys-numbers : {a : rules.Answer} {r : Answer} {out' three : List ℕ} {P : Type 0} → AnswerIs a r out' × (r.code ≡ 0 → P)
    → three ≡ r.code ∷ r.length ∷ r.place ∷ [] → NumbersAre a three out' × (code_in three ≡ 0 → P)
keys-numbers {P = P} h e = put_into (λ code. code ≡ 0 → P) h e

-- "two conforming results coincide", for each exported function
pub coincide : {a : rules.Answer} {three three' out out' : List ℕ} → NumbersAre a three out → NumbersAre a three' out' → (three ≡ three') × (out ≡ out')
coincide h k = (h.numbers_are ∙ sym k.numbers_are, h.out_is ∙ sym k.out_is)
