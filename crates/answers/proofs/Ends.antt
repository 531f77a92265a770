-- The ways that a call can end: refused, for want of room, or written; and that two answers that meet a contract are the same. Assumes nothing.
use mathlib.Core.Path.{◌≡◌, refl, sym, ◌∙◌}
use mathlib.Core.List.{List, ◌++◌}
use Prim.Native.Nat.{ℕ, ◌<◌, ◌≤◌}
use native.Mathlib.Omega.{arith}
use lib.ListN.{drop, length}
use borrow.Author.Tests.{le-leb, lt-leb}
use Rattle.rules.specs.Answer as rules
use Rattle.rules.specs.Answer.{refusal, success, written}
use Rattle.answers.specs.Answers.{AnswerIs}
use Rattle.answers.specs.declared.Answer.{Answer}

-- r is a refusal with this code and place
abbrev pub Refuses : Answer → (code place : ℕ) → Type 0
Refuses r code place = (r.code ≡ code) × (r.length ≡ 0) × (r.place ≡ place)

-- it leaves the buffer
pub refuses : {r : Answer} {code place : ℕ} (out : List ℕ) → Refuses r code place → AnswerIs (refusal code place out) r out
unfolding refusal
refuses out h = record { code_is = h.0; length_is = h.1; place_is = h.2; out_is = refl }

-- "ROOM: output shorter than the result; length needed"
pub no_room : {r : Answer} {n : ℕ} (bs out : List ℕ) → n ≡ length bs → length out < n → Refuses r 13 n → AnswerIs (written bs out) r out
unfolding written
no_room bs out e l h = rw (lt-leb (length bs) (length out) (omega arith)) (refuses out (h.0, h.1, h.2 ∙ e))

-- "success is code 0 with the bytes written and place 0"
pub written_out : {r : Answer} {out' : List ℕ} (bs out : List ℕ) → length bs ≤ length out → (r.code ≡ 0) × (r.length ≡ length bs) × (r.place ≡ 0)
    → out' ≡ bs ++ drop (length bs) out → AnswerIs (written bs out) r out'
unfolding written success
written_out bs out l h e = rw (le-leb (length bs) (length out) l) (record { code_is = h.0; length_is = h.1; place_is = h.2; out_is = e })

-- "two conforming results coincide", for each entry: two results, and the buffers that they leave, that both are what the definition says
pub coincide : {a : rules.Answer} {r r' : Answer} {out out' : List ℕ} → AnswerIs a r out → AnswerIs a r' out' → (r ≡ r') × (out ≡ out')
coincide h k =
    let code = h.code_is ∙ sym k.code_is in
    let length = h.length_is ∙ sym k.length_is in
    let place = h.place_is ∙ sym k.place_is in
    (λ i. record { code = code i; length = length i; place = place i }, h.out_is ∙ sym k.out_is)
