-- What an entry answers: document 01's "Numbers returned".
use Rattle.std.specs.Prelude.{◌≡◌, List, ℕ, Result, Ok, Err}
use Rattle.rules.specs.Answer as rules
use Rattle.refusals.specs.Codes.{code_of}
use Rattle.refusals.specs.declared.Refusal.{Refusal}
use Rattle.answers.specs.declared.Answer.{Answer}

-- "success is code 0 with the bytes written and place 0"; "a refusal has length 0"
abbrev pub answer_of : Result ℕ Refusal → Answer
answer_of (Ok n) = record { code = 0; length = n; place = 0 }
answer_of (Err e) = record { code = code_of e.reason; length = 0; place = e.place }

-- "Every call returns a code, a length and a place"; out' is the output buffer as the call leaves it
pub record AnswerIs (a : rules.Answer) (r : Answer) (out' : List ℕ) : Type 0 where
  pub code_is : r.code ≡ a.code
  pub length_is : r.length ≡ a.length
  pub place_is : r.place ≡ a.place
  pub out_is : out' ≡ a.out

-- the same of a length or a refusal, which is answered by its numbers
abbrev pub Delivers : rules.Answer → Result ℕ Refusal → List ℕ → Type 0
Delivers a r out' = AnswerIs a (answer_of r) out'
