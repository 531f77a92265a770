-- An answer over plan files, as plans or as text, or over predicates, and the output that it leaves: code, length, place and bytes are what a call writes. Assumes nothing.
use mathlib.Core.Path.{◌≡◌, ap, ap₂, ◌∙◌}
use mathlib.Core.Bool.{Bool, true, false}
use mathlib.Core.List.{List, [], ◌∷◌, ◌++◌}
use Prim.Native.Nat.{ℕ, ◌≤◌}
use native.Mathlib.Omega.{arith}
use lib.Dec.{leb}
use lib.ListN.{length, take, drop, replicate, length-append}
use lib.Seq.{length-take-le, take-append-le}
use Rattle.cpl.specs.Bytes.{bytes_of}
use Rattle.cpl.specs.Codes.{ROOM}
use Rattle.cpl.specs.Read.{pick}
use Rattle.rules.specs.Answer as rules
use Rattle.rules.specs.Answer.{Verdict, deliver, narrowed, refusal, refused, reply, success, verdict, written}
use Rattle.join_keys.specs.Entries as keys
use Rattle.join_keys.specs.Entries.{answered}
use Rattle.plan_text.specs.Answers as texts
use Rattle.plan_text.specs.Answers.{delivered, list_answer, list_of}
use Rattle.answers.specs.Answers.{AnswerIs}
use Rattle.answers.specs.declared.Answer.{Answer}
use Rattle.listing.specs.Lines.{Counts}
use Rattle.calls.specs.Calls.{numbers_text, said, text_of}
use Rattle.calls.proofs.Input.{counted, room-long}

-- the bytes of an answer stand in the output that it leaves
abbrev pub Inside : rules.Answer → Type 0
Inside a = a.length ≤ length a.out

refusal-inside : (code place : ℕ) (out : List ℕ) → Inside (refusal code place out)
unfolding refusal
refusal-inside code place out = omega arith

written-inside : (bytes out : List ℕ) → Inside (written bytes out)
unfolding written success
written-inside bytes out = go (leb (length bytes) (length out))
  where
    go : (b : Bool) → Inside (pick b (success bytes out) (refusal ROOM (length bytes) out))
    go true = omega (arith, length-append bytes (drop (length bytes) out))
    go false = refusal-inside ROOM (length bytes) out

deliver-inside : (v : Verdict) (out : List ℕ) → Inside (deliver v out)
unfolding deliver
deliver-inside (refused code place) out = refusal-inside code place out
deliver-inside (narrowed s) out = written-inside (bytes_of s) out

-- over plan files
pub reply-inside : (mode mask : ℕ) (file : List ℕ) (request : ℕ → List ℕ) (out : List ℕ) → Inside (reply mode mask file request out)
unfolding reply
reply-inside mode mask file request out = deliver-inside (verdict mode mask file request) out

-- over predicates
pub answered-inside : (o : keys.Outcome) (out : List ℕ) → Inside (answered o out)
unfolding answered
answered-inside (keys.refused code place) out = refusal-inside code place out
answered-inside (keys.result bytes) out = written-inside bytes out

-- over plan files as text
delivered-inside : (o : texts.Outcome) (out : List ℕ) → Inside (delivered o out)
unfolding delivered
delivered-inside (texts.refuses code place) out = refusal-inside code place out
delivered-inside (texts.yields bytes) out = written-inside bytes out

pub list_inside : (file out : List ℕ) → Inside (list_answer file out)
unfolding list_answer
list_inside file out = delivered-inside (list_of file) out

abbrev answer_text : (code size place : ℕ) (out : List ℕ) → List ℕ
answer_text code size place out = numbers_text (code ∷ size ∷ place ∷ []) ++ take size out

-- an answer does not pass its output, and what stands behind the output is not written
module _ {a : rules.Answer} {r : Answer} {out' : List ℕ} (h : AnswerIs a r out') (i : Inside a) (rest : List ℕ) where
  fits : r.length ≤ length out'
  fits = omega (arith, i, h.length_is, ap length h.out_is)

  pub answer-counts : Counts r.length (out' ++ rest)
  answer-counts = counted r.length (out' ++ rest) (omega (arith, fits, length-append out' rest))

  pub answer-bytes : (room : ℕ) → room ≤ 65536 → length out' ≡ length (take {A = ℕ} room (replicate 65536 0)) → length (take r.length (out' ++ rest)) ≤ 65536
  answer-bytes room l k = omega (arith, answer-counts.1, fits, k, room-long room l)

  pub answer-text : text_of r.code r.place (take r.length (out' ++ rest)) ≡ said a
  unfolding text_of said
  answer-text =
      ap (text_of r.code r.place) (take-append-le r.length out' rest fits)
      ∙ ap (λ (n : ℕ). numbers_text (r.code ∷ n ∷ r.place ∷ []) ++ take r.length out') (length-take-le r.length out' fits)
      ∙ ap₂ (λ (c : ℕ) (p : ℕ). answer_text c r.length p out') h.code_is h.place_is
      ∙ ap₂ (λ (n : ℕ) (ys : List ℕ). answer_text a.code n a.place ys) h.length_is h.out_is
