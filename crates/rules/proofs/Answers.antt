-- What is known of every answer: its code, and what it leaves of the buffer.
use mathlib.Core.Path.{◌≡◌, refl, ◌∙◌}
use mathlib.Core.Logic.{◌⊎◌, inl, inr}
use mathlib.Core.List.{List}
use mathlib.Core.Bool.{Bool, true, false}
use mathlib.Core.Option.{Option, none, some}
use Prim.Native.Nat.{ℕ, ◌≤◌}
use native.Mathlib.Omega.{arith}
use lib.Dec.{T, leb, leb→le}
use lib.ListN.{length, drop, length-append, length-drop}
use lib.Seq.{drop-append_seam}
use Rattle.cpl.specs.Codes.{ROOM, AMBIGUOUS}
use Rattle.cpl.specs.Plan.{Plan, Catalogue, Source}
use Rattle.cpl.specs.Read.{Res, ok, bad, pick}
use Rattle.cpl.specs.ReadPlan.{read_file}
use Rattle.cpl.specs.Bytes.{bytes_of}
use Rattle.cpl.specs.Accept.{Fault, fault}
use Rattle.cpl.proofs.Refusals.{Within, Coded, reading_coded, Faulty, check_coded}
use Rattle.rules.specs.Merge.{Merge}
use Rattle.rules.specs.Rewrite.{Walked}
use Rattle.rules.specs.Answer.{Verdict, refused, narrowed, settings_ok, merge_of, large, finish, requested, checked, judged, verdict, Answer, refusal, success, written, deliver, reply}

-- ── codes ───────────────────────────────────────────────────────────────────────────────────

-- a refusal before ROOM has a code from 1 to 12, or 17
abbrev pub Lawful : Verdict → Type 0
Lawful (refused code place) = Within 1 12 code ⊎ (code ≡ AMBIGUOUS)
Lawful (narrowed s) = Unit {0}

lawful_pick : (b : Bool) (v w : Verdict) → Lawful v → Lawful w → Lawful (pick b v w)
lawful_pick true v w h k = h
lawful_pick false v w h k = k

finish_lawful : (C : Catalogue) (w : Walked) → Lawful (finish C w)
unfolding finish
finish_lawful C w = lawful_pick (large w) _ _ (inl (omega arith, omega arith)) tt

requested_lawful : (M : Merge) (C : Catalogue) (p : Plan) (is : List ℕ) (f : Option ℕ) → Lawful (requested M C p is f)
unfolding requested
requested_lawful M C p is none = finish_lawful C _
requested_lawful M C p is (some position) = inl (omega arith, omega arith)

checked_lawful : (M : Merge) (C : Catalogue) (p : Plan) (request : ℕ → List ℕ) (f : Option Fault) → Faulty f → Lawful (checked M C p request f)
unfolding checked
checked_lawful M C p request none h = requested_lawful M C p _ _
checked_lawful M C p request (some (fault code node)) (inl h) = inl (omega (arith, h.0), omega (arith, h.1))
checked_lawful M C p request (some (fault code node)) (inr e) = inr e

judged_lawful : (M : Merge) (request : ℕ → List ℕ) (r : Res Source) → Coded r → Lawful (judged M request r)
unfolding judged
judged_lawful M request (ok s next tags nodes) h = checked_lawful M s.catalogue s.plan request _ (check_coded s.catalogue s.plan 0)
judged_lawful M request (bad code place) h = inl (omega (arith, h.0), omega (arith, h.1))

pub verdict_lawful : (mode mask : ℕ) (file : List ℕ) (request : ℕ → List ℕ) → Lawful (verdict mode mask file request)
unfolding verdict
verdict_lawful mode mask file request = lawful_pick (settings_ok mode mask) _ _ (judged_lawful (merge_of mode mask) request (read_file file) (reading_coded file)) (inl (omega arith, omega arith))

-- so it is no success
pub code_above : (code : ℕ) → Within 1 12 code ⊎ (code ≡ AMBIGUOUS) → 1 ≤ code
code_above code (inl h) = h.0
code_above code (inr e) = omega arith

-- ── the buffer ──────────────────────────────────────────────────────────────────────────────

-- "A refusal has length 0 and changes no byte of the output. On success the bytes past the length stay."
pub record Buffered (out : List ℕ) (a : Answer) : Type 0 where
  pub refused-keeps : ¬ (a.code ≡ 0) → (a.out ≡ out) × (a.length ≡ 0)
  pub past-stays : a.code ≡ 0 → (drop a.length a.out ≡ drop a.length out) × (a.place ≡ 0) × (a.length ≤ length out)
  pub as_long : length a.out ≡ length out

refusal_buffered : (code place : ℕ) (out : List ℕ) → 1 ≤ code → Buffered out (refusal code place out)
unfolding refusal
refusal_buffered code place out h = record { refused-keeps = λ n. (refl, refl); past-stays = λ e. absurd (omega arith); as_long = refl }

success_buffered : (bs out : List ℕ) → length bs ≤ length out → Buffered out (success bs out)
unfolding success
success_buffered bs out l =
    record {
      refused-keeps = λ n. absurd (n refl);
      past-stays = λ e. (drop-append_seam bs (drop (length bs) out), refl, l);
      as_long = length-append bs (drop (length bs) out) ∙ omega (arith, length-drop (length bs) out);
    }

written_buffered : (bs out : List ℕ) → Buffered out (written bs out)
unfolding written
written_buffered bs out = go (leb (length bs) (length out)) (λ t. t)
  where
    go : (b : Bool) → (T b → T (leb (length bs) (length out))) → Buffered out (pick b (success bs out) (refusal ROOM (length bs) out))
    go true t = success_buffered bs out (leb→le _ _ (t tt))
    go false t = refusal_buffered ROOM (length bs) out (omega arith)

deliver_buffered : (v : Verdict) (out : List ℕ) → Lawful v → Buffered out (deliver v out)
unfolding deliver
deliver_buffered (refused code place) out h = refusal_buffered code place out (code_above code h)
deliver_buffered (narrowed s) out h = written_buffered (bytes_of s) out

pub buffered : (mode mask : ℕ) (file : List ℕ) (request : ℕ → List ℕ) (out : List ℕ) → Buffered out (reply mode mask file request out)
unfolding reply
buffered mode mask file request out = deliver_buffered (verdict mode mask file request) out (verdict_lawful mode mask file request)

-- ("That two conforming results coincide is proved" over the contracts of the entries: `coincide` in answers/proofs/Ends, of an answer as three numbers
-- in simmerroof/proofs/Numbers.)
