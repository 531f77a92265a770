-- What is printed of an answer: its refusal, or the plan that the rules give, since the bytes written read back as that plan. Assumes nothing.
use mathlib.Core.Path.{◌≡◌, refl, sym, ap, ap₂, subst, ◌∙◌}
use mathlib.Core.Bool.{Bool, true, false}
use mathlib.Core.List.{List}
use Prim.Native.Nat.{ℕ, ◌<◌, ◌≤◌}
use native.Mathlib.Omega.{arith}
use borrow.Author.Tests.{eq-eqb, leb-true, ne_eqb}
use lib.Dec.{eqb, leb}
use lib.ListN.{length, take}
use Rattle.cpl.specs.AreBytes.{AreBytes}
use Rattle.cpl.specs.Bytes.{bytes_of}
use Rattle.cpl.specs.Codes.{LARGE, ROOM, SETTING}
use Rattle.cpl.specs.Fields.{fields_of}
use Rattle.cpl.specs.Plan.{Catalogue, Source}
use Rattle.cpl.specs.Read.{pick}
use Rattle.cpl.specs.ReadPlan.{read_file}
use Rattle.cpl.specs.Tests.{iota}
use Rattle.rules.specs.Answer as rules
use Rattle.rules.specs.Answer.{Verdict, answer_all, checked, deliver, finish, judged, large, merge_of, narrowed, refusal, refused, reply, requested, settings_ok, success}
use Rattle.rules.specs.Answer.{verdict, written}
use Rattle.rules.specs.Rewrite.{Walked, rewrite}
use Rattle.rules.specs.Success.{Success, source_of, wrote}
use Rattle.rules.proofs.Successes.{read_back}
use Rattle.writer_parts.specs.Wrote.{Wrote}
use Rattle.writer_parts.proofs.Over.{so}
use Rattle.answers.specs.Answers.{AnswerIs}
use Rattle.answers.specs.declared.Answer.{Answer}
use Rattle.listing.specs.Text.{answer_text, lent_out, list_text, plan_text, printed_text, refused_text}
use Rattle.listing.proofs.Files.{fine}

-- ── the bytes written lie in the output ─────────────────────────────────────────────────────

written-fits : (bytes out : List ℕ) → (written bytes out).length ≤ length out
unfolding written success refusal
written-fits bytes out = go (leb (length bytes) (length out)) refl
  where
    go : (b : Bool) → leb (length bytes) (length out) ≡ b → (pick b (success bytes out) (refusal ROOM (length bytes) out)).length ≤ length out
    go true e = leb-true _ _ e
    go false e = omega arith

pub deliver-fits : (v : Verdict) (out : List ℕ) → (deliver v out).length ≤ length out
unfolding deliver refusal
deliver-fits (refused code place) out = omega arith
deliver-fits (narrowed s) out = written-fits (bytes_of s) out

pub answer-fits : (mode mask : ℕ) (file out : List ℕ) {r : Answer} {out' : List ℕ} → AnswerIs (answer_all mode mask file out) r out' → r.length ≤ length out
unfolding reply
answer-fits mode mask file out h = omega (arith, h.length_is, deliver-fits (verdict mode mask file (λ width. iota 0 width)) out)

-- ── the texts of a verdict and its answer ───────────────────────────────────────────────────

refusal-text : (v : Verdict) (a : rules.Answer) → 0 < a.code → answer_text v a ≡ refused_text a.code a.place
unfolding answer_text
refusal-text (refused code place) a h = refl
refusal-text (narrowed s) a h = rw (ne_eqb a.code 0 (λ e. omega arith)) refl

plan-text : (s : Source) (a : rules.Answer) → a.code ≡ 0 → answer_text (narrowed s) a ≡ plan_text s.catalogue s.plan
unfolding answer_text
plan-text s a z = rw (eq-eqb a.code 0 z) refl

-- ── an answer of code 0 ─────────────────────────────────────────────────────────────────────

-- of a refusal and a plan, it is the plan that was delivered
not-refused : (b : Bool) (code place : ℕ) (s : Source) (out : List ℕ) → 0 < code → (deliver (pick b (refused code place) (narrowed s)) out).code ≡ 0
    → pick b (refused code place) (narrowed s) ≡ narrowed s
unfolding deliver refusal
not-refused true code place s out l z = absurd (omega arith)
not-refused false code place s out l z = refl

finished : (b : Bool) (C : Catalogue) (w : Walked) (out : List ℕ) → (deliver (pick b (finish C w) (refused SETTING 0)) out).code ≡ 0
    → pick b (finish C w) (refused SETTING 0) ≡ narrowed (source_of C w.plan)
unfolding deliver refusal finish
finished true C w out z = not-refused (large w) LARGE 0 (source_of C w.plan) out (omega arith) z
finished false C w out z = absurd (omega arith)

module _ (mode mask : ℕ) (file : List ℕ) where
  abbrev all : ℕ → List ℕ
  all width = iota 0 width

  abbrev given : rules.Answer
  given = answer_all mode mask file lent_out

  module _ (s : Success mode mask file (λ width. iota 0 width) (answer_all mode mask file lent_out)) where
    -- the bytes written are listed, and not refused
    listed_back : list_text (wrote given) ≡ plan_text s.catalogue s.walked.plan
    listed_back = fine (wrote given) s.catalogue s.walked.plan _ _ _ s.reads_back s.accepted_back

    judged_as : judged (merge_of mode mask) all (read_file file) ≡ finish s.catalogue s.walked
    unfolding judged checked requested
    judged_as =
        let C = s.catalogue in
        let p = s.old in
        let M = merge_of mode mask in
        ap (judged M all) s.reads
        ∙ (ap (checked M C p all) s.accepted
        ∙ (ap (requested M C p (all (length (fields_of C p)))) s.asked ∙ ap (finish C) (ap (rewrite M C p) (sym s.asks) ∙ sym s.by_the_rules)))

    verdict-is : given.code ≡ 0 → verdict mode mask file all ≡ narrowed (source_of s.catalogue s.walked.plan)
    unfolding verdict reply
    verdict-is z =
        ap (λ v. pick (settings_ok mode mask) v (refused SETTING 0)) judged_as
        ∙ finished (settings_ok mode mask) s.catalogue s.walked lent_out
        (subst (λ v. (deliver (pick (settings_ok mode mask) v (refused SETTING 0)) lent_out).code ≡ 0) judged_as z)

    -- what is printed where the code is 0: the listing of the very plan that the rules give
    pub prints_plan : given.code ≡ 0 → printed_text mode mask file ≡ plan_text s.catalogue s.walked.plan
    unfolding printed_text
    prints_plan z = ap (λ v. answer_text v given) (verdict-is z) ∙ plan-text (source_of s.catalogue s.walked.plan) given z

  module _ {r : Answer} {out' xs ys : List ℕ} {n : ℕ} (h : AnswerIs (answer_all mode mask file lent_out) r out') where
    pub printed_refusal : 0 < r.code → Wrote (refused_text r.code r.place) xs n ys → Wrote (printed_text mode mask file) xs n ys
    unfolding printed_text
    printed_refusal l w =
        so w (ap₂ refused_text h.code_is h.place_is ∙ sym (refusal-text (verdict mode mask file all) given (omega (arith, h.code_is)))) refl

    pub printed_listing : AreBytes file → r.code ≡ 0 → Wrote (list_text (take r.length out')) xs n ys → Wrote (printed_text mode mask file) xs n ys
    printed_listing b z w =
        let e = sym h.code_is ∙ z in
        let s = read_back mode mask file (λ width. iota 0 width) lent_out b e in
        so w (ap₂ (λ (i : ℕ) (out : List ℕ). list_text (take i out)) h.length_is h.out_is ∙ (listed_back s ∙ sym (prints_plan s e))) refl
