-- The laws of text that is put into a buffer: letters, texts one after the other, numbers, and what the end of a run says. Assumes nothing.
use mathlib.Core.Path.{◌≡◌, refl, sym, ap, ap₂, ◌∙◌}
use mathlib.Core.Bool.{Bool, true, false}
use mathlib.Core.List.{List, [], ◌∷◌, ◌++◌, append_assoc}
use Prim.Native.Nat.{ℕ, zero, suc, min, ◌+◌, ◌-◌, ◌/◌, ◌%◌, ◌^◌, ◌<◌, ◌≤◌}
use native.Mathlib.Omega.{arith}
use borrow.Author.Tests.{lt-ltb, le-ltb, ltb-false, ltb-true}
use lib.Dec.{ltb}
use lib.ListN.{length, set, drop, drop_of_length-le, get_or, length-append}
use lib.Seq.{set_out, set-append_seam, drop-cons}
use Rattle.cpl.specs.Codes.{signed}
use Rattle.cpl.specs.Plan.{pair}
use Rattle.cpl.specs.Read.{pick}
use Rattle.plan_text.specs.Write.{Text, ◌·◌, word, nothing, number, integer, pair_text}
use Rattle.plan_text.specs.Words.{w_minus, w_c, w_q, w_dot_c}
use Rattle.plan_text.proofs.Digits.{number_small, number_step}
use Rattle.text_put.specs.Puts.{last_place, past, run, Puts, Leads}

-- ── texts in a row ──────────────────────────────────────────────────────────────────────────

-- nothing was put
pub none_put : {at : ℕ} {xs : List ℕ} → Puts nothing at xs at xs
none_put = record { leads = λ rest. refl }

infixl 25 ◌then◌
-- one text, then another
pub ◌then◌ : {t u : Text} {at b r : ℕ} {xs ys zs : List ℕ} → Puts t at xs b ys → Puts u b ys r zs → Puts (t · u) at xs r zs
◌then◌ {t} {u} p q = record { leads = λ rest. p.leads (u rest) ∙ q.leads rest }

-- a text by another name
pub as_text : (t u : Text) {at r : ℕ} {xs ys : List ℕ} → ((rest : List ℕ) → u rest ≡ t rest) → Puts t at xs r ys → Puts u at xs r ys
as_text t u {at} {r} {xs} {ys} e p = record { leads = λ rest. ap (λ (bs : List ℕ). run bs at xs) (e rest) ∙ p.leads rest }

-- ── texts that a loop puts ──────────────────────────────────────────────────────────────────

-- before the first turn
pub begin : {t : Text} {at : ℕ} {xs : List ℕ} → Leads t at xs t at xs
begin = record { same = λ rest. refl }

-- a turn puts v, and leaves w of what was left
pub turn : {t u v : Text} (w : Text) {at b r : ℕ} {xs ys zs : List ℕ} → Leads t at xs u b ys → Puts v b ys r zs → ((rest : List ℕ) → u rest ≡ v (w rest)) → Leads t at xs w r zs
turn w {b = b} {ys = ys} l p e = record { same = λ rest. l.same rest ∙ (ap (λ (bs : List ℕ). run bs b ys) (e rest) ∙ p.leads (w rest)) }

-- what was left is put
pub finish : {t u v : Text} {at b r : ℕ} {xs ys zs : List ℕ} → Leads t at xs u b ys → Puts v b ys r zs → ((rest : List ℕ) → u rest ≡ v rest) → Puts t at xs r zs
finish {b = b} {ys = ys} l p e = record { leads = λ rest. l.same rest ∙ (ap (λ (bs : List ℕ). run bs b ys) (e rest) ∙ p.leads rest) }

-- nothing was left
pub finished : {t u : Text} {at r : ℕ} {xs ys : List ℕ} → Leads t at xs u r ys → ((rest : List ℕ) → u rest ≡ rest) → Puts t at xs r ys
finished {r = r} {ys = ys} l e = record { leads = λ rest. l.same rest ∙ ap (λ (bs : List ℕ). run bs r ys) (e rest) }

-- ── a letter ────────────────────────────────────────────────────────────────────────────────

past-below : (at : ℕ) → at < last_place → past at ≡ at + 1
unfolding past
past-below at h = let e : suc at ≡ at + 1 = omega arith in rw (lt-ltb at last_place h) e

letter : {b at r : ℕ} {xs ys : List ℕ} → past at ≡ r → set xs at b ≡ ys → Puts (word (b ∷ [])) at xs r ys
unfolding run
letter {b} {at} {r} {xs} {ys} e f = record { leads = λ rest. ap (λ i. run rest i (set xs at b)) e ∙ ap (λ (zs : List ℕ). run rest r zs) f }

past_is : (at : ℕ) → at ≤ last_place → past at ≡ min (at + 1) last_place
unfolding past
past_is at m = go (ltb at last_place) refl
  where
    go : (t : Bool) → ltb at last_place ≡ t → pick t (suc at) at ≡ min (at + 1) last_place
    go true h = let l : at < last_place = ltb-true at last_place h in omega arith
    go false h = let l : last_place ≤ at = ltb-false at last_place h in omega arith

-- a letter in the buffer, and one behind its end
pub letter_at : {b at : ℕ} {xs : List ℕ} (r : ℕ) → r ≡ min (at + 1) last_place → at ≤ last_place → Puts (word (b ∷ [])) at xs r (set xs at b)
letter_at {b} {at} {xs} r e m = letter (past_is at m ∙ sym e) refl

pub letter_behind : {b at : ℕ} {xs : List ℕ} (r : ℕ) → r ≡ min (at + 1) last_place → at ≤ last_place → length xs ≤ at → Puts (word (b ∷ [])) at xs r xs
letter_behind {b} {at} {xs} r e m h = letter (past_is at m ∙ sym e) (set_out xs at b h)

-- ── words ───────────────────────────────────────────────────────────────────────────────────

-- a turn of the loop over a word's letters
pub word_turn : {t : Text} {at b r : ℕ} {xs ys zs : List ℕ} (s : List ℕ) (i : ℕ) → i < length s → Leads t at xs (word (drop i s)) b ys → Puts (word (get_or s i 0 ∷ [])) b ys r zs →
    Leads t at xs (word (drop (i + 1) s)) r zs
word_turn s i h l p = let e : suc i ≡ i + 1 = omega arith in turn (word (drop (i + 1) s)) l p λ rest. ap (λ (bs : List ℕ). bs ++ rest) (drop-cons s i 0 h ∙ ap (λ k. get_or s i 0 ∷ drop k s) e)

pub word-done : {t : Text} {at b : ℕ} {xs ys : List ℕ} (s : List ℕ) (i : ℕ) → length s ≤ i → Leads t at xs (word (drop i s)) b ys → Puts t at xs b ys
word-done s i h l = finished l λ rest. ap (λ (bs : List ℕ). bs ++ rest) (drop_of_length-le s h)

-- ── numbers ─────────────────────────────────────────────────────────────────────────────────

pub digit : {at r : ℕ} {xs ys : List ℕ} (n : ℕ) → n < 10 → Puts (word ((48 + n) ∷ [])) at xs r ys → Puts (number n) at xs r ys
digit n h p = as_text (word ((48 + n) ∷ [])) (number n) (λ rest. number_small n rest h) p

pub digit_more : {at b r : ℕ} {xs ys zs : List ℕ} (n : ℕ) → 10 ≤ n → Puts (number (n / 10)) at xs b ys → Puts (word ((48 + n % 10) ∷ [])) b ys r zs → Puts (number n) at xs r zs
digit_more n h p q = as_text (number (n / 10) · word ((48 + n % 10) ∷ [])) (number n) (λ rest. number_step n rest h) (p then q)

-- a number of 64 bits that is not negative, and one that is
pub integer-pos : {at r : ℕ} {xs ys : List ℕ} (x : ℕ) → x < 2 ^ 63 → Puts (number x) at xs r ys → Puts (integer (signed x)) at xs r ys
unfolding signed integer
integer-pos x h p = rw (lt-ltb x (2 ^ 63) h) p

pub integer_neg : {at b r : ℕ} {xs ys zs : List ℕ} (x n : ℕ) → 2 ^ 63 ≤ x → n ≡ suc (2 ^ 64 - 1 - x) → Puts (word w_minus) at xs b ys → Puts (number n) b ys r zs →
    Puts (integer (signed x)) at xs r zs
unfolding signed integer
integer_neg {b = b} {r} {ys = ys} {zs} x n h e p q =
    let q' : Puts (number (suc (2 ^ 64 - 1 - x))) b ys r zs = rw e at q in
    rw (le-ltb x (2 ^ 63) h) (p then q')

-- ── pairs ───────────────────────────────────────────────────────────────────────────────────

pub pair-bare : {at b r : ℕ} {xs ys zs : List ℕ} (q n : ℕ) → q ≡ 0 → Puts (word w_c) at xs b ys → Puts (number n) b ys r zs → Puts (pair_text (pair q n)) at xs r zs
unfolding pair_text
pair-bare zero n e p₁ p₂ = p₁ then p₂
pair-bare (suc q) n e p₁ p₂ = absurd (omega arith)

pub pair-qualified : {at b c d r : ℕ} {xs ys zs us vs : List ℕ} (q n : ℕ) → 0 < q → Puts (word w_q) at xs b ys → Puts (number q) b ys c zs → Puts (word w_dot_c) c zs d us →
    Puts (number n) d us r vs → Puts (pair_text (pair q n)) at xs r vs
unfolding pair_text
pair-qualified zero n h p₁ p₂ p₃ p₄ = absurd (omega arith)
pair-qualified (suc q) n h p₁ p₂ p₃ p₄ = p₁ then p₂ then p₃ then p₄

-- ── the end of a run ────────────────────────────────────────────────────────────────────────

-- the place where a run ends does not depend on the buffer, and is its length further on
pub run_far : (bs : List ℕ) (at : ℕ) (out : List ℕ) → at + length bs ≤ last_place → (run bs at out).0 ≡ at + length bs
unfolding run
run_far [] at out h = omega arith
run_far (b ∷ bs) at out h =
    let e : at + 1 + length bs ≡ at + length (b ∷ bs) = omega arith in
    ap (λ i. (run bs i (set out at b)).0) (past-below at (omega arith)) ∙ (run_far bs (at + 1) (set out at b) (omega arith) ∙ e)

-- it stores the letters over those that were there, where they fit
pub run_stores : (bs p xs : List ℕ) → length p + length bs ≤ last_place → length bs ≤ length xs → (run bs (length p) (p ++ xs)).1 ≡ p ++ (bs ++ drop (length bs) xs)
unfolding run
run_stores [] p xs h l = refl
run_stores (b ∷ bs) p [] h l = absurd (omega arith)
run_stores (b ∷ bs) p (x ∷ xs) h l =
    let e : length p + 1 ≡ length (p ++ b ∷ []) = simp length-append in
    let f : set (p ++ x ∷ xs) (length p) b ≡ (p ++ b ∷ []) ++ xs = set-append_seam p x xs b ∙ sym (append_assoc p (b ∷ []) xs) in
    ap₂ (λ i (ys : List ℕ). (run bs i ys).1) (past-below (length p) (omega arith) ∙ e) f
    ∙ (run_stores bs (p ++ b ∷ []) xs (omega (arith, e)) (omega arith) ∙ append_assoc p (b ∷ []) (bs ++ drop (length bs) xs))
