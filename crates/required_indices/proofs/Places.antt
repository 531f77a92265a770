-- A set in words by the index of a word: which indices it has, one index added, and the next index at digit `at` of word k.
use mathlib.Core.Path.{◌≡◌, sym, subst, ◌∙◌, ap, ap₂}
use mathlib.Core.Logic.{⊎_elim}
use mathlib.Core.List.{List, [], ◌∷◌, ◌++◌}
use Prim.Native.Nat.{ℕ, zero, suc, ◌+◌, ◌-◌, ◌*◌, ◌/◌, ◌%◌, ◌^◌, ◌≤◌, ◌<◌, min}
use native.Mathlib.Omega.{arith}
use lib.Bits.{bit_or}
use lib.ListN.{length, get_or, set, take, drop, replicate, length-append, length-replicate, length-take}
use lib.Seq.{take-set-lt, get_or-take}
use borrow.Rule.Slice.PartMut.{put_mid}
use mir.Val.{Fits}
use mir.Syntax.{w64}
use Rattle.cpl.specs.Lists.{All, a[], ◌a∷◌}
use Rattle.required_indices.specs.Set.{has}
use Rattle.required_indices.specs.Words.{number, Word}
use Rattle.required_indices.specs.Request.{words_n, set_of}
use Rattle.required_indices.specs.declared.RequiredIndices.{RequiredIndices}
use Rattle.required_indices.proofs.Members.{side, has-none}
use Rattle.required_indices.proofs.Words.{number-has, number-has-past, number-add, number-add-past}
use Rattle.required_indices.proofs.Pads.{fits-long, in_use, number_pad, words_pad, words_take}
use Rattle.required_indices.proofs.Shifts.{shifted_one}

-- the words of an array
pub words : (ws : List ℕ) → ((i : ℕ) → Fits w64 (get_or ws i 0)) → All Word ws
words [] f = a[]
words (w ∷ ws) f = (f 0).fits a∷ words ws (λ i. f (suc i))

-- numbers of 64 digits, among other such numbers
pub fits_set : (ws : List ℕ) (i : ℕ) (x : ℕ) → x < 2 ^ 64 → ((j : ℕ) → Fits w64 (get_or ws j 0)) → (j : ℕ) → Fits w64 (get_or (set ws i x) j 0)
fits_set [] i x f h j = h j
fits_set (w ∷ ws) zero x f h zero = record { fits = f }
fits_set (w ∷ ws) zero x f h (suc j) = h (suc j)
fits_set (w ∷ ws) (suc i) x f h zero = h 0
fits_set (w ∷ ws) (suc i) x f h (suc j) = fits_set ws i x f (λ k. h (suc k)) j

fits_append : (vs ws : List ℕ) → ((j : ℕ) → Fits w64 (get_or vs j 0)) → ((j : ℕ) → Fits w64 (get_or ws j 0)) → (j : ℕ) → Fits w64 (get_or (vs ++ ws) j 0)
fits_append [] ws h g j = g j
fits_append (v ∷ vs) ws h g zero = h 0
fits_append (v ∷ vs) ws h g (suc j) = fits_append vs ws (λ k. h (suc k)) g j

fits_take : (n : ℕ) (ws : List ℕ) → ((j : ℕ) → Fits w64 (get_or ws j 0)) → (j : ℕ) → Fits w64 (get_or (take n ws) j 0)
fits_take zero ws h j = record { fits = omega arith }
fits_take (suc n) [] h j = h j
fits_take (suc n) (w ∷ ws) h zero = h 0
fits_take (suc n) (w ∷ ws) h (suc j) = fits_take n ws (λ k. h (suc k)) j

fits_drop : (n : ℕ) (ws : List ℕ) → ((j : ℕ) → Fits w64 (get_or ws j 0)) → (j : ℕ) → Fits w64 (get_or (drop n ws) j 0)
fits_drop zero ws h j = h j
fits_drop (suc n) [] h j = h j
fits_drop (suc n) (w ∷ ws) h j = fits_drop n ws (λ k. h (suc k)) j

fits_zeros : (n j : ℕ) → Fits w64 (get_or (replicate n 0) j 0)
fits_zeros zero j = record { fits = omega arith }
fits_zeros (suc n) zero = record { fits = omega arith }
fits_zeros (suc n) (suc j) = fits_zeros n j

-- words of 0 come into use
pub fits_mid : (a k : ℕ) (ws zs : List ℕ) (n : ℕ) → zs ≡ replicate n 0 → ((j : ℕ) → Fits w64 (get_or ws j 0)) → (j : ℕ) → Fits w64 (get_or (put_mid a k ws zs) j 0)
fits_mid a k ws zs n e h = rw e (fits_append (take a ws) _ (fits_take a ws h) (fits_append (replicate n 0) _ (fits_zeros n) (fits_drop k _ (fits_drop a ws h))))

-- index i is digit i % 64 of word i / 64
pub has_at : {ws : List ℕ} → All Word ws → (i : ℕ) → has (number ws) i ≡ has (get_or ws (i / 64) 0) (i % 64)
unfolding number
has_at a[] i = has-none i ∙ sym (has-none (i % 64))
has_at (◌a∷◌ {x = w} {xs = ws} h hs) i =
    let ih : has (number ws) (i - 64) ≡ has (get_or ws ((i - 64) / 64) 0) ((i - 64) % 64) = has_at hs (i - 64) in
    ⊎_elim
    (λ (l : 64 ≤ i).
    let e : i ≡ 64 + (i - 64) = omega arith in
    let q : suc ((i - 64) / 64) ≡ i / 64 = omega arith in
    let m : (i - 64) % 64 ≡ i % 64 = omega arith in
    ap (has (number (w ∷ ws))) e ∙ number-has-past w ws (i - 64) h ∙ ih ∙ ap₂ (λ (x y : ℕ). has (get_or (w ∷ ws) x 0) y) q m)
    (λ (l : i < 64).
    let q : 0 ≡ i / 64 = omega arith in
    let m : i ≡ i % 64 = omega arith in
    number-has w ws i h l ∙ ap₂ (λ (x y : ℕ). has (get_or (w ∷ ws) x 0) y) q m)
    (side 64 i)

-- one index added
pub add_at : {ws : List ℕ} → All Word ws → (i : ℕ) → i < length ws * 64 → number (set ws (i / 64) (bit_or (get_or ws (i / 64) 0) (2 ^ (i % 64)))) ≡ bit_or (number ws) (2 ^ i)
add_at a[] i b = absurd (omega arith)
add_at (◌a∷◌ {x = w} {xs = ws} h hs) i b =
    ⊎_elim
    (λ (l : 64 ≤ i).
    let e : (i - 64) + 64 ≡ i = omega arith in
    let q : i / 64 ≡ suc ((i - 64) / 64) = omega arith in
    let m : i % 64 ≡ (i - 64) % 64 = omega arith in
    ap₂ (λ (x y : ℕ). number (set (w ∷ ws) x (bit_or (get_or (w ∷ ws) x 0) (2 ^ y)))) q m ∙ number-add-past w ws _ (i - 64) h (add_at hs (i - 64) (omega arith))
    ∙ ap (λ (x : ℕ). bit_or (number (w ∷ ws)) (2 ^ x)) e)
    (λ (l : i < 64).
    let q : i / 64 ≡ 0 = omega arith in
    let m : i % 64 ≡ i = omega arith in
    ap₂ (λ (x y : ℕ). number (set (w ∷ ws) x (bit_or (get_or (w ∷ ws) x 0) (2 ^ y)))) q m ∙ number-add w ws i h l)
    (side 64 i)

-- what is known of a request's array: how many words it has, and that they are words
pub record Whole (r : RequiredIndices) : Type 0 where
  pub long : length r.indices ≡ words_n
  pub each : All Word r.indices

-- a request is below what its words can hold
pub set_lt : (r : RequiredIndices) → length r.indices ≡ words_n → All Word r.indices → set_of r < 2 ^ (words_n * 64)
set_lt r long hs = fits-long words_n (words_take r.used hs) (omega (arith, length-take r.used r.indices))

-- index i added behind n words that are in use, of the first `end` words of cur, which has words of 0 behind them
pub added : (used i n end : ℕ) {ws : List ℕ} (cur : List ℕ) → All Word ws → n ≡ min used (length ws) → take end cur ≡ take n ws ++ replicate (end - n) 0 → i / 64 < end
    → number (take end (set cur (i / 64) (bit_or (get_or cur (i / 64) 0) ((1 * 2 ^ (i % 64)) % 2 ^ 64)))) ≡ bit_or (number (take used ws)) (2 ^ i)
added used i n end {ws} cur hs e f inside =
    let ks : All Word (take end cur) = subst (All Word) (sym f) (words_pad (end - n) (words_take n hs)) in
    let long : end ≤ length (take end cur) = omega (arith, ap length f, length-append (take n ws) (replicate (end - n) 0), length-replicate {A = ℕ} (end - n) 0, length-take n ws) in
    ap number (take-set-lt end cur (i / 64) (bit_or (get_or cur (i / 64) 0) ((1 * 2 ^ (i % 64)) % 2 ^ 64)) inside)
    ∙ ap₂ (λ (x y : ℕ). number (set (take end cur) (i / 64) (bit_or x y))) (sym (get_or-take end cur (i / 64) 0 inside)) (shifted_one (i % 64) (omega arith))
    ∙ add_at ks i (omega arith)
    ∙ ap (λ (x : ℕ). bit_or x (2 ^ i)) (ap number f ∙ number_pad (take n ws) (end - n) ∙ ap number (sym (in_use used n ws e)))
