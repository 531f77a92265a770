-- A loop that writes, word by word, the indices of a set moved: more by whole words, then less n, where each word takes its upper digits from the next.
use mathlib.Core.Path.{◌≡◌, refl, sym, ◌∙◌, ap, ap₂, subst}
use mathlib.Core.Logic.{⊎_elim}
use mathlib.Core.List.{List, [], ◌∷◌, ◌++◌}
use Prim.Native.Nat.{ℕ, zero, suc, ◌+◌, ◌-◌, ◌*◌, ◌/◌, ◌%◌, ◌^◌, ◌≤◌, ◌<◌, min}
use native.Mathlib.Nat.{add-zero, mul-one, mul_assoc, div-one, zero-div, zero-mod, lt_of_lt_of_le}
use native.Mathlib.Omega.{arith}
use lib.Pow.{pow-add, pow_mono, shl_lt, shl-shr, shr-shr, shr_lt}
use lib.Bits.{bit_or, or_shifted_r}
use lib.ListN.{length, get_or, take, drop, set, replicate}
use lib.Seq.{get_or-drop}
use Rattle.cpl.specs.Lists.{All, a[], ◌a∷◌}
use Rattle.required_indices.specs.Words.{number, Word}
use Rattle.required_indices.proofs.Members.{side}
use Rattle.required_indices.proofs.Words.{number_lt, number_tails, head_or, down_w, number_down}
use Rattle.required_indices.proofs.Pads.{wide, wide-length, wide_get, number-wide}
use Rattle.required_indices.proofs.Loops.{Filled, fill_start, fill_turn, fill_end}

number-drop : (q : ℕ) {ws : List ℕ} → All Word ws → number (drop q ws) ≡ number ws / 2 ^ (q * 64)
unfolding number
number-drop zero {ws} hs = sym (div-one (number ws))
number-drop (suc q) a[] = sym (zero-div (2 ^ (suc q * 64)))
number-drop (suc q) (◌a∷◌ {x = w} {xs = ws} h hs) =
    let e : 64 + q * 64 ≡ suc q * 64 = omega arith in
    number-drop q hs ∙ sym (number_tails (q * 64) w ws h) ∙ ap (λ (x : ℕ). number (w ∷ ws) / 2 ^ x) e

-- a word that takes its upper digits from the next
abbrev pulled : ℕ → ℕ → ℕ → ℕ
pulled n w v = (v % 2 ^ n) * 2 ^ (64 - n) + w / 2 ^ n

pulled_zero : (n : ℕ) → 0 ≡ pulled n 0 0
pulled_zero n = let a : (0 % 2 ^ n) * 2 ^ (64 - n) ≡ 0 = ap (λ (x : ℕ). x * 2 ^ (64 - n)) (zero-mod (2 ^ n)) ∙ omega arith in omega (arith, a, zero-div (2 ^ n))

head_get : (ws : List ℕ) → head_or ws ≡ get_or ws 0 0
unfolding head_or
head_get [] = refl
head_get (w ∷ ws) = refl

down_get : (n : ℕ) (ws : List ℕ) (k : ℕ) → get_or (down_w n ws) k 0 ≡ pulled n (get_or ws k 0) (get_or ws (suc k) 0)
unfolding down_w
down_get n [] k = pulled_zero n
down_get n (w ∷ ws) zero = ap (pulled n w) (head_get ws)
down_get n (w ∷ ws) (suc k) = down_get n ws k

-- words of 0 ahead
abbrev pub ahead : ℕ → List ℕ → List ℕ
ahead up ws = replicate up 0 ++ ws

number_ahead : (up : ℕ) (ws : List ℕ) → number (ahead up ws) ≡ number ws * 2 ^ (up * 64)
unfolding number
number_ahead zero ws = sym (mul-one (number ws))
number_ahead (suc up) ws =
    let e : up * 64 + 64 ≡ suc up * 64 = omega arith in
    add-zero (number (ahead up ws) * 2 ^ 64) ∙ ap (λ (x : ℕ). x * 2 ^ 64) (number_ahead up ws) ∙ mul_assoc (number ws) (2 ^ (up * 64)) (2 ^ 64)
    ∙ ap (λ (x : ℕ). number ws * x) (sym (pow-add 2 (up * 64) 64) ∙ ap (λ (x : ℕ). 2 ^ x) e)

words_ahead : (up : ℕ) {ws : List ℕ} → All Word ws → All Word (ahead up ws)
words_ahead zero hs = hs
words_ahead (suc up) hs = ◌a∷◌ {x = 0} (omega arith) (words_ahead up hs)

pub get_ahead : (up k : ℕ) (ws : List ℕ) → up ≤ k → get_or (ahead up ws) k 0 ≡ get_or ws (k - up) 0
get_ahead zero k ws l = let e : k ≡ k - 0 = omega arith in ap (λ (x : ℕ). get_or ws x 0) e
get_ahead (suc up) zero ws l = absurd (omega arith)
get_ahead (suc up) (suc k) ws l = let e : k - up ≡ suc k - suc up = omega arith in get_ahead up k ws (omega arith) ∙ ap (λ (x : ℕ). get_or ws x 0) e

pub get_below : (up k : ℕ) (ws : List ℕ) → k < up → 0 ≡ get_or (ahead up ws) k 0
get_below zero k ws l = absurd (omega arith)
get_below (suc up) zero ws l = refl
get_below (suc up) (suc k) ws l = get_below up k ws (omega arith)

-- c words of a set less n
unfoldable pub slide_w : ℕ → ℕ → List ℕ → List ℕ
slide_w c n ws = wide c (down_w (n % 64) (drop (n / 64) ws))

slide_length : (c n : ℕ) (ws : List ℕ) → length (slide_w c n ws) ≡ c
unfolding slide_w
slide_length c n ws = wide-length c (down_w (n % 64) (drop (n / 64) ws))

slide_get : (c n : ℕ) (ws : List ℕ) (k : ℕ) → k < c → get_or (slide_w c n ws) k 0 ≡ pulled (n % 64) (get_or ws (n / 64 + k) 0) (get_or ws (n / 64 + k + 1) 0)
unfolding slide_w
slide_get c n ws k l =
    let e : n / 64 + suc k ≡ n / 64 + k + 1 = omega arith in
    wide_get c (down_w (n % 64) (drop (n / 64) ws)) k l ∙ down_get (n % 64) (drop (n / 64) ws) k
    ∙ ap₂ (pulled (n % 64)) (get_or-drop (n / 64) ws k 0) (get_or-drop (n / 64) ws (suc k) 0 ∙ ap (λ (x : ℕ). get_or ws x 0) e)

number_slide : (c n : ℕ) {ws : List ℕ} → All Word ws → number ws / 2 ^ n < 2 ^ (c * 64) → number (slide_w c n ws) ≡ number ws / 2 ^ n
unfolding slide_w
number_slide c n {ws} hs fits =
    let e : n / 64 * 64 + n % 64 ≡ n = omega arith in
    let whole : number (down_w (n % 64) (drop (n / 64) ws)) ≡ number ws / 2 ^ n =
    number_down (n % 64) (drop (n / 64) ws) (omega arith)
    ∙ ap (λ (x : ℕ). x / 2 ^ (n % 64)) (number-drop (n / 64) hs) ∙ shr-shr (number ws) (n / 64 * 64) (n % 64) ∙ ap (λ (x : ℕ). number ws / 2 ^ x) e in
    number-wide c (down_w (n % 64) (drop (n / 64) ws)) (rw whole fits) ∙ whole

-- a word pulled, in code: `(w >> n) | carry(v, n)`
pulled_or : (n w v : ℕ) → n ≤ 64 → Word w → bit_or (w / 2 ^ n) ((v % 2 ^ n) * 2 ^ (64 - n)) ≡ pulled n w v
pulled_or n w v l h = or_shifted_r (v % 2 ^ n) (64 - n) (w / 2 ^ n) (shr_lt (64 - n) n (subst (λ (x : ℕ). w < 2 ^ x) {x = 64} {y = (64 - n) + n} (omega arith) h))

pub slide_start : (c n : ℕ) (ws cur : List ℕ) → c ≤ length cur → Filled (slide_w c n ws) cur 0
slide_start c n ws cur l = fill_start (slide_w c n ws) cur (omega (arith, slide_length c n ws))

module _ (c n : ℕ) (ws cur : List ℕ) (k : ℕ) (j : Filled (slide_w c n ws) cur k) where
  pub slide_turn : (w v u : ℕ) → k < c → Word w → w ≡ get_or ws (n / 64 + k) 0 → v ≡ get_or ws (n / 64 + k + 1) 0 → u ≡ (v % 2 ^ (n % 64)) * 2 ^ (64 - n % 64) → Filled (slide_w c n ws) (set cur k (bit_or (w / 2 ^ (n % 64)) u)) (k + 1)
  slide_turn w v u l h e d g =
      fill_turn (slide_w c n ws) cur k j (bit_or (w / 2 ^ (n % 64)) u) (omega (arith, slide_length c n ws))
      (ap (bit_or (w / 2 ^ (n % 64))) g ∙ pulled_or (n % 64) w v (omega arith) h ∙ ap₂ (pulled (n % 64)) e d ∙ sym (slide_get c n ws k l))

pub slide_end : (c up n : ℕ) (ws cur : List ℕ) (k : ℕ) → Filled (slide_w c n (ahead up ws)) cur k → c ≤ k → All Word ws → number ws * 2 ^ (up * 64) / 2 ^ n < 2 ^ (c * 64) → number (take c cur) ≡ number ws * 2 ^ (up * 64) / 2 ^ n
slide_end c up n ws cur k j l hs fits =
    let e = number_ahead up ws in
    ap (λ (x : ℕ). number (take x cur)) (sym (slide_length c n (ahead up ws)))
    ∙ ap number (fill_end (slide_w c n (ahead up ws)) cur k j (omega (arith, slide_length c n (ahead up ws))))
    ∙ number_slide c n (words_ahead up hs) (subst (λ (x : ℕ). x / 2 ^ n < 2 ^ (c * 64)) (sym e) fits) ∙ ap (λ (x : ℕ). x / 2 ^ n) e

-- the words that are left: all d, or those that the moved set reaches
pub slide_fits : (c d up n : ℕ) {ws : List ℕ} → All Word ws → c ≡ min (length ws + up - n / 64) d → number ws * 2 ^ (up * 64) / 2 ^ n < 2 ^ (d * 64) → number ws * 2 ^ (up * 64) / 2 ^ n < 2 ^ (c * 64)
slide_fits c d up n {ws} hs e fits =
    ⊎_elim
    (λ (l : d ≤ c). lt_of_lt_of_le fits (pow_mono {i = d * 64} {j = c * 64} (omega arith)))
    (λ (l : c < d).
    let m : length ws * 64 + up * 64 ≤ c * 64 + n = omega arith in
    shr_lt (c * 64) n (lt_of_lt_of_le (shl_lt (length ws * 64) (up * 64) (number_lt hs)) (pow_mono {i = length ws * 64 + up * 64} {j = c * 64 + n} m)))
    (side d c)

-- less n; and more by n: up whole words, one more than are in n, and then less what is left over
pub slide_rest : (s n : ℕ) → s * 2 ^ (0 * 64) / 2 ^ n ≡ s / 2 ^ n
slide_rest s n = ap (λ (x : ℕ). x / 2 ^ n) (mul-one s)

pub slide_up : (s n : ℕ) → s * 2 ^ ((n / 64 + 1) * 64) / 2 ^ (64 - n % 64) ≡ s * 2 ^ n
slide_up s n =
    let m : ℕ = 64 - n % 64 in
    let e : (n / 64 + 1) * 64 ≡ n + m = omega arith in
    ap (λ (x : ℕ). s * x / 2 ^ m) (ap (λ (x : ℕ). 2 ^ x) e ∙ pow-add 2 n m) ∙ ap (λ (x : ℕ). x / 2 ^ m) (sym (mul_assoc s (2 ^ n) (2 ^ m))) ∙ shl-shr (s * 2 ^ n) m
