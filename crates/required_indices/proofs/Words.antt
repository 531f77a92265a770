-- Each operation on a set in words, proved once over the number of words.
use mathlib.Core.Path.{◌≡◌, refl, sym, ◌∙◌, ap, ap₂, subst}
use mathlib.Core.Logic.{⊎_elim}
use mathlib.Core.List.{List, [], ◌∷◌}
use Prim.Native.Nat.{ℕ, zero, suc, ◌+◌, ◌-◌, ◌*◌, ◌/◌, ◌%◌, ◌^◌, ◌≤◌, ◌<◌, min}
use native.Mathlib.Nat.{add-zero, mod-eq_of_lt, zero-div, zero-mod, mul_assoc, add-mul, add_assoc, mul-add-div_right, mul-add-mod_self_right}
use native.Mathlib.Omega.{arith}
use lib.Arith.{digits_lt}
use lib.Pow.{pow_pos, pow-lt, pow-add, shr-shr, mod-mod-pow, mod-pow-add, ones_split, high, low, split}
use lib.Bits.{bit_or, or_block, or_zero_r}
use lib.Count.{ones, ones_in, ones_cat}
use lib.ListN.{length}
use Rattle.cpl.specs.Lists.{All, a[], ◌a∷◌, Fit, z[], ◌z∷◌}
use Rattle.required_indices.specs.Set.{has}
use Rattle.required_indices.specs.Words.{number, Word}
use Rattle.required_indices.proofs.Members.{side, has-add, has_mod}

pub number_lt : {ws : List ℕ} → All Word ws → number ws < 2 ^ (length ws * 64)
unfolding number
number_lt a[] = omega arith
number_lt (◌a∷◌ {x = w} {xs = ws} h hs) =
    let e : 2 ^ (length (w ∷ ws) * 64) ≡ 2 ^ (length ws * 64) * 2 ^ 64 = ap (λ (x : ℕ). 2 ^ x) (omega arith) ∙ pow-add 2 (length ws * 64) 64 in
    subst (λ (x : ℕ). number (w ∷ ws) < x) (sym e) (digits_lt (number_lt hs) h)

-- ---- membership

pub number-has : (w : ℕ) (ws : List ℕ) (i : ℕ) → Word w → i < 64 → has (number (w ∷ ws)) i ≡ has w i
unfolding number
number-has w ws i h l = sym (has_mod (number ws * 2 ^ 64 + w) 64 i l) ∙ ap (λ (x : ℕ). has x i) (low (number ws) 64 h)

pub number-has-past : (w : ℕ) (ws : List ℕ) (i : ℕ) → Word w → has (number (w ∷ ws)) (64 + i) ≡ has (number ws) i
unfolding number
number-has-past w ws i h = has-add (number ws * 2 ^ 64 + w) 64 i ∙ ap (λ (x : ℕ). has x i) (high (number ws) 64 h)

-- ---- union

unfoldable pub or_w : List ℕ → List ℕ → List ℕ
or_w [] vs = []
or_w (w ∷ ws) [] = []
or_w (w ∷ ws) (v ∷ vs) = bit_or w v ∷ or_w ws vs

pub number_or : {ws vs : List ℕ} → Fit ws vs → All Word ws → All Word vs → number (or_w ws vs) ≡ bit_or (number ws) (number vs)
unfolding number or_w
number_or z[] a[] a[] = refl
number_or (_ z∷ f) (◌a∷◌ {x = w} {xs = ws} h hs) (◌a∷◌ {x = v} {xs = vs} k ks) =
    ap (λ (x : ℕ). x * 2 ^ 64 + bit_or w v) (number_or f hs ks) ∙ sym (or_block 64 (number ws) (number vs) w v h k)

-- one index added: in the first word, or in the others
pub number-add : (w : ℕ) (ws : List ℕ) (i : ℕ) → Word w → i < 64 → number (bit_or w (2 ^ i) ∷ ws) ≡ bit_or (number (w ∷ ws)) (2 ^ i)
unfolding number
number-add w ws i h l = ap (λ (x : ℕ). x * 2 ^ 64 + bit_or w (2 ^ i)) (sym (or_zero_r (number ws))) ∙ sym (or_block 64 (number ws) 0 w (2 ^ i) h (pow-lt l)) ∙ ap (bit_or (number ws * 2 ^ 64 + w)) (omega arith)

pub number-add-past : (w : ℕ) (ws vs : List ℕ) (i : ℕ) → Word w → number vs ≡ bit_or (number ws) (2 ^ i) → number (w ∷ vs) ≡ bit_or (number (w ∷ ws)) (2 ^ (i + 64))
unfolding number
number-add-past w ws vs i h e =
    ap₂ (λ (x y : ℕ). x * 2 ^ 64 + y) e (sym (or_zero_r w)) ∙ sym (or_block 64 (number ws) (2 ^ i) w 0 h (omega arith))
    ∙ ap (bit_or (number ws * 2 ^ 64 + w)) (add-zero (2 ^ i * 2 ^ 64) ∙ sym (pow-add 2 i 64))

-- ---- all below n

unfoldable pub all_w : ℕ → ℕ → List ℕ
all_w zero n = []
all_w (suc k) n = (2 ^ min n 64 - 1) ∷ all_w k (n - 64)

pub number-all : (k n : ℕ) → n ≤ k * 64 → number (all_w k n) ≡ 2 ^ n - 1
unfolding number all_w
number-all zero n h = let e : n ≡ 0 = omega arith in sym (ap (λ (x : ℕ). 2 ^ x - 1) e)
number-all (suc k) n h = let ih = number-all k (n - 64) (omega arith) in ⊎_elim (few ih) (many ih) (side n 64)
  where
    few : number (all_w k (n - 64)) ≡ 2 ^ (n - 64) - 1 → n ≤ 64 → number (all_w (suc k) n) ≡ 2 ^ n - 1
    few ih l =
        let a : min n 64 ≡ n = omega arith in
        let b : n - 64 ≡ 0 = omega arith in
        let c : number (all_w k (n - 64)) ≡ 0 = ih ∙ ap (λ (x : ℕ). 2 ^ x - 1) b in
        ap₂ (λ (x y : ℕ). x * 2 ^ 64 + (2 ^ y - 1)) c a ∙ omega arith

    many : number (all_w k (n - 64)) ≡ 2 ^ (n - 64) - 1 → 64 < n → number (all_w (suc k) n) ≡ 2 ^ n - 1
    many ih l =
        let a : min n 64 ≡ 64 = omega arith in
        let b : (n - 64) + 64 ≡ n = omega arith in
        ap₂ (λ (x y : ℕ). x * 2 ^ 64 + (2 ^ y - 1)) ih a ∙ sym (ones_split (n - 64) 64) ∙ ap (λ (x : ℕ). 2 ^ x - 1) b

-- ---- the size

unfoldable pub ones_w : List ℕ → ℕ
ones_w [] = 0
ones_w (w ∷ ws) = ones w + ones_w ws

pub number-ones : {ws : List ℕ} → All Word ws → ones (number ws) ≡ ones_w ws
unfolding number ones_w ones ones_in
number-ones a[] = refl
number-ones (◌a∷◌ {x = w} {xs = ws} h hs) = let e : ones (number ws * 2 ^ 64 + w) ≡ ones (number ws) + ones w = ones_cat 64 (number ws) w h in
    let f : ones (number ws) ≡ ones_w ws = number-ones hs in omega arith

-- ---- split: the indices below n

unfoldable pub below_w : ℕ → List ℕ → List ℕ
below_w n [] = []
below_w n (w ∷ ws) = w % 2 ^ min n 64 ∷ below_w (n - 64) ws

pub number-below : (n : ℕ) {ws : List ℕ} → All Word ws → number (below_w n ws) ≡ number ws % 2 ^ n
unfolding number below_w
number-below n a[] = sym (zero-mod (2 ^ n))
number-below n (◌a∷◌ {x = w} {xs = ws} h hs) = let ih = number-below (n - 64) hs in ⊎_elim (few ih) (many ih) (side n 64)
  where
    few : number (below_w (n - 64) ws) ≡ number ws % 2 ^ (n - 64) → n ≤ 64 → number (below_w n (w ∷ ws)) ≡ number (w ∷ ws) % 2 ^ n
    few ih l =
        let a : min n 64 ≡ n = omega arith in
        let b : n - 64 ≡ 0 = omega arith in
        let c : (64 - n) + n ≡ 64 = omega arith in
        let d : number (below_w (n - 64) ws) ≡ 0 = ih ∙ ap (λ (x : ℕ). number ws % 2 ^ x) b ∙ omega arith in
        ap₂ (λ (x y : ℕ). x * 2 ^ 64 + w % 2 ^ y) d a ∙ omega arith
        ∙ ap (λ (x : ℕ). x % 2 ^ n) (sym (low (number ws) 64 h))
        ∙ ap (λ (x : ℕ). (number ws * 2 ^ 64 + w) % 2 ^ x % 2 ^ n) (sym c)
        ∙ mod-mod-pow (number ws * 2 ^ 64 + w) (64 - n) n

    many : number (below_w (n - 64) ws) ≡ number ws % 2 ^ (n - 64) → 64 < n → number (below_w n (w ∷ ws)) ≡ number (w ∷ ws) % 2 ^ n
    many ih l =
        let a : min n 64 ≡ 64 = omega arith in
        let b : (n - 64) + 64 ≡ n = omega arith in
        ap₂ (λ (x y : ℕ). x * 2 ^ 64 + w % 2 ^ y) ih a
        ∙ ap₂ (λ (x y : ℕ). (x % 2 ^ (n - 64)) * 2 ^ 64 + y) (sym (high (number ws) 64 h)) (mod-eq_of_lt h ∙ sym (low (number ws) 64 h))
        ∙ sym (mod-pow-add (number ws * 2 ^ 64 + w) (n - 64) 64)
        ∙ ap (λ (x : ℕ). (number ws * 2 ^ 64 + w) % 2 ^ x) b

-- ---- split: the others less n. First whole words, then fewer than 64 (or all 64) digits, each word taking its upper ones from the next

number_tail : (w : ℕ) (ws : List ℕ) → Word w → number (w ∷ ws) / 2 ^ 64 ≡ number ws
unfolding number
number_tail w ws h = high (number ws) 64 h

-- a whole word first
pub number_tails : (n w : ℕ) (ws : List ℕ) → Word w → number (w ∷ ws) / 2 ^ (64 + n) ≡ number ws / 2 ^ n
number_tails n w ws h = sym (shr-shr (number (w ∷ ws)) 64 n) ∙ ap (λ (x : ℕ). x / 2 ^ n) (number_tail w ws h)

unfoldable pub head_or : List ℕ → ℕ
head_or [] = 0
head_or (w ∷ ws) = w

unfoldable pub down_w : ℕ → List ℕ → List ℕ
down_w n [] = []
down_w n (w ∷ ws) = ((head_or ws % 2 ^ n) * 2 ^ (64 - n) + w / 2 ^ n) ∷ down_w n ws

head_mod : (n : ℕ) (ws : List ℕ) → n ≤ 64 → number ws % 2 ^ n ≡ head_or ws % 2 ^ n
unfolding number head_or
head_mod n [] h = refl
head_mod n (w ∷ ws) h =
    let c : 64 ≡ (64 - n) + n = omega arith in
    ap (λ (x : ℕ). (number ws * x + w) % 2 ^ n) (ap (λ (x : ℕ). 2 ^ x) c ∙ pow-add 2 (64 - n) n)
    ∙ ap (λ (x : ℕ). (x + w) % 2 ^ n) (sym (mul_assoc (number ws) (2 ^ (64 - n)) (2 ^ n)))
    ∙ mul-add-mod_self_right (number ws * 2 ^ (64 - n)) (2 ^ n) w

pub number_down : (n : ℕ) (ws : List ℕ) → n ≤ 64 → number (down_w n ws) ≡ number ws / 2 ^ n
unfolding number down_w
number_down n [] h = sym (zero-div (2 ^ n))
number_down n (w ∷ ws) h =
    let N : ℕ = number ws in
    let whole : 2 ^ 64 ≡ 2 ^ (64 - n) * 2 ^ n = ap (λ (x : ℕ). 2 ^ x) {x = 64} {y = (64 - n) + n} (omega arith) ∙ pow-add 2 (64 - n) n in
    let whole' : 2 ^ 64 ≡ 2 ^ n * 2 ^ (64 - n) = ap (λ (x : ℕ). 2 ^ x) {x = 64} {y = n + (64 - n)} (omega arith) ∙ pow-add 2 n (64 - n) in
    ap₂ (λ (x y : ℕ). x * 2 ^ 64 + (y * 2 ^ (64 - n) + w / 2 ^ n)) (number_down n ws h) (sym (head_mod n ws h))
    ∙ sym (add_assoc (N / 2 ^ n * 2 ^ 64) ((N % 2 ^ n) * 2 ^ (64 - n)) (w / 2 ^ n))
    ∙ ap (λ (x : ℕ). x + w / 2 ^ n)
    (ap (λ (x : ℕ). x + (N % 2 ^ n) * 2 ^ (64 - n)) (ap (λ (x : ℕ). N / 2 ^ n * x) whole' ∙ sym (mul_assoc (N / 2 ^ n) (2 ^ n) (2 ^ (64 - n))))
    ∙ sym (add-mul (N / 2 ^ n * 2 ^ n) (N % 2 ^ n) (2 ^ (64 - n)))
    ∙ ap (λ (x : ℕ). x * 2 ^ (64 - n)) (split N n))
    ∙ sym (mul-add-div_right (pow_pos n) (N * 2 ^ (64 - n)) w)
    ∙ ap (λ (x : ℕ). (x + w) / 2 ^ n) (mul_assoc N (2 ^ (64 - n)) (2 ^ n))
    ∙ ap (λ (x : ℕ). (N * x + w) / 2 ^ n) (sym whole)
