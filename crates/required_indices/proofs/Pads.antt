-- Words of 0 behind a list of words change nothing, so that a set can be taken at any number of words that holds it.
use mathlib.Core.Path.{◌≡◌, refl, sym, ◌∙◌, ap, subst}
use mathlib.Core.Logic.{⊎_elim}
use mathlib.Core.List.{List, [], ◌∷◌, ◌++◌}
use Prim.Native.Nat.{ℕ, zero, suc, ◌+◌, ◌*◌, ◌^◌, ◌≤◌, ◌<◌, min}
use native.Mathlib.Nat.{lt_of_lt_of_le}
use native.Mathlib.Omega.{arith}
use lib.Arith.{lt-one}
use lib.Pow.{pow-add, pow_mono}
use lib.ListN.{length, get_or, take, replicate, length-append, length-take, length-replicate}
use lib.Seq.{get_or-take, take_all, take-suc}
use Rattle.cpl.specs.Lists.{All, a[], ◌a∷◌}
use Rattle.required_indices.specs.Words.{number, Word}
use Rattle.required_indices.proofs.Members.{side}
use Rattle.required_indices.proofs.Words.{number_lt}

number-zeros : (q : ℕ) → number (replicate q 0) ≡ 0
unfolding number
number-zeros zero = refl
number-zeros (suc q) = let ih = number-zeros q in omega (arith, ih)

pub number_pad : (ws : List ℕ) (q : ℕ) → number (ws ++ replicate q 0) ≡ number ws
unfolding number
number_pad [] q = number-zeros q
number_pad (w ∷ ws) q = ap (λ (x : ℕ). x * 2 ^ 64 + w) (number_pad ws q)

get_zeros : (q k : ℕ) → get_or {A = ℕ} (replicate q 0) k 0 ≡ 0
get_zeros zero k = refl
get_zeros (suc q) zero = refl
get_zeros (suc q) (suc k) = get_zeros q k

get_pad : (ws : List ℕ) (q k : ℕ) → get_or (ws ++ replicate q 0) k 0 ≡ get_or ws k 0
get_pad [] q k = get_zeros q k
get_pad (w ∷ ws) q zero = refl
get_pad (w ∷ ws) q (suc k) = get_pad ws q k

-- the first words hold a set that fits into them
number-take : (c : ℕ) (ws : List ℕ) → number ws < 2 ^ (c * 64) → number (take c ws) ≡ number ws
unfolding number
number-take zero ws l = sym (lt-one l)
number-take (suc c) [] l = refl
number-take (suc c) (w ∷ ws) l =
    let e : 2 ^ (suc c * 64) ≡ 2 ^ (c * 64) * 2 ^ 64 = ap (λ (x : ℕ). 2 ^ x) {x = suc c * 64} {y = c * 64 + 64} (omega arith) ∙ pow-add 2 (c * 64) 64 in
    ap (λ (x : ℕ). x * 2 ^ 64 + w) (number-take c ws (omega arith))

pub fits-long : (c : ℕ) {ws : List ℕ} → All Word ws → length ws ≤ c → number ws < 2 ^ (c * 64)
fits-long c {ws} hs l = lt_of_lt_of_le (number_lt hs) (pow_mono {i = length ws * 64} {j = c * 64} (omega arith))

-- ---- the first c words, with words of 0 where there are fewer

unfoldable pub wide : ℕ → List ℕ → List ℕ
wide c ws = take c (ws ++ replicate c 0)

pub wide-length : (c : ℕ) (ws : List ℕ) → length (wide c ws) ≡ c
unfolding wide
wide-length c ws = simp (length-take, length-append, length-replicate {A = ℕ}) (omega arith)

pub wide_get : (c : ℕ) (ws : List ℕ) (k : ℕ) → k < c → get_or (wide c ws) k 0 ≡ get_or ws k 0
unfolding wide
wide_get c ws k l = get_or-take c (ws ++ replicate c 0) k 0 l ∙ get_pad ws c k

pub number-wide : (c : ℕ) (ws : List ℕ) → number ws < 2 ^ (c * 64) → number (wide c ws) ≡ number ws
unfolding wide
number-wide c ws fits = number-take c (ws ++ replicate c 0) (subst (λ (x : ℕ). x < 2 ^ (c * 64)) (sym (number_pad ws c)) fits) ∙ number_pad ws c

pub words_pad : {ws : List ℕ} (q : ℕ) → All Word ws → All Word (ws ++ replicate q 0)
words_pad zero a[] = a[]
words_pad (suc q) a[] = ◌a∷◌ {x = 0} (omega arith) (words_pad q a[])
words_pad q (h a∷ hs) = h a∷ words_pad q hs

pub words_take : (c : ℕ) {ws : List ℕ} → All Word ws → All Word (take c ws)
words_take zero hs = a[]
words_take (suc c) a[] = a[]
words_take (suc c) (h a∷ hs) = h a∷ words_take c hs

pub wide_words : (c : ℕ) {ws : List ℕ} → All Word ws → All Word (wide c ws)
unfolding wide
wide_words c hs = words_take c (words_pad c hs)

-- ---- the words in use

-- no more are in use than there are
pub in_use : (u n : ℕ) (ws : List ℕ) → n ≡ min u (length ws) → take u ws ≡ take n ws
in_use u n ws e =
    ⊎_elim
    (λ (l : length ws ≤ u). take_all u ws l ∙ sym (take_all n ws (omega arith)))
    (λ (l : u < length ws). let d : u ≡ n = omega arith in ap (λ (x : ℕ). take x ws) d)
    (side (length ws) u)

-- the last word is 0
pub trim : (n k : ℕ) (ws : List ℕ) → n ≡ suc k → get_or ws k 0 ≡ 0 → number (take k ws) ≡ number (take n ws)
trim n k ws e z =
    ⊎_elim
    (λ (l : length ws ≤ k). ap number (take_all k ws l ∙ sym (take_all n ws (omega arith))))
    (λ (l : k < length ws).
    sym (ap number (ap (λ (x : ℕ). take x ws) e ∙ take-suc ws k 0 l ∙ ap (λ (x : ℕ). take k ws ++ (x ∷ [])) z) ∙ number_pad (take k ws) 1))
    (side (length ws) k)
