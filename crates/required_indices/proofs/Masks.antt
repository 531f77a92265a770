-- What a set is as a mask: each operation on sets is the operation on masks that the rules are written with.
use mathlib.Core.Path.{◌≡◌, refl, sym, ◌∙◌, ap, ap₂, subst}
use mathlib.Core.Bool.{Bool, true, false, ◌||◌}
use mathlib.Core.List.{List, [], ◌∷◌, ◌++◌}
use Prim.Native.Nat.{ℕ, zero, suc, ◌+◌, ◌-◌, ◌*◌, ◌/◌, ◌%◌, ◌^◌, ◌≤◌, ◌<◌}
use native.Mathlib.Nat.{mod-lt, div-one, div-add-mod'}
use native.Mathlib.Omega.{arith}
use lib.Arith.{lt-one}
use lib.Pow.{shr-shr, high, low}
use lib.Bits.{bit_or, or_shr, or_lt, or_shifted_r}
use lib.Count.{ones, ones_in, ones_step}
use lib.Dec.{eqb}
use lib.ListN.{length, get_or, take, drop, take-append-drop}
use Rattle.cpl.specs.Lists.{z[], ◌z∷◌}
use Rattle.rules.specs.Mask.{Mask, or_m, count_m, LeB, LeM}
use Rattle.rules.specs.Mask as mask
use Rattle.required_indices.specs.Set.{odd, has, set_mask}
use Rattle.required_indices.proofs.Members.{two_pos, half_lt, has-zero, has-suc, odd_or, has_mod, all_half, all-odd}

pub mask-length : (n s : ℕ) → length (set_mask n s) ≡ n
unfolding set_mask
mask-length zero s = refl
mask-length (suc n) s = ap suc (mask-length n (s / 2))

pub mask_at : (n s i : ℕ) → i < n → get_or (set_mask n s) i false ≡ has s i
unfolding set_mask
mask_at zero s i h = absurd (omega arith)
mask_at (suc n) s zero h = sym (has-zero s)
mask_at (suc n) s (suc i) h = mask_at n (s / 2) i (omega arith) ∙ sym (has-suc s i)

-- equal membership below n, equal masks
pub mask_ext : (n a b : ℕ) → ((i : ℕ) → i < n → has a i ≡ has b i) → set_mask n a ≡ set_mask n b
unfolding set_mask
mask_ext zero a b h = refl
mask_ext (suc n) a b h =
    ap₂ ◌∷◌ (sym (has-zero a) ∙ h 0 (omega arith) ∙ has-zero b) (mask_ext n (a / 2) (b / 2) (λ i k. sym (has-suc a i) ∙ h (suc i) (omega arith) ∙ has-suc b i))

-- a union is the masks' pointwise or
pub mask_or : (n a b : ℕ) → set_mask n (bit_or a b) ≡ or_m (set_mask n a) (set_mask n b)
unfolding set_mask or_m
mask_or zero a b = refl
mask_or (suc n) a b = ap₂ ◌∷◌ (odd_or a b) (ap (set_mask n) (or_shr a b 1) ∙ mask_or n (a / 2) (b / 2))

pub length_or : (R Q : Mask) → length R ≡ length Q → length (or_m R Q) ≡ length R
unfolding or_m
length_or [] Q e = refl
length_or (x ∷ R) [] e = absurd (omega arith)
length_or (x ∷ R) (y ∷ Q) e = ap suc (length_or R Q (omega arith))

-- split at k: the first k places, and the rest
mask-take : (k n s : ℕ) → k ≤ n → take k (set_mask n s) ≡ set_mask k s
unfolding set_mask
mask-take zero n s h = refl
mask-take (suc k) zero s h = absurd (omega arith)
mask-take (suc k) (suc n) s h = ap (odd s ∷◌) (mask-take k n (s / 2) (omega arith))

pub mask_below : (k n s : ℕ) → k ≤ n → set_mask k (s % 2 ^ k) ≡ take k (set_mask n s)
mask_below k n s h = mask_ext k (s % 2 ^ k) s (λ i l. has_mod s k i l) ∙ sym (mask-take k n s h)

pub mask-rest : (k n s : ℕ) → k ≤ n → set_mask (n - k) (s / 2 ^ k) ≡ drop k (set_mask n s)
unfolding set_mask
mask-rest zero n s h = let all : n - 0 ≡ n = omega arith in ap₂ set_mask all (div-one s)
mask-rest (suc k) zero s h = absurd (omega arith)
mask-rest (suc k) (suc n) s h =
    let places : suc n - suc k ≡ n - k = omega arith in
    let next : suc k ≡ 1 + k = omega arith in
    ap₂ set_mask places (ap (λ (x : ℕ). s / 2 ^ x) next ∙ sym (shr-shr s 1 k)) ∙ mask-rest k n (s / 2) (omega arith)

-- two sets, the second above the first
pub mask_follow : (n m s t : ℕ) → s < 2 ^ n → set_mask (n + m) (bit_or s (t * 2 ^ n)) ≡ set_mask n s ++ set_mask m t
mask_follow n m s t h =
    let x : ℕ = t * 2 ^ n + s in
    let places : (n + m) - n ≡ m = omega arith in
    ap (set_mask (n + m)) (or_shifted_r t n s h) ∙ sym (take-append-drop n (set_mask (n + m) x))
    ∙ ap₂ ◌++◌ (sym (mask_below n (n + m) x (omega arith)) ∙ ap (set_mask n) (low t n h)) (sym (mask-rest n (n + m) x (omega arith)) ∙ ap₂ set_mask places (high t n h))

-- all of the fields, and none
pub mask-all : {A : Type 0} (xs : List A) → set_mask (length xs) (2 ^ length xs - 1) ≡ mask.ones xs
unfolding set_mask mask.ones
mask-all [] = refl
mask-all (x ∷ xs) = ap₂ ◌∷◌ (ap (λ (x : ℕ). eqb x 1) (all-odd (length xs))) (ap (set_mask (length xs)) (all_half (length xs)) ∙ mask-all xs)

pub mask-none : {A : Type 0} (xs : List A) → set_mask (length xs) 0 ≡ mask.zeros xs
unfolding set_mask mask.zeros
mask-none [] = refl
mask-none (x ∷ xs) = ap (false ∷◌) (mask-none xs)

-- one field more
pub mask_snoc : (n s : ℕ) → set_mask (suc n) s ≡ set_mask n s ++ (has s n ∷ [])
unfolding set_mask
mask_snoc zero s = ap (◌∷ []) (sym (has-zero s))
mask_snoc (suc n) s = ap (odd s ∷◌) (mask_snoc n (s / 2) ∙ ap (λ (b : Bool). set_mask n (s / 2) ++ (b ∷ [])) (sym (has-suc s n)))

-- the size is the count of yes
count_cons : (x : ℕ) (m : Mask) → x < 2 → count_m (eqb x 1 ∷ m) ≡ x + count_m m
unfolding count_m
count_cons zero m h = omega arith
count_cons (suc zero) m h = omega arith
count_cons (suc (suc x)) m h = absurd (omega arith)

pub mask-count : (n s : ℕ) → s < 2 ^ n → count_m (set_mask n s) ≡ ones s
unfolding set_mask count_m ones ones_in
mask-count zero s h = sym (ap ones (lt-one h))
mask-count (suc n) s h = count_cons (s % 2) (set_mask n (s / 2)) (mod-lt s two_pos) ∙ ap (λ (x : ℕ). s % 2 + x) (mask-count n (s / 2) (half_lt n h)) ∙ sym (ones_step s)

pub mask-empty : (n s : ℕ) → s < 2 ^ n → count_m (set_mask n s) ≡ 0 → s ≡ 0
unfolding set_mask
mask-empty zero s h e = lt-one h
mask-empty (suc n) s h e =
    let c : count_m (eqb (s % 2) 1 ∷ set_mask n (s / 2)) ≡ s % 2 + count_m (set_mask n (s / 2)) = count_cons (s % 2) (set_mask n (s / 2)) (mod-lt s two_pos) in
    let high : s / 2 ≡ 0 = mask-empty n (s / 2) (half_lt n h) (omega arith) in
    omega (arith, div-add-mod' s 2)

-- a mask of n places tells every set below 2 ^ n
odd-bit : (x y : ℕ) → x < 2 → y < 2 → eqb x 1 ≡ eqb y 1 → x ≡ y
odd-bit zero zero h k e = refl
odd-bit zero (suc zero) h k e = let z : ◌≡◌ {A = ℕ} 0 1 = cc in z
odd-bit (suc zero) zero h k e = let z : ◌≡◌ {A = ℕ} 1 0 = cc in z
odd-bit (suc zero) (suc zero) h k e = refl
odd-bit zero (suc (suc y)) h k e = absurd (omega arith)
odd-bit (suc zero) (suc (suc y)) h k e = absurd (omega arith)
odd-bit (suc (suc x)) y h k e = absurd (omega arith)

abbrev first : Mask → Bool
first [] = false
first (b ∷ m) = b

abbrev others : Mask → Mask
others [] = []
others (b ∷ m) = m

pub mask_inj : (n a b : ℕ) → a < 2 ^ n → b < 2 ^ n → set_mask n a ≡ set_mask n b → a ≡ b
unfolding set_mask
mask_inj zero a b h k e = lt-one h ∙ sym (lt-one k)
mask_inj (suc n) a b h k e =
    let low : a % 2 ≡ b % 2 = odd-bit (a % 2) (b % 2) (mod-lt a two_pos) (mod-lt b two_pos) (ap first e) in
    let high : a / 2 ≡ b / 2 = mask_inj n (a / 2) (b / 2) (half_lt n h) (half_lt n k) (ap others e) in
    omega (arith, div-add-mod' a 2, div-add-mod' b 2)

-- containment: the union is the larger one
le_left : (a b : Bool) → LeB a (a || b)
le_left true b = tt
le_left false b = tt

or_above : (n a b : ℕ) → LeM (set_mask n a) (or_m (set_mask n a) (set_mask n b))
unfolding set_mask or_m
or_above zero a b = z[]
or_above (suc n) a b = le_left (odd a) (odd b) z∷ or_above n (a / 2) (b / 2)

pub mask_le : (n a b : ℕ) → bit_or a b ≡ b → LeM (set_mask n a) (set_mask n b)
mask_le n a b e = subst (λ (m : Mask). LeM (set_mask n a) m) (sym (mask_or n a b) ∙ ap (set_mask n) e) (or_above n a b)

or_same : (x y : Bool) → LeB x y → (x || y) ≡ y
or_same true true h = refl
or_same true false h = absurd h
or_same false y h = refl

le_or : {rs bs : Mask} → LeM rs bs → or_m rs bs ≡ bs
unfolding or_m
le_or z[] = refl
le_or (◌z∷◌ {x = x} {y = y} h hs) = ap₂ ◌∷◌ (or_same x y h) (le_or hs)

pub le_mask : (n a b : ℕ) → a < 2 ^ n → b < 2 ^ n → LeM (set_mask n a) (set_mask n b) → bit_or a b ≡ b
le_mask n a b h k l = mask_inj n (bit_or a b) b (or_lt n a b h k) k (mask_or n a b ∙ le_or l)
