-- Which indices a set has: one that is a union, a part, all below n, or a single index. For numbers of any size.
use mathlib.Core.Path.{◌≡◌, refl, sym, ◌∙◌, ap, subst}
use mathlib.Core.Logic.{◌⊎◌, inl, inr}
use mathlib.Core.Bool.{Bool, true, false, ◌||◌}
use Prim.Native.Nat.{ℕ, zero, suc, ◌+◌, ◌-◌, ◌/◌, ◌%◌, ◌^◌, ◌≤◌, ◌<◌, max}
use native.Mathlib.Nat.{mod-lt, div-one, div-eq_of_lt, lt_of_lt_of_le, mul-div_cancel, mul-mod_left, pow-suc, div-lt_iff_lt-mul}
use native.Mathlib.Omega.{arith}
use lib.Arith.{digits_div, digits_mod}
use lib.Pow.{pow_mono, shr-shr, field, mod-mod-pow, ones_split}
use lib.Bits.{bit_or, or_step, or_shr}
use lib.Dec.{eqb, leb, eqb-zero-suc, eqb-suc-zero, eqb-suc-suc}
use borrow.Author.Tests.{leb-true, leb-false}
use Rattle.required_indices.specs.Set.{odd, has}

-- two numbers compared
pub side : (a b : ℕ) → (a ≤ b) ⊎ (b < a)
side a b = by (leb a b) refl
  where
    by : (t : Bool) → leb a b ≡ t → (a ≤ b) ⊎ (b < a)
    by true e = inl (leb-true a b e)
    by false e = inr (leb-false a b e)

-- yes is not no
pub different : true ≡ false → ⊥
different z = let y : ◌≡◌ {A = ℕ} 0 1 = cc in omega arith

-- half of a number
pub two_pos : 0 < 2
two_pos = omega arith

pub half_lt : {s : ℕ} (n : ℕ) → s < 2 ^ suc n → s / 2 < 2 ^ n
half_lt {s} n h = (div-lt_iff_lt-mul two_pos).1 (subst (λ (x : ℕ). s < x) (pow-suc 2 n) h)

-- the lowest digit, and those above k
pub has-zero : (s : ℕ) → has s 0 ≡ odd s
unfolding has
has-zero s = ap odd (div-one s)

pub has-add : (s k i : ℕ) → has s (k + i) ≡ has (s / 2 ^ k) i
unfolding has
has-add s k i = ap odd (sym (shr-shr s k i))

pub has-suc : (s i : ℕ) → has s (suc i) ≡ has (s / 2) i
has-suc s i = ap (has s) (omega arith) ∙ has-add s 1 i

-- a number below 2 ^ n has no index from n on
pub has-past : (n : ℕ) {s i : ℕ} → s < 2 ^ n → n ≤ i → has s i ≡ false
unfolding has
has-past n {s} {i} h k = ap odd (div-eq_of_lt (lt_of_lt_of_le h (pow_mono k)))

pub has-none : (i : ℕ) → has 0 i ≡ false
has-none i = has-past 0 (omega arith) (omega arith)

bit-max : (x y : ℕ) → x < 2 → y < 2 → eqb (max x y) 1 ≡ (eqb x 1 || eqb y 1)
bit-max zero zero h k = refl
bit-max zero (suc zero) h k = refl
bit-max (suc zero) zero h k = refl
bit-max (suc zero) (suc zero) h k = refl
bit-max zero (suc (suc y)) h k = absurd (omega arith)
bit-max (suc zero) (suc (suc y)) h k = absurd (omega arith)
bit-max (suc (suc x)) y h k = absurd (omega arith)

pub odd_or : (a b : ℕ) → odd (bit_or a b) ≡ (odd a || odd b)
odd_or a b =
    ap (λ (x : ℕ). eqb x 1) (ap (λ (x : ℕ). x % 2) (or_step a b) ∙ digits_mod (bit_or (a / 2) (b / 2)) {m = 2} {r = max (a % 2) (b % 2)} (omega (arith, mod-lt a two_pos, mod-lt b two_pos)))
    ∙ bit-max (a % 2) (b % 2) (mod-lt a two_pos) (mod-lt b two_pos)

pub has_or : (a b i : ℕ) → has (bit_or a b) i ≡ (has a i || has b i)
unfolding has
has_or a b i = ap odd (or_shr a b i) ∙ odd_or (a / 2 ^ i) (b / 2 ^ i)

-- below n
pub has_mod : (s n i : ℕ) → i < n → has (s % 2 ^ n) i ≡ has s i
unfolding has
has_mod s n i h =
    ap (λ (x : ℕ). odd (s % 2 ^ x / 2 ^ i)) (omega arith) ∙ ap odd (field s ((n - i - 1) + 1) i) ∙ ap (λ (x : ℕ). eqb x 1) (mod-mod-pow (s / 2 ^ i) (n - i - 1) 1)

-- all below n
pub all_half : (n : ℕ) → (2 ^ suc n - 1) / 2 ≡ 2 ^ n - 1
all_half n = ap (λ (x : ℕ). (2 ^ x - 1) / 2) (omega arith) ∙ ap (λ (x : ℕ). x / 2) (ones_split n 1) ∙ digits_div (2 ^ n - 1) {m = 2} {r = 1} (omega arith)

pub all-odd : (n : ℕ) → (2 ^ suc n - 1) % 2 ≡ 1
all-odd n = ap (λ (x : ℕ). (2 ^ x - 1) % 2) (omega arith) ∙ ap (λ (x : ℕ). x % 2) (ones_split n 1) ∙ digits_mod (2 ^ n - 1) {m = 2} {r = 1} (omega arith)

pub has_single : (i j : ℕ) → has (2 ^ i) j ≡ eqb i j
has_single zero zero = has-zero 1
has_single zero (suc j) = has-suc 1 j ∙ has-none j ∙ sym (eqb-zero-suc j)
has_single (suc i) zero = has-zero (2 ^ suc i) ∙ ap (λ (x : ℕ). eqb (x % 2) 1) (pow-suc 2 i) ∙ ap (λ (x : ℕ). eqb x 1) (mul-mod_left (2 ^ i) 2) ∙ sym (eqb-suc-zero i)
has_single (suc i) (suc j) =
    has-suc (2 ^ suc i) j ∙ ap (λ (x : ℕ). has (x / 2) j) (pow-suc 2 i) ∙ ap (λ (x : ℕ). has x j) (mul-div_cancel (2 ^ i) two_pos) ∙ has_single i j ∙ sym (eqb-suc-suc i j)
