-- A word shifted up.
use mathlib.Core.Path.{◌≡◌, ◌∙◌, ap, ap₂}
use Prim.Native.Nat.{ℕ, ◌+◌, ◌-◌, ◌*◌, ◌%◌, ◌^◌, ◌≤◌, ◌<◌}
use native.Mathlib.Nat.{mul-mod_left, mod-eq_of_lt}
use native.Mathlib.Omega.{arith}
use lib.Pow.{pow-lt, shl-shr, mod-pow-add}

-- `1 << i`
pub shifted_one : (i : ℕ) → i < 64 → (1 * 2 ^ i) % 2 ^ 64 ≡ 2 ^ i
shifted_one i h = ap (λ (x : ℕ). x % 2 ^ 64) {x = 1 * 2 ^ i} {y = 2 ^ i} (omega arith) ∙ mod-eq_of_lt (pow-lt h)

-- `w << (64 - n)`
pub shifted : (w n : ℕ) → n ≤ 64 → (w * 2 ^ (64 - n)) % 2 ^ 64 ≡ (w % 2 ^ n) * 2 ^ (64 - n)
shifted w n h =
    ap (λ (x : ℕ). (w * 2 ^ (64 - n)) % 2 ^ x) {x = 64} {y = n + (64 - n)} (omega arith) ∙ mod-pow-add (w * 2 ^ (64 - n)) n (64 - n)
    ∙ ap₂ (λ (x y : ℕ). (x % 2 ^ n) * 2 ^ (64 - n) + y) (shl-shr w (64 - n)) (mul-mod_left w (2 ^ (64 - n))) ∙ omega arith
