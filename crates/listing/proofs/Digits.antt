-- How many decimal digits a number has. Assumes nothing.
use mathlib.Core.Path.{◌≡◌, ap, ◌∙◌}
use mathlib.Core.List.{[], ◌∷◌}
use Prim.Native.Nat.{ℕ, zero, suc, ◌+◌, ◌/◌, ◌%◌, ◌^◌, ◌<◌, ◌≤◌}
use native.Mathlib.Decide.{dec_lt}
use native.Mathlib.Nat.{pow-succ'}
use native.Mathlib.Omega.{arith}
use lib.ListN.{length, length-append}
use Rattle.plan_text.specs.Decimal.{decimal}
use Rattle.plan_text.proofs.Digits.{small, step}

pub step-length : (n : ℕ) → 10 ≤ n → length (decimal n) ≡ length (decimal (n / 10)) + 1
step-length n h = ap length (step n h) ∙ length-append (decimal (n / 10)) ((48 + n % 10) ∷ [])

few : (k n : ℕ) → n < 10 ^ suc k → length (decimal n) ≤ suc k
few zero n h = let e = ap length (small n h) in omega arith
few (suc k) n h = elim (dec_lt n 10) [
  | yes l ↦ omega (arith, ap length (small n l))
  | no l ↦ omega (arith, step-length n (omega arith), few k (n / 10) (omega (arith, pow-succ' 10 (suc k))))
]

-- a number of 64 digits of two has at most 20 of ten
pub short : (n : ℕ) → n < 2 ^ 64 → length (decimal n) ≤ 20
short n h = few 19 n (omega arith)
