-- Sets that have the same places are the same, and one that has none from n on is over n places. Assumes nothing.
use mathlib.Core.Path.{◌≡◌, sym, subst, ◌∙◌}
use mathlib.Core.Logic.{⊎_elim}
use mathlib.Core.Bool.{false}
use Prim.Native.Nat.{ℕ, zero, suc, ◌+◌, ◌%◌, ◌^◌, ◌≤◌, ◌<◌}
use native.Mathlib.Nat.{mod-lt, lt_of_lt_of_le, pow-suc}
use native.Mathlib.Omega.{arith}
use lib.Pow.{pow_mono, pow_pos}
use Rattle.required_indices.specs.Set.{has}
use Rattle.required_indices.proofs.Members.{has_mod, has-past, side}
use Rattle.required_indices.proofs.Masks.{mask_ext, mask_inj}

-- a number is below its power of two
below_power : (n : ℕ) → n < 2 ^ n
below_power zero = pow_pos 0
below_power (suc n) = omega (arith, below_power n, pow-suc 2 n)

pub same-places : (a b : ℕ) → ((i : ℕ) → has a i ≡ has b i) → a ≡ b
same-places a b h =
    mask_inj (a + b) a b
    (lt_of_lt_of_le (below_power a) (pow_mono (omega arith)))
    (lt_of_lt_of_le (below_power b) (pow_mono (omega arith)))
    (mask_ext (a + b) a b (λ i l. h i))

pub over-places : (n s : ℕ) → ((i : ℕ) → n ≤ i → has s i ≡ false) → s < 2 ^ n
over-places n s h =
    let e : s % 2 ^ n ≡ s = same-places (s % 2 ^ n) s (λ i. ⊎_elim (λ (l : n ≤ i). has-past n (mod-lt s (pow_pos n)) l ∙ sym (h i l)) (λ (l : i < n). has_mod s n i l) (side n i)) in
    subst (λ (x : ℕ). x < 2 ^ n) e (mod-lt s (pow_pos n))
