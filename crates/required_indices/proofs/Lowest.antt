-- The lowest index of a set is its number of trailing zeros.
use mathlib.Core.Path.{◌≡◌, refl, ◌∙◌, ap}
use mathlib.Core.Logic.{◌⊎◌, inl, inr, ⊎_elim}
use mathlib.Core.Bool.{true, false}
use Prim.Native.Nat.{ℕ, zero, suc, ◌/◌, ◌%◌, ◌^◌, ◌<◌}
use native.Mathlib.Nat.{mod-lt, div-add-mod'}
use native.Mathlib.Omega.{arith}
use lib.Arith.{lt-one}
use lib.Count.{count_trailing_zeros, under}
use lib.Dec.{eqb}
use Rattle.required_indices.specs.Set.{has}
use Rattle.required_indices.proofs.Members.{two_pos, half_lt, has-zero, has-suc}

under-odd : (x t : ℕ) → x < 2 → ((x ≡ 1) × (under x t ≡ 0)) ⊎ ((x ≡ 0) × (under x t ≡ suc t))
under-odd zero t h = inr (refl, refl)
under-odd (suc zero) t h = inl (refl, refl)
under-odd (suc (suc x)) t h = absurd (omega arith)

pub lowest_has : (k s : ℕ) → 0 < s → s < 2 ^ k → has s (count_trailing_zeros k s) ≡ true
unfolding count_trailing_zeros
lowest_has zero s p h = absurd (omega (arith, lt-one h))
lowest_has (suc k) s p h =
    ⊎_elim
    (λ w. ap (has s) w.1 ∙ has-zero s ∙ ap (λ (x : ℕ). eqb x 1) w.0)
    (λ w. ap (has s) w.1 ∙ has-suc s (count_trailing_zeros k (s / 2)) ∙ lowest_has k (s / 2) (omega (arith, div-add-mod' s 2)) (half_lt k h))
    (under-odd (s % 2) (count_trailing_zeros k (s / 2)) (mod-lt s two_pos))

pub lowest_before : (k s j : ℕ) → j < count_trailing_zeros k s → has s j ≡ false
unfolding count_trailing_zeros
lowest_before zero s j h = absurd (omega arith)
lowest_before (suc k) s zero h =
    ⊎_elim (λ w. absurd (omega arith)) (λ w. has-zero s ∙ ap (λ (x : ℕ). eqb x 1) w.0) (under-odd (s % 2) (count_trailing_zeros k (s / 2)) (mod-lt s two_pos))
lowest_before (suc k) s (suc j) h =
    ⊎_elim (λ w. absurd (omega arith)) (λ w. has-suc s j ∙ lowest_before k (s / 2) j (omega arith)) (under-odd (s % 2) (count_trailing_zeros k (s / 2)) (mod-lt s two_pos))
