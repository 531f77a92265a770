-- A loop that looks for the next index of a set in words: what holds at digit `at` of word k.
use mathlib.Core.Path.{◌≡◌, refl, sym, ◌∙◌, ap, ap₂, subst}
use mathlib.Core.Logic.{⊎_elim}
use mathlib.Core.Bool.{true, false}
use mathlib.Core.List.{List}
use Prim.Native.Nat.{ℕ, ◌+◌, ◌-◌, ◌*◌, ◌/◌, ◌%◌, ◌^◌, ◌≤◌, ◌<◌}
use native.Mathlib.Nat.{lt_of_lt_of_le}
use native.Mathlib.Omega.{arith}
use lib.Pow.{pow_mono, shr_lt}
use lib.Count.{count_trailing_zeros}
use lib.ListN.{length, get_or}
use Rattle.cpl.specs.Lists.{All}
use Rattle.required_indices.specs.Set.{has}
use Rattle.required_indices.specs.Words.{number, Word}
use Rattle.required_indices.proofs.Members.{side, different, has-add, has-past, has-none}
use Rattle.required_indices.proofs.Lowest.{lowest_has, lowest_before}
use Rattle.required_indices.specs.Request.{IsNext}
use Rattle.std.specs.Prelude.{Some, None}
use Rattle.required_indices.proofs.Words.{number_lt}
use Rattle.required_indices.proofs.Places.{has_at}

module _ {ws : List ℕ} (hs : All Word ws) (k at : ℕ) (l : at < 64) where
  digit : (j : ℕ) → k * 64 + at ≤ j → j < k * 64 + 64 → has (number ws) j ≡ has (get_or ws k 0 / 2 ^ at) (j - (k * 64 + at))
  digit j a b =
      let q : j / 64 ≡ k = omega arith in
      let m : j % 64 ≡ at + (j - (k * 64 + at)) = omega arith in
      has_at hs j ∙ ap₂ (λ (x y : ℕ). has (get_or ws x 0) y) q m ∙ has-add (get_or ws k 0) at (j - (k * 64 + at))

  word_none : get_or ws k 0 / 2 ^ at ≡ 0 → (j : ℕ) → k * 64 + at ≤ j → j < k * 64 + 64 → has (number ws) j ≡ false
  word_none e j a b = digit j a b ∙ ap (λ (x : ℕ). has x (j - (k * 64 + at))) e ∙ has-none (j - (k * 64 + at))

  module _ (v : ℕ) (e : v ≡ get_or ws k 0 / 2 ^ at) (p : 0 < v) (w : Word (get_or ws k 0)) where
    small : v < 2 ^ (64 - at)
    small = subst (λ (x : ℕ). x < 2 ^ (64 - at)) (sym e) (shr_lt (64 - at) at (subst (λ (x : ℕ). get_or ws k 0 < 2 ^ x) {x = 64} {y = (64 - at) + at} (omega arith) w))

    whole : v < 2 ^ 64
    whole = lt_of_lt_of_le small (pow_mono {i = 64 - at} {j = 64} (omega arith))

    place_lt : at + count_trailing_zeros 64 v < 64
    place_lt =
        ⊎_elim
        (λ (g : 64 - at ≤ count_trailing_zeros 64 v). absurd (different (sym (lowest_has 64 v p whole) ∙ has-past (64 - at) small g)))
        (λ (g : count_trailing_zeros 64 v < 64 - at). omega arith)
        (side (64 - at) (count_trailing_zeros 64 v))

    place-has : has (number ws) (k * 64 + at + count_trailing_zeros 64 v) ≡ true
    place-has =
        let z : k * 64 + at + count_trailing_zeros 64 v - (k * 64 + at) ≡ count_trailing_zeros 64 v = omega arith in
        digit (k * 64 + at + count_trailing_zeros 64 v) (omega arith) (omega (arith, place_lt)) ∙ ap₂ has (sym e) z ∙ lowest_has 64 v p whole

    place-first : (j : ℕ) → k * 64 + at ≤ j → j < k * 64 + at + count_trailing_zeros 64 v → has (number ws) j ≡ false
    place-first j a b = digit j a (omega (arith, place_lt)) ∙ ap (λ (x : ℕ). has x (j - (k * 64 + at))) (sym e) ∙ lowest_before 64 v (j - (k * 64 + at)) (omega arith)

-- no index from `from` on stands before digit `at` of word k
pub record Searched (ws : List ℕ) (from k at : ℕ) : Type 0 where
  pub inside : at < 64
  pub onward : from ≤ k * 64 + at
  pub none : (j : ℕ) → from ≤ j → j < k * 64 + at → has (number ws) j ≡ false

module _ {ws : List ℕ} (hs : All Word ws) (from k at : ℕ) (s : Searched ws from k at) where
  -- the word has nothing more
  pub search_turn : get_or ws k 0 / 2 ^ at ≡ 0 → Searched ws from (k + 1) 0
  search_turn e =
      let l : at < 64 = s.inside in
      let o : from ≤ k * 64 + at = s.onward in
      record {
        inside = omega arith;
        onward = omega arith;
        none = λ j a b. ⊎_elim (λ (g : k * 64 + at ≤ j). word_none hs k at l e j g (omega arith)) (λ (g : j < k * 64 + at). s.none j a g) (side (k * 64 + at) j);
      }

  -- the word has the next index
  pub search_found : (get_or ws k 0 / 2 ^ at ≡ 0 → ⊥) → Word (get_or ws k 0) → IsNext (number ws) from (Some (k * 64 + at + count_trailing_zeros 64 (get_or ws k 0 / 2 ^ at)))
  search_found p w =
      let l : at < 64 = s.inside in
      let o : from ≤ k * 64 + at = s.onward in
      let v : ℕ = get_or ws k 0 / 2 ^ at in
      let q : 0 < get_or ws k 0 / 2 ^ at = omega arith in (
        omega arith,
        place-has hs k at l v refl q w,
        λ j a b. ⊎_elim (λ (g : k * 64 + at ≤ j). place-first hs k at l v refl q w j g b) (λ (g : j < k * 64 + at). s.none j a g) (side (k * 64 + at) j),
      )

  -- there are no more words
  pub search_end : length ws ≤ k → IsNext (number ws) from None
  search_end m j a =
      ⊎_elim
      (λ (g : k * 64 + at ≤ j). has-past (length ws * 64) (number_lt hs) (omega arith))
      (λ (g : j < k * 64 + at). s.none j a g)
      (side (k * 64 + at) j)
