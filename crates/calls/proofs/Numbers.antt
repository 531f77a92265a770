-- Numbers in a line. Assumes nothing.
use mathlib.Core.Path.{◌≡◌, refl, sym, ap, ◌∙◌}
use mathlib.Core.List.{List, [], ◌∷◌, ◌++◌, append_assoc, append-nil}
use Prim.Native.Nat.{ℕ, suc, ◌+◌, ◌-◌, ◌<◌, ◌≤◌}
use native.Mathlib.Numerals.{add-one}
use native.Mathlib.Omega.{arith}
use lib.ListN.{length, get_or, take, drop}
use lib.Seq.{take_all, take-suc}
use Rattle.cpl.specs.Tests.{concat_map}
use Rattle.writer_parts.specs.Wrote.{Wrote}
use Rattle.writer_parts.proofs.Over.{part, so, start, then}
use Rattle.plan_text.specs.Decimal.{decimal}
use Rattle.listing.specs.Text.{newline, space}
use Rattle.listing.specs.Lines.{Puts}
use Rattle.calls.specs.Calls.{joined, numbers_text, spaced}

spaced-more : (ns : List ℕ) (n : ℕ) → spaced (ns ++ (n ∷ [])) ≡ spaced ns ++ (space ++ decimal n)
unfolding spaced concat_map
spaced-more [] n = append-nil (space ++ decimal n)
spaced-more (m ∷ ns) n = ap (λ (ys : List ℕ). (space ++ decimal m) ++ ys) (spaced-more ns n) ∙ sym (append_assoc (space ++ decimal m) (spaced ns) (space ++ decimal n))

module _ (ns : List ℕ) where
  pub others-none : {xs : List ℕ} → Wrote (spaced (take 0 ns)) xs 0 xs
  unfolding spaced concat_map
  others-none = start

  pub others-more : {x₀ x₁ x₂ x₃ : List ℕ} {k at b c : ℕ} → k < length ns → Wrote (spaced (take k ns)) x₀ at x₁ → Puts at space x₁ b x₂
      → Puts b (decimal (get_or ns k 0)) x₂ c x₃ → Wrote (spaced (take (k + 1) ns)) x₀ c x₃
  others-more {k = k} h w p q =
      so (then (then w p) q)
      (append_assoc (spaced (take k ns)) space (decimal (get_or ns k 0))
      ∙ sym (ap spaced (ap (λ j. take j ns) (add-one k) ∙ take-suc ns k 0 h) ∙ spaced-more (take k ns) (get_or ns k 0))) refl

  pub others-done : {x₀ x₁ : List ℕ} {k at : ℕ} → length ns ≤ k → Wrote (spaced (take k ns)) x₀ at x₁ → Wrote (spaced ns) x₀ at x₁
  others-done {k = k} h w = so w (ap spaced (take_all k ns h)) refl

first-and-others : (ns : List ℕ) → 0 < length ns → decimal (get_or ns 0 0) ++ spaced (take (length ns - 1) (drop 1 ns)) ≡ joined ns
unfolding joined
first-and-others [] h = absurd (omega arith)
first-and-others (n ∷ ns) h = ap (λ (ms : List ℕ). decimal n ++ spaced ms) (take_all (suc (length ns) - 1) ns (omega arith))

pub numbers-wrote : (ns : List ℕ) {x₀ x₁ x₂ ys : List ℕ} {a n r : ℕ} → 0 < length ns → Puts 0 (decimal (get_or ns 0 0)) x₀ a x₁
    → Wrote (spaced (take (length ns - 1) (drop 1 ns))) (take (length x₁ - a) (drop a x₁)) n ys
    → Puts (a + n) newline (take a x₁ ++ (ys ++ drop (length x₁ - a) (drop a x₁))) r x₂ → Wrote (numbers_text ns) x₀ r x₂
unfolding numbers_text
numbers-wrote ns h p w q = so (then (part (then start p) w) q) (ap (λ (xs : List ℕ). xs ++ newline) (first-and-others ns h)) refl
