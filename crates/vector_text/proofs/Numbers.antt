-- Numbers, digit by digit. Assumes nothing.
use mathlib.Core.Path.{◌≡◌, refl, sym, ap, ◌∙◌}
use mathlib.Core.Bool.{Bool, true, false, cond}
use mathlib.Core.List.{List, [], ◌∷◌}
use Rattle.std.specs.Prelude.{Some, None}
use Prim.Native.Nat.{ℕ, ◌+◌, ◌*◌, ◌<◌, ◌≤◌}
use native.Mathlib.Numerals.{add-one}
use native.Mathlib.Omega.{arith}
use borrow.Author.Tests.{le-ltb, lt-ltb}
use lib.Dec.{ltb}
use lib.ListN.{drop, drop_of_length-le, get_or, length}
use lib.Seq.{drop-cons}
use Rattle.vector_text.specs.Text.{below, decimal, digit_of, number_of, short_of}

-- ── numbers ─────────────────────────────────────────────────────────────────────────────────

-- what is not below the limit does not come below it by more digits
pub too_large : (v : ℕ) (xs : List ℕ) → 1000000000 ≤ v → None ≡ below 1000000000 (decimal v xs)
unfolding below decimal
too_large v [] h = rw (le-ltb v 1000000000 h)
too_large v (x ∷ xs) h = go (ltb (digit_of x) 10) (too_large (v * 10 + digit_of x) xs (omega arith))
  where
    go : (t : Bool) → None ≡ below 1000000000 (decimal (v * 10 + digit_of x) xs) → None ≡ below 1000000000 (cond t (decimal (v * 10 + digit_of x) xs) None)
    go true p = p
    go false p = refl

-- the digits up to i make the value
pub record Counted (text : List ℕ) (value i : ℕ) : Type 0 where
  pub most : i ≤ length text
  pub small : value < 1000000000
  pub same : below 1000000000 (decimal value (drop i text)) ≡ number_of text

module _ (text : List ℕ) where
  pub number-empty : length text ≡ 0 → None ≡ number_of text
  unfolding number_of
  number-empty h = sym (ap number_of (drop_of_length-le text {i = 0} (omega arith)))

  pub counted_none : (length text ≡ 0 → ⊥) → Counted text 0 0
  unfolding number_of
  counted_none h = record { most = omega arith; small = omega arith; same = go text h }
    where
      go : (xs : List ℕ) → (length xs ≡ 0 → ⊥) → below 1000000000 (decimal 0 xs) ≡ number_of xs
      go [] n = absurd (n refl)
      go (x ∷ xs) n = refl

  module _ (value i d : ℕ) (p : Counted text value i) (h : i < length text) (e : d ≡ digit_of (get_or text i 0)) where
    at_next : below 1000000000 (cond (ltb d 10) (decimal (value * 10 + d) (drop (i + 1) text)) None) ≡ number_of text
    unfolding decimal
    at_next = rw (e, add-one i) (rw (drop-cons text i 0 h) at p.same)

    pub not_digit : 9 < d → None ≡ number_of text
    unfolding below
    not_digit m = ap (λ t. below 1000000000 (cond t (decimal (value * 10 + d) (drop (i + 1) text)) None)) (sym (le-ltb d 10 m)) ∙ at_next

    next : d ≤ 9 → below 1000000000 (decimal (value * 10 + d) (drop (i + 1) text)) ≡ number_of text
    next m = ap (λ t. below 1000000000 (cond t (decimal (value * 10 + d) (drop (i + 1) text)) None)) (sym (lt-ltb d 10 (omega arith))) ∙ at_next

    pub over : d ≤ 9 → 99999999 < value → None ≡ number_of text
    over m n = too_large (value * 10 + d) (drop (i + 1) text) (omega arith) ∙ next m

    pub counted-more : d ≤ 9 → value ≤ 99999999 → Counted text (value * 10 + d) (i + 1)
    counted-more m n = record { most = omega arith; small = omega arith; same = next m }

  pub counted-all : (value i : ℕ) → Counted text value i → length text ≤ i → Some value ≡ number_of text
  unfolding below decimal
  counted-all value i p h =
      ap (λ t. cond t (Some value) None) (sym (lt-ltb value 1000000000 p.small))
      ∙ ap (λ xs. below 1000000000 (decimal value xs)) (sym (drop_of_length-le text h)) ∙ p.same

-- a number below 65,536
module _ (xs : List ℕ) where
  pub short_none : None ≡ number_of xs → None ≡ short_of xs
  unfolding below
  short_none e = ap (below 65536) e

  pub short_is : (n : ℕ) → Some n ≡ number_of xs → n < 65536 → Some n ≡ short_of xs
  unfolding below
  short_is n e h = ap (λ t. cond t (Some n) None) (sym (lt-ltb n 65536 h)) ∙ ap (below 65536) e

  pub short_large : (n : ℕ) → Some n ≡ number_of xs → 65536 ≤ n → None ≡ short_of xs
  unfolding below
  short_large n e h = ap (λ t. cond t (Some n) None) (sym (le-ltb n 65536 h)) ∙ ap (below 65536) e
