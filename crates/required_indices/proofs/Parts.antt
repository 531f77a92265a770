-- A loop that writes, word by word, a union, all indices below n, or those of a set below n; and one that compares two sets.
use mathlib.Core.Path.{◌≡◌, refl, sym, ◌∙◌, ap, ap₂, subst}
use mathlib.Core.Logic.{⊎_elim}
use mathlib.Core.Bool.{Bool, true, false}
use mathlib.Core.List.{List, [], ◌∷◌}
use Prim.Native.Nat.{ℕ, zero, suc, ◌+◌, ◌-◌, ◌*◌, ◌%◌, ◌^◌, ◌≤◌, ◌<◌, min}
use native.Mathlib.Nat.{mod-lt, mod-le, lt_of_lt_of_le, lt_of_le_of_lt}
use native.Mathlib.Omega.{arith}
use lib.Pow.{pow_pos, pow_mono}
use lib.Bits.{bit_or, bit_and, and_mask}
use lib.Dec.{eqb}
use lib.ListN.{length, get_or, take, set}
use lib.Seq.{ext_get_or}
use Rattle.std.specs.Prelude.{MatchBool}
use Rattle.std.specs.List.{AllWithin, HoldsAt, range_with_len}
use Rattle.std.proofs.lemmas.List.FromFn.{get_or-range_with_len, length-range_with_len}
use Rattle.cpl.specs.Lists.{All, Fit, z[], ◌z∷◌}
use Rattle.required_indices.specs.Words.{number, Word}
use Rattle.required_indices.proofs.Members.{side}
use Rattle.required_indices.proofs.Words.{or_w, number_or, all_w, number-all, below_w, number-below}
use Rattle.required_indices.proofs.Loops.{Filled, fit, fill_start, fill_turn, fill_end, same_end, same_not}
use Rattle.required_indices.proofs.Pads.{fits-long, wide, wide-length, wide_get, number-wide, wide_words}

-- ---- the union

or_get : {ws vs : List ℕ} → Fit ws vs → (k : ℕ) → get_or (or_w ws vs) k 0 ≡ bit_or (get_or ws k 0) (get_or vs k 0)
unfolding or_w
or_get z[] k = refl
or_get (◌z∷◌ _ f) zero = refl
or_get (◌z∷◌ _ f) (suc k) = or_get f k

or_length : {ws vs : List ℕ} → Fit ws vs → length (or_w ws vs) ≡ length ws
unfolding or_w
or_length z[] = refl
or_length (_ z∷ f) = ap suc (or_length f)

-- over the first n words of both, which have all that are in use
module _ (n : ℕ) (ws vs cur : List ℕ) (k : ℕ) where
  both : List ℕ
  both = or_w (wide n ws) (wide n vs)

  fits : Fit (wide n ws) (wide n vs)
  fits = fit (wide n ws) (wide n vs) (wide-length n ws ∙ sym (wide-length n vs))

  both-length : length both ≡ n
  unfolding both
  both-length = or_length fits ∙ wide-length n ws

  pub or_start : n ≤ length cur → Filled (or_w (wide n ws) (wide n vs)) cur 0
  unfolding both
  or_start l = fill_start both cur (omega (arith, both-length))

  module _ (j : Filled (or_w (wide n ws) (wide n vs)) cur k) where
    pub or_turn : (w v : ℕ) → k < n → w ≡ get_or ws k 0 → v ≡ get_or vs k 0 → Filled (or_w (wide n ws) (wide n vs)) (set cur k (bit_or w v)) (k + 1)
    unfolding both
    or_turn w v l e d =
        fill_turn both cur k j (bit_or w v) (omega (arith, both-length)) (ap₂ bit_or (e ∙ sym (wide_get n ws k l)) (d ∙ sym (wide_get n vs k l)) ∙ sym (or_get fits k))

    pub or_end : n ≤ k → All Word ws → All Word vs → length ws ≤ n → length vs ≤ n → number (take n cur) ≡ bit_or (number ws) (number vs)
    unfolding both
    or_end l hs ks a b =
        ap (λ (x : ℕ). number (take x cur)) (sym both-length) ∙ ap number (fill_end both cur k j (omega (arith, both-length)))
        ∙ number_or fits (wide_words n hs) (wide_words n ks) ∙ ap₂ bit_or (number-wide n ws (fits-long n hs a)) (number-wide n vs (fits-long n ks b))

-- ---- all below n

all-length : (w n : ℕ) → length (all_w w n) ≡ w
unfolding all_w
all-length zero n = refl
all-length (suc w) n = ap suc (all-length w (n - 64))

all_get : (w n k : ℕ) → k < w → get_or (all_w w n) k 0 ≡ 2 ^ min (n - k * 64) 64 - 1
unfolding all_w
all_get zero n k h = absurd (omega arith)
all_get (suc w) n zero h = let e : n ≡ n - 0 * 64 = omega arith in ap (λ (x : ℕ). 2 ^ min x 64 - 1) e
all_get (suc w) n (suc k) h = let e : n - 64 - k * 64 ≡ n - suc k * 64 = omega arith in all_get w (n - 64) k (omega arith) ∙ ap (λ (x : ℕ). 2 ^ min x 64 - 1) e

pub all_start : (w n : ℕ) (cur : List ℕ) → w ≤ length cur → Filled (all_w w n) cur 0
all_start w n cur l = fill_start (all_w w n) cur (omega (arith, all-length w n))

module _ (w n : ℕ) (cur : List ℕ) (k : ℕ) (j : Filled (all_w w n) cur k) where
  pub all_turn : (left v : ℕ) → k < w → left ≡ n - k * 64 → v ≡ 2 ^ min left 64 - 1 → Filled (all_w w n) (set cur k v) (k + 1)
  all_turn left v l e d = fill_turn (all_w w n) cur k j v (omega (arith, all-length w n)) (d ∙ ap (λ (x : ℕ). 2 ^ min x 64 - 1) e ∙ sym (all_get w n k l))

  pub all_end : w ≤ k → n ≤ w * 64 → number (take w cur) ≡ 2 ^ n - 1
  all_end l h = ap (λ (x : ℕ). number (take x cur)) (sym (all-length w n)) ∙ ap number (fill_end (all_w w n) cur k j (omega (arith, all-length w n))) ∙ number-all w n h

-- ---- the indices of a set below n

below_length : (n : ℕ) (ws : List ℕ) → length (below_w n ws) ≡ length ws
unfolding below_w
below_length n [] = refl
below_length n (w ∷ ws) = ap suc (below_length (n - 64) ws)

below_get : (n : ℕ) (ws : List ℕ) (k : ℕ) → k < length ws → get_or (below_w n ws) k 0 ≡ get_or ws k 0 % 2 ^ min (n - k * 64) 64
unfolding below_w
below_get n [] k h = absurd (omega arith)
below_get n (w ∷ ws) zero h = let e : n ≡ n - 0 * 64 = omega arith in ap (λ (x : ℕ). w % 2 ^ min x 64) e
below_get n (w ∷ ws) (suc k) h =
    let e : n - 64 - k * 64 ≡ n - suc k * 64 = omega arith in below_get (n - 64) ws k (omega arith) ∙ ap (λ (x : ℕ). get_or ws k 0 % 2 ^ min x 64) e

-- c words of them
unfoldable pub part_w : ℕ → ℕ → List ℕ → List ℕ
part_w c n ws = wide c (below_w n ws)

part_length : (c n : ℕ) (ws : List ℕ) → length (part_w c n ws) ≡ c
unfolding part_w
part_length c n ws = wide-length c (below_w n ws)

pub below_start : (c n : ℕ) (ws cur : List ℕ) → c ≤ length cur → Filled (part_w c n ws) cur 0
below_start c n ws cur l = fill_start (part_w c n ws) cur (omega (arith, part_length c n ws))

module _ (c n : ℕ) (ws cur : List ℕ) (k : ℕ) (j : Filled (part_w c n ws) cur k) where
  pub below_turn : (left w m : ℕ) → k < c → c ≤ length ws → left ≡ n - k * 64 → w ≡ get_or ws k 0 → m ≡ 2 ^ min left 64 - 1 → Filled (part_w c n ws) (set cur k (bit_and w m)) (k + 1)
  unfolding part_w
  below_turn left w m l h e g d =
      fill_turn (part_w c n ws) cur k j (bit_and w m) (omega (arith, part_length c n ws))
      (ap₂ bit_and g (d ∙ ap (λ (x : ℕ). 2 ^ min x 64 - 1) e) ∙ and_mask (get_or ws k 0) (min (n - k * 64) 64) ∙ sym (wide_get c (below_w n ws) k l ∙ below_get n ws k (omega arith)))

  -- the c words have all that are in use, or all indices below n
  pub below_end : c ≤ k → (c * 64 < n → length ws ≤ c) → All Word ws → number (take c cur) ≡ number ws % 2 ^ n
  unfolding part_w
  below_end l m hs =
      let small : number ws % 2 ^ n < 2 ^ (c * 64) =
      ⊎_elim
      (λ (g : n ≤ c * 64). lt_of_lt_of_le (mod-lt (number ws) (pow_pos n)) (pow_mono {i = n} {j = c * 64} g))
      (λ (g : c * 64 < n). lt_of_le_of_lt (mod-le (number ws) (2 ^ n)) (fits-long c hs (m g)))
      (side n (c * 64)) in
      ap (λ (x : ℕ). number (take x cur)) (sym (part_length c n ws)) ∙ ap number (fill_end (part_w c n ws) cur k j (omega (arith, part_length c n ws)))
      ∙ number-wide c (below_w n ws) (subst (λ (x : ℕ). x < 2 ^ (c * 64)) (sym (number-below n hs)) small) ∙ number-below n hs

-- ---- two sets compared over their first n words, which have all that are in use

module _ (n : ℕ) (ws vs : List ℕ) (hs : All Word ws) (ks : All Word vs) (a : length ws ≤ n) (b : length vs ≤ n) where
  same_numbers : eqb (number (wide n ws)) (number (wide n vs)) ≡ eqb (number ws) (number vs)
  same_numbers = ap₂ eqb (number-wide n ws (fits-long n hs a)) (number-wide n vs (fits-long n ks b))

  same-long : length (wide n ws) ≡ length (wide n vs)
  same-long = wide-length n ws ∙ sym (wide-length n vs)

  all-equal : ((k : ℕ) → k < n → get_or ws k 0 ≡ get_or vs k 0) → true ≡ eqb (number ws) (number vs)
  all-equal h =
      same_end (wide n ws) (wide n vs)
      (ext_get_or 0 (wide n ws) (wide n vs) same-long (λ k l. let g : k < n = omega (arith, wide-length n ws) in wide_get n ws k g ∙ h k g ∙ sym (wide_get n vs k g)))
      ∙ same_numbers

  one-unequal : (k : ℕ) → k < n → (get_or ws k 0 ≡ get_or vs k 0 → ⊥) → false ≡ eqb (number ws) (number vs)
  one-unequal k l f =
      same_not (wide n ws) (wide n vs) k same-long (wide_words n hs) (wide_words n ks) (λ z. f (sym (wide_get n ws k l) ∙ z ∙ wide_get n vs k l)) ∙ same_numbers

  pub equal_all : (r : Bool)
      → MatchBool r (AllWithin (λ k. get_or ws k 0 ≡ get_or vs k 0) (range_with_len 0 n) 0 (length (range_with_len 0 n)))
      ((k : ℕ) × (k < length (range_with_len 0 n)) × HoldsAt (λ k. get_or ws k 0 ≡ get_or vs k 0 → ⊥) (range_with_len 0 n) k)
      → r ≡ eqb (number ws) (number vs)
  equal_all true h = all-equal (λ k l. subst (λ (x : ℕ). get_or ws x 0 ≡ get_or vs x 0) (get_or-range_with_len 0 n k 0 l ∙ omega arith) (h k 0 (omega arith) (omega (arith, length-range_with_len 0 n))))
  equal_all false h =
      let l : h.0 < n = omega (arith, length-range_with_len 0 n, h.1) in
      one-unequal h.0 l (subst (λ (x : ℕ). get_or ws x 0 ≡ get_or vs x 0 → ⊥) (get_or-range_with_len 0 n h.0 0 l ∙ omega arith) (h.2 0))
