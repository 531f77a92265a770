-- The arguments of a call, as they are taken from the input. Assumes nothing.
use mathlib.Core.Path.{◌≡◌, refl, sym, ap, ap₂, ◌∙◌}
use mathlib.Core.List.{List, [], ◌∷◌, ◌++◌, map}
use Prim.Native.Nat.{ℕ, zero, suc, ◌+◌, ◌*◌, ◌<◌, ◌≤◌, min}
use native.Mathlib.Nat.{zero-min, min-zero, suc-min-suc}
use native.Mathlib.Numerals.{add-one}
use native.Mathlib.Omega.{arith}
use lib.ListN.{length-replicate, length, get_or, take, drop, set, replicate}
use lib.Seq.{length-take-le, take-nil, take-suc-set}
use Rattle.cpl.specs.Read.{little}
use Rattle.cpl.specs.Tests.{iota}
use Rattle.listing.specs.Lines.{Counts}
use Rattle.calls.specs.Calls.{count_in, most_asked, most_lent, out_in, request_in}

-- ── numbers ─────────────────────────────────────────────────────────────────────────────────

pub word-is : (input : List ℕ) (at : ℕ) {low high : ℕ} → low ≡ little 2 input at → high ≡ little 2 input (at + 2) → low + 65536 * high ≡ little 4 input at
unfolding little
word-is input at e f =
    let p : at + 1 + 1 ≡ at + 2 = omega arith in
    let a : get_or input (at + 1 + 1) 0 ≡ get_or input (at + 2) 0 = ap (λ i. get_or input i 0) p in
    let b : get_or input (at + 1 + 1 + 1) 0 ≡ get_or input (at + 2 + 1) 0 = ap (λ i. get_or input (i + 1) 0) p in
    omega (arith, e, f, a, b)

-- ── requests ────────────────────────────────────────────────────────────────────────────────

-- the index at k of a request
abbrev pub index_in : (input : List ℕ) (at k : ℕ) → ℕ
index_in input at k = little 2 input (at + 4 + 2 * k)

more : (f : ℕ → ℕ) (s k : ℕ) → map f (iota s (suc k)) ≡ map f (iota s k) ++ (f (s + k) ∷ [])
unfolding iota
more f s zero = let e : s ≡ s + 0 = omega arith in ap (λ i. f i ∷ []) e
more f s (suc k) =
    let e : suc s + k ≡ s + suc k = omega arith in
    ap (λ (zs : List ℕ). f s ∷ zs) (more f (suc s) k ∙ ap (λ i. map f (iota (suc s) k) ++ (f i ∷ [])) e)

first : (f : ℕ → ℕ) (s c n : ℕ) → take n (map f (iota s c)) ≡ map f (iota s (min c n))
unfolding iota
first f s zero n = take-nil n ∙ sym (ap (λ i. map f (iota s i)) (zero-min n))
first f s (suc c) zero = sym (ap (λ i. map f (iota s i)) (min-zero (suc c)))
first f s (suc c) (suc n) = ap (λ (zs : List ℕ). f s ∷ zs) (first f (suc s) c n) ∙ sym (ap (λ i. map f (iota s i)) (suc-min-suc c n))

module _ (input : List ℕ) (at : ℕ) where
  pub read_more : (xs : List ℕ) (k v : ℕ) → take k xs ≡ map (index_in input at) (iota 0 k) → k < length xs → v ≡ index_in input at k
      → take (k + 1) (set xs k v) ≡ map (index_in input at) (iota 0 (k + 1))
  read_more xs k v e h g =
      let z : k ≡ 0 + k = omega arith in
      ap (λ j. take j (set xs k v)) (add-one k) ∙ take-suc-set xs k v h
      ∙ ap₂ (λ (ys : List ℕ) (i : ℕ). ys ++ (i ∷ [])) e (g ∙ ap (index_in input at) z)
      ∙ sym (more (index_in input at) 0 k) ∙ ap (λ j. map (index_in input at) (iota 0 j)) (sym (add-one k))

  pub read_done : {k c count : ℕ} (xs : List ℕ) → k ≡ count → count ≡ min c most_asked → c ≡ count_in input at
      → take k xs ≡ map (index_in input at) (iota 0 k) → take count xs ≡ take most_asked (request_in input at)
  unfolding request_in
  read_done {k} {c} {count} xs e d f h =
      ap (λ j. take j xs) (sym e) ∙ h ∙ ap (λ j. map (index_in input at) (iota 0 j)) (e ∙ d ∙ ap (λ j. min j most_asked) f)
      ∙ sym (first (index_in input at) 0 (count_in input at) most_asked)

-- so many at the front of a list can be lent
pub counted : (n : ℕ) (xs : List ℕ) → n ≤ length xs → Counts n xs
counted n xs h = (h, sym (length-take-le n xs h))

-- ── outputs ─────────────────────────────────────────────────────────────────────────────────

take-zeros : (n m : ℕ) → n ≤ m → take {A = ℕ} n (replicate m 0) ≡ replicate n 0
take-zeros zero m h = refl
take-zeros (suc n) zero h = absurd (omega arith)
take-zeros (suc n) (suc m) h = ap (λ (zs : List ℕ). 0 ∷ zs) (take-zeros n m (omega arith))

-- the first bytes of 65,536 are lent as the output, the others are not
abbrev pub unlent : (room : ℕ) → List ℕ
unlent room = drop room (replicate 65536 0)

pub room-long : (room : ℕ) → room ≤ 65536 → length (take {A = ℕ} room (replicate 65536 0)) ≡ room
room-long room h = length-take-le room (replicate 65536 0) (omega (arith, length-replicate {A = ℕ} 65536 0))

pub out_is : (input : List ℕ) {at at' room : ℕ} → at ≡ at' → room ≡ min (little 4 input at) most_lent → take {A = ℕ} room (replicate 65536 0) ≡ out_in input at'
unfolding out_in
out_is input {at} {at'} {room} p e =
    take-zeros room 65536 (omega arith) ∙ ap (λ n. replicate {A = ℕ} n 0) (e ∙ ap (λ i. min (little 4 input i) most_lent) p)
