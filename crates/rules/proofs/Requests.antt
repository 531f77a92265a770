-- A request and its mask are the same thing: an accepted request is read off its mask, and every mask is that of the indices that it has.
use mathlib.Core.Path.{◌≡◌, refl, sym, ◌∙◌, ap, ap₂, subst}
use mathlib.Core.List.{List, [], ◌∷◌, ◌++◌, map}
use mathlib.Core.Bool.{Bool, true, false, ◌&&◌, ◌||◌, true≢false}
use mathlib.Core.Option.{none, some}
use Prim.Native.Nat.{ℕ, zero, suc, ◌+◌, ◌≤◌, ◌<◌}
use native.Mathlib.Omega.{arith}
use native.Mathlib.Decide.{ℕ_discrete}
use lib.Dec.{T, eqb, ltb, ltb→lt, leb, leb→le}
use lib.ListN.{length}
use borrow.Author.Tests.{ne_eqb, eq-eqb}
use Rattle.cpl.specs.Tests.{any_b, iota}
use Rattle.cpl.specs.Lists.{All, a[], ◌a∷◌, z[], ◌z∷◌, Fit}
use Rattle.cpl.specs.Read.{pick}
use Rattle.cpl.proofs.Bools.{halves, or_assoc}
use Rattle.cpl.proofs.Lists.{All_map, map_cong, map_cong_a, Fit-map, Fit_trans}
use Rattle.rules.specs.Mask.{Mask, or_m}
use Rattle.rules.proofs.Masks.{or_map}
use Rattle.rules.specs.Request.{fault_from, request_fault, mask_of, indices_from}

-- ── what is right of an accepted request ────────────────────────────────────────────────────

-- strictly increasing from `least` on, and below `width`
data Rising (width : ℕ) : (least : ℕ) → List ℕ → Type 0 where
  r[] : {least : ℕ} → Rising width least []
  ◌r∷◌ : {least i : ℕ} {is : List ℕ} → (least ≤ i) × (i < width) → Rising width (suc i) is → Rising width least (i ∷ is)

infixr 30 ◌r∷◌
rising : (position least width : ℕ) (is : List ℕ) → fault_from position least width is ≡ none → Rising width least is
unfolding fault_from
rising position least width [] e = r[]
rising position least width (i ∷ is) e = go (leb least i && ltb i width) (λ t. t) e (λ h. rising (suc position) (suc i) width is h)
  where
    go : (b : Bool) → (T b → T (leb least i && ltb i width)) → pick b (fault_from (suc position) (suc i) width is) (some position) ≡ none
        → (fault_from (suc position) (suc i) width is ≡ none → Rising width (suc i) is) → Rising width least (i ∷ is)
    go true t e f = let h = halves (leb least i) (ltb i width) (t tt) in (leb→le least i h.0, ltb→lt i width h.1) r∷ f e
    go false t e f = absurd (let z : true ≡ false = cc in true≢false z)

-- none of its indices is below `least`
absent : (k : ℕ) {width least : ℕ} {is : List ℕ} → k < least → Rising width least is → any_b (eqb k) is ≡ false
unfolding any_b
absent k l r[] = refl
absent k l (◌r∷◌ {i = i} h hs) = ap₂ ◌||◌ (ne_eqb k i (λ e. omega arith)) (absent k (omega arith) hs)

-- ── from the request to its mask and back ───────────────────────────────────────────────────

abbrev mask_from : ℕ → ℕ → List ℕ → Mask
mask_from k n is = map (λ i. any_b (eqb i) is) (iota k n)

iota_above : (k n : ℕ) → All (λ i. k ≤ i) (iota k n)
unfolding iota
iota_above k zero = a[]
iota_above k (suc n) = let h : k ≤ k = omega arith in h a∷ All_map (λ i l. omega arith) (iota_above (suc k) n)

-- a smaller index says nothing of the fields behind it
forget : (k n : ℕ) (is : List ℕ) → mask_from (suc k) n (k ∷ is) ≡ mask_from (suc k) n is
unfolding any_b
forget k n is = map_cong_a (All_map (λ i l. ap (◌|| any_b (eqb i) is) (ne_eqb i k (λ e. omega arith))) (iota_above (suc k) n))

none_left : (k n : ℕ) → indices_from k (mask_from k n []) ≡ []
unfolding indices_from iota any_b
none_left k zero = refl
none_left k (suc n) = none_left (suc k) n

back : (k n width : ℕ) (is : List ℕ) → width ≡ k + n → Rising width k is → indices_from k (mask_from k n is) ≡ is
unfolding indices_from iota any_b
back k zero width [] e r = refl
back k zero width (i ∷ is) e (h r∷ hs) = absurd (omega arith)
back k (suc n) width [] e r = none_left (suc k) n
back k (suc n) width (i ∷ is) e (h r∷ hs) = go (ℕ_discrete k i) (λ r. back (suc k) n width (i ∷ is) (omega arith) r) (λ r. back (suc k) n width is (omega arith) r)
  where
    shown : Bool → List ℕ
    shown b = indices_from k (b ∷ mask_from (suc k) n (i ∷ is))

    go : Dec (k ≡ i) → (Rising width (suc k) (i ∷ is) → indices_from (suc k) (mask_from (suc k) n (i ∷ is)) ≡ i ∷ is) → (Rising width (suc k) is → indices_from (suc k) (mask_from (suc k) n is) ≡ is)
        → shown (eqb k i || any_b (eqb k) is) ≡ i ∷ is
    go (yes d) f g =
        ap (λ b. shown (b || any_b (eqb k) is)) (eq-eqb k i d)
        ∙ (ap (k ∷◌) (ap (λ j. indices_from (suc k) (mask_from (suc k) n (j ∷ is))) (sym d) ∙ (ap (indices_from (suc k)) (forget k n is) ∙ g (subst (λ j. Rising width (suc j) is) (sym d) hs))) ∙ ap (◌∷ is) d)
    go (no d) f g = ap₂ (λ b c. shown (b || c)) (ne_eqb k i d) (absent k (omega arith) hs) ∙ f ((let l : suc k ≤ i = omega (arith, h.0, d) in l, h.1) r∷ hs)

-- the request is read off its mask
pub request_mask_lem : (width : ℕ) (is : List ℕ) → request_fault width is ≡ none → indices_from 0 (mask_of width is) ≡ is
unfolding request_fault mask_of
request_mask_lem width is e = back 0 width width is (omega arith) (rising 0 0 width is e)

-- two accepted requests with one mask are one request
pub same_request : (width : ℕ) (is js : List ℕ) → request_fault width is ≡ none → request_fault width js ≡ none → mask_of width is ≡ mask_of width js → is ≡ js
same_request width is js h k e = sym (request_mask_lem width is h) ∙ (ap (indices_from 0) e ∙ request_mask_lem width js k)

-- ── a request's mask is as long as the fields ───────────────────────────────────────────────

fit-iota : {A : Type 0} (k : ℕ) (xs : List A) → Fit (iota k (length xs)) xs
unfolding iota
fit-iota k [] = z[]
fit-iota k (x ∷ xs) = tt z∷ fit-iota (suc k) xs

pub fit-mask : {A : Type 0} (is : List ℕ) (xs : List A) → Fit (mask_of (length xs) is) xs
unfolding mask_of
fit-mask is xs = Fit_trans (Fit-map (λ i. any_b (eqb i) is) (iota 0 (length xs))) (fit-iota 0 xs)

-- ── two requests ────────────────────────────────────────────────────────────────────────────

any-both : (i : ℕ) (is js : List ℕ) → any_b (eqb i) (is ++ js) ≡ any_b (eqb i) is || any_b (eqb i) js
unfolding any_b
any-both i [] js = refl
any-both i (k ∷ is) js = ap (eqb i k ||◌) (any-both i is js) ∙ sym (or_assoc (eqb i k) (any_b (eqb i) is) (any_b (eqb i) js))

-- the mask of the indices of both is what either mask has
pub mask_++ : (width : ℕ) (is js : List ℕ) → mask_of width (is ++ js) ≡ or_m (mask_of width is) (mask_of width js)
unfolding mask_of
mask_++ width is js = map_cong (λ i. any-both i is js) (iota 0 width) ∙ sym (or_map (λ i. any_b (eqb i) is) (λ i. any_b (eqb i) js) (iota 0 width))
