-- Masks that cover expressions: they keep each field that a reference of the expressions finds. What is asked of an input covers what its node uses.
use mathlib.Core.Path.{◌≡◌, refl, sym, ◌∙◌, ap, subst, subst⁻¹}
use mathlib.Core.Logic.{◌⊎◌, inl, inr}
use mathlib.Core.List.{List, [], ◌∷◌, ◌++◌, map}
use mathlib.Core.Bool.{Bool, true, false, ◌||◌}
use mathlib.Core.Option.{Option, none, some}
use Prim.Native.Nat.{ℕ, zero, suc, ◌+◌, ◌<◌, ◌≤◌}
use native.Mathlib.Omega.{arith}
use native.Mathlib.Nat.{eq-or-lt_of_le}
use lib.Dec.{T, eqb, eqb→eq, eqb_refl}
use lib.ListN.{length, get_or}
use Rattle.cpl.specs.Tests.{any_b, concat_map, iota}
use Rattle.cpl.specs.Lists.{All, a[], ◌a∷◌, z[], ◌z∷◌, Fit}
use Rattle.cpl.specs.Plan.{Pair, Expr, col, lit, miss, un, bin}
use Rattle.cpl.specs.Exprs.{fits, next, find, found, places, references}
use Rattle.cpl.proofs.Bools.{left-T, right-T}
use Rattle.cpl.proofs.Lists.{each_number, All_left, All_right, All_map, All_both, All_++, Fit_++}
use Rattle.cpl.proofs.Lookup.{find-here, find_past, found_below}
use Rattle.rules.specs.Mask.{Mask, LeB, LeM}
use Rattle.rules.specs.Request.{mask_of, indices_from}
use Rattle.rules.specs.Rules.{used}
use Rattle.rules.proofs.Masks.{LeM_fit}
use Rattle.rules.proofs.Requests.{fit-mask}

-- ── what is covered ─────────────────────────────────────────────────────────────────────────

-- the mask keeps the first field that fits the reference, if one does
pub data KeepsFirst (c : Pair) : List Pair → Mask → Type 0 where
  h[] : KeepsFirst c [] []
  here : {f : Pair} {fs : List Pair} {ks : Mask} → fits c f ≡ true → Fit ks fs → KeepsFirst c (f ∷ fs) (true ∷ ks)
  past : {f : Pair} {k : Bool} {fs : List Pair} {ks : Mask} → fits c f ≡ false → KeepsFirst c fs ks → KeepsFirst c (f ∷ fs) (k ∷ ks)

-- the field of each reference of the expression
abbrev pub Covers : Expr → List Pair → Mask → Type 0
Covers e fs K = All (λ c. KeepsFirst c fs K) (references e)

abbrev pub Cov : List Expr → List Pair → Mask → Type 0
Cov es fs K = All (λ e. Covers e fs K) es

module _ {fs : List Pair} {K : Mask} where
  pub used-left : (es ds : List Expr) → Cov (es ++ ds) fs K → Cov es fs K
  used-left es ds v = All_left es ds v

  pub used-right : (es ds : List Expr) → Cov (es ++ ds) fs K → Cov ds fs K
  used-right es ds v = All_right es ds v

  pub used-head : (e : Expr) (es : List Expr) → Cov (e ∷ es) fs K → Covers e fs K
  used-head e es (h a∷ hs) = h

  pub used_tail : (e : Expr) (es : List Expr) → Cov (e ∷ es) fs K → Cov es fs K
  used_tail e es (h a∷ hs) = hs

-- ── over two sides ──────────────────────────────────────────────────────────────────────────

holds-fit : {c : Pair} {fs : List Pair} {K : Mask} → KeepsFirst c fs K → Fit K fs
holds-fit h[] = z[]
holds-fit (here e f) = tt z∷ f
holds-fit (past e h) = tt z∷ holds-fit h

-- the first that fits on each side is kept, so the first of both sides together is
holds-both : {c : Pair} {fl fr : List Pair} {Kl Kr : Mask} → KeepsFirst c fl Kl → KeepsFirst c fr Kr → KeepsFirst c (fl ++ fr) (Kl ++ Kr)
holds-both h[] r = r
holds-both (here e f) r = here e (Fit_++ f (holds-fit r))
holds-both (past e h) r = past e (holds-both h r)

pub cov_both : {es : List Expr} {fl fr : List Pair} {Kl Kr : Mask} → Cov es fl Kl → Cov es fr Kr → Cov es (fl ++ fr) (Kl ++ Kr)
cov_both h k = All_map (λ e v. All_map (λ c w. holds-both w.0 w.1) (All_both v.0 v.1)) (All_both h k)

-- ── what is asked covers what is used ───────────────────────────────────────────────────────

-- the mask has that index
Has : Mask → ℕ → Type 0
Has K i = T (get_or K i false)

-- a mask that contains a request has its indices
in_mask : (P : ℕ → Bool) (k n : ℕ) {K : Mask} → LeM (map P (iota k n)) K → (i : ℕ) → i < n → T (P (k + i)) → Has K i
unfolding iota Has
in_mask P k zero l i h t = absurd (omega arith)
in_mask P k (suc n) (◌z∷◌ {x = b} {y = c} l ls) zero h t = go (P k) c l (let e : k + 0 ≡ k = omega arith in rw e at t)
  where
    go : (b c : Bool) → LeB b c → T b → T c
    go true c l t = l
    go false c l t = absurd t
in_mask P k (suc n) (◌z∷◌ {ys = ks} l ls) (suc i) h t = in_mask P (suc k) n ls i (omega arith) (let e : k + suc i ≡ suc k + i = omega arith in rw e at t)

-- of each of these places, if it is one of the fields, the mask has the index
abbrev Placed : List Pair → Mask → List ℕ → Type 0
Placed fs K is = All (λ i. i < length fs → Has K i) is

placed : (fs : List Pair) (is : List ℕ) {K : Mask} → LeM (mask_of (length fs) is) K → Placed fs K is
unfolding mask_of
placed fs is l = each_number _ is (λ i t h. in_mask (λ i. any_b (eqb i) is) 0 (length fs) l i h (let e : 0 + i ≡ i = omega arith in rw e t))

next_place : {o : Option ℕ} {i : ℕ} → o ≡ some i → next o ≡ some (suc i)
unfolding next
next_place e = ap next e

holds : (c : Pair) {fs : List Pair} {K : Mask} → Fit K fs → ((i : ℕ) → find c fs ≡ some i → i < length fs → Has K i) → KeepsFirst c fs K
unfolding Has
holds c z[] h = h[]
holds c (◌z∷◌ {x = k} {y = f} {xs = K} {ys = fs} _ fit) h = go (fits c f) refl k (h 0) (λ e. holds c fit (λ i p l. h (suc i) (find_past c f fs e ∙ next_place p) (omega arith)))
  where
    go : (b : Bool) → fits c f ≡ b → (k : Bool) → (find c (f ∷ fs) ≡ some 0 → 0 < suc (length fs) → T k) → (fits c f ≡ false → KeepsFirst c fs K) → KeepsFirst c (f ∷ fs) (k ∷ K)
    go true e true g r = here e fit
    go true e false g r = absurd (g (find-here c f fs e) (omega arith))
    go false e k g r = past e (r e)

module _ {fs : List Pair} {K : Mask} (fit : Fit K fs) where
  covers_placed : (e : Expr) → Placed fs K (places fs e) → Covers e fs K
  unfolding places found references
  covers_placed (col c) h = holds c fit (λ i p l. at_one i (subst (λ o. Placed fs K (found o)) p h) l) a∷ a[]
    where
      at_one : (i : ℕ) → Placed fs K (i ∷ []) → i < length fs → Has K i
      at_one i (g a∷ gs) l = g l
  covers_placed (lit z) h = a[]
  covers_placed miss h = a[]
  covers_placed (un o a) h = covers_placed a h
  covers_placed (bin o a b) h = All_++ (covers_placed a (All_left (places fs a) (places fs b) h)) (covers_placed b (All_right (places fs a) (places fs b) h))

  cov_placed : (es : List Expr) → Placed fs K (concat_map (places fs) es) → Cov es fs K
  unfolding concat_map
  cov_placed [] h = a[]
  cov_placed (e ∷ es) h = covers_placed e (All_left (places fs e) (concat_map (places fs) es) h) a∷ cov_placed es (All_right (places fs e) (concat_map (places fs) es) h)

pub used_cov : (es : List Expr) (fs : List Pair) {K : Mask} → LeM (used es fs) K → Cov es fs K
unfolding used
used_cov es fs l = cov_placed (LeM_fit l (fit-mask (concat_map (places fs) es) fs)) es (placed fs (concat_map (places fs) es) l)

-- ── the indices of the fields that are used are the places that are found ───────────────────

module _ (P : ℕ → Bool) (i : ℕ) where
  from-index : (k n : ℕ) → T (any_b (eqb i) (indices_from k (map P (iota k n)))) → T (P i)
  unfolding iota indices_from any_b
  from-index k zero t = absurd t
  from-index k (suc n) t = go (P k) (λ u. u) (from-index (suc k) n) t
    where
      later : List ℕ
      later = indices_from (suc k) (map P (iota (suc k) n))

      either : (b : Bool) → (T b → T (P i)) → (T (any_b (eqb i) later) → T (P i)) → T (b || any_b (eqb i) later) → T (P i)
      either true f g t = f tt
      either false f g t = g t

      go : (b : Bool) → (T b → T (P k)) → (T (any_b (eqb i) later) → T (P i)) → T (any_b (eqb i) (indices_from k (b ∷ map P (iota (suc k) n)))) → T (P i)
      go true f ih t = either (eqb i k) (λ u. subst⁻¹ (λ j. T (P j)) (eqb→eq i k u) (f tt)) ih t
      go false f ih t = ih t

  to_index : (k n : ℕ) → k ≤ i → i < k + n → T (P i) → T (any_b (eqb i) (indices_from k (map P (iota k n))))
  unfolding iota indices_from any_b
  to_index k zero l h t = absurd (omega arith)
  to_index k (suc n) l h t = elim (eq-or-lt_of_le l) [ inl e ↦ go (P k) (inl (subst (λ j. T (eqb i j)) (sym e) (eqb_refl i), subst (λ j. T (P j)) (sym e) t)) | inr m ↦ go (P k) (inr (to_index (suc k) n m (omega arith) t)) ]
    where
      later : List ℕ
      later = indices_from (suc k) (map P (iota (suc k) n))

      go : (b : Bool) → (T (eqb i k) × T b) ⊎ T (any_b (eqb i) later) → T (any_b (eqb i) (indices_from k (b ∷ map P (iota (suc k) n))))
      go true (inl x) = left-T (eqb i k) (any_b (eqb i) later) x.0
      go true (inr y) = right-T (eqb i k) (any_b (eqb i) later) y
      go false (inl x) = absurd x.1
      go false (inr y) = y

module _ (fs : List Pair) where
  places-below : (e : Expr) → All (λ i. i < length fs) (places fs e)
  unfolding places found
  places-below (col c) = go (find c fs) (found_below c fs)
    where
      go : (o : Option ℕ) → ((i : ℕ) → o ≡ some i → i < length fs) → All (λ i. i < length fs) (found o)
      go none h = a[]
      go (some i) h = h i refl a∷ a[]
  places-below (lit z) = a[]
  places-below miss = a[]
  places-below (un o a) = places-below a
  places-below (bin o a b) = All_++ (places-below a) (places-below b)

  all-below : (es : List Expr) → All (λ i. i < length fs) (concat_map (places fs) es)
  unfolding concat_map
  all-below [] = a[]
  all-below (e ∷ es) = All_++ (places-below e) (all-below es)

  one_below : (i : ℕ) {is : List ℕ} → All (λ i. i < length fs) is → T (any_b (eqb i) is) → i < length fs
  unfolding any_b
  one_below i a[] t = absurd t
  one_below i (◌a∷◌ {x = j} {xs = is} h hs) t = go (eqb i j) (eqb→eq i j) (one_below i hs) t
    where
      go : (b : Bool) → (T b → i ≡ j) → (T (any_b (eqb i) is) → i < length fs) → T (b || any_b (eqb i) is) → i < length fs
      go true f g t = let e = f tt in omega arith
      go false f g t = g t

  pub index-used : (es : List Expr) (i : ℕ) → T (any_b (eqb i) (concat_map (places fs) es)) → T (any_b (eqb i) (indices_from 0 (used es fs)))
  unfolding used mask_of
  index-used es i t = to_index _ i 0 (length fs) (omega arith) (let h = one_below i (all-below es) t in omega arith) t

  pub used-index : (es : List Expr) (i : ℕ) → T (any_b (eqb i) (indices_from 0 (used es fs))) → T (any_b (eqb i) (concat_map (places fs) es))
  unfolding used mask_of
  used-index es i t = from-index (λ j. any_b (eqb j) (concat_map (places fs) es)) i 0 (length fs) t
