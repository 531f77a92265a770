-- The laws of the lookup. What fits a reference is looked into here and nowhere else: all that other proofs use is that a field fits itself
-- (`fits_self`), that of two fields that do not conflict neither fits the other (`apart`), and that the first that fits is found.
use mathlib.Core.Path.{◌≡◌, refl, sym, ◌∙◌, ap, ap₂, subst⁻¹}
use mathlib.Core.Logic.{◌⊎◌, inl, inr}
use mathlib.Core.List.{List, [], ◌∷◌, ◌++◌}
use mathlib.Core.Bool.{Bool, true, false, cond, not, ◌&&◌, ◌||◌, true≢false}
use mathlib.Core.Option.{Option, none, some, some-injective}
use Prim.Native.Nat.{ℕ, suc, ◌+◌, ◌<◌, ◌≤◌}
use native.Mathlib.Omega.{arith}
use lib.Dec.{T, eqb, eqb→eq, eqb_refl, ltb, lt→ltb}
use lib.ListN.{length}
use borrow.Author.Tests.{eq-eqb, ne_eqb}
use native.Mathlib.Decide.{ℕ_discrete}
use Rattle.cpl.specs.Tests.{any_b}
use Rattle.cpl.specs.Lists.{All, a[], ◌a∷◌}
use Rattle.cpl.specs.Plan.{Pair, pair, eq_p, nameless}
use Rattle.cpl.specs.Exprs.{fits, next, find, present, fitting}
use Rattle.cpl.specs.Accept.{half_named, conflict}
use Rattle.cpl.specs.Accepted.{Clear, n[], ◌n∷◌}
use Rattle.cpl.proofs.Bools.{halves, is_true, left-T, right-T}
use Rattle.cpl.proofs.Lists.{All_map, All_both}

-- ── what fits ───────────────────────────────────────────────────────────────────────────────

-- number by number
pub fits-is : (q n r m : ℕ) → fits (pair q n) (pair r m) ≡ (eqb n m && (eqb q 0 || eqb q r))
unfolding fits
fits-is q n r m = refl

-- what fits is the pair itself, or its name alone
pub fits_cases : (c f : Pair) → fits c f ≡ true → (c ≡ f) ⊎ (c ≡ nameless f)
unfolding fits
fits_cases (pair r m) (pair q n) e = go (eqb r 0) (λ t. t) (halves (eqb m n) (eqb r 0 || eqb r q) (subst⁻¹ T e tt))
  where
    go : (b : Bool) → (T b → T (eqb r 0)) → T (eqb m n) × T (b || eqb r q) → (pair r m ≡ pair q n) ⊎ (pair r m ≡ pair 0 n)
    go true i h = inr (ap₂ pair (eqb→eq r 0 (i tt)) (eqb→eq m n h.0))
    go false i h = inl (ap₂ pair (eqb→eq r q h.1) (eqb→eq m n h.0))

pub name-fits : (f : Pair) → fits (nameless f) f ≡ true
unfolding fits
name-fits (pair q n) = ap (◌&& true) (is_true (eqb n n) (eqb_refl n))

or_true : (a : Bool) {b : Bool} → b ≡ true → (a || b) ≡ true
or_true true e = refl
or_true false e = e

pub fits_self : (c : Pair) → fits c c ≡ true
unfolding fits
fits_self (pair q n) = ap₂ ◌&&◌ (is_true (eqb n n) (eqb_refl n)) (or_true (eqb q 0) (is_true (eqb q q) (eqb_refl q)))

eqb-sym : (a b : ℕ) → eqb a b ≡ eqb b a
eqb-sym a b = elim (ℕ_discrete a b) [ yes e ↦ eq-eqb a b e ∙ sym (eq-eqb b a (sym e)) | no n ↦ ne_eqb a b n ∙ sym (ne_eqb b a (λ e. n (sym e))) ]

-- of two fields that do not conflict neither fits the other
pub apart : (f g : Pair) → T (not (conflict f g)) → (fits f g ≡ false) × (fits g f ≡ false)
unfolding fits conflict eq_p half_named
apart (pair q n) (pair r m) t =
    let h = go (eqb n m) (eqb q 0) (eqb r 0) (eqb q r) (λ s u. eqb_same s u) (rw (eqb-sym r q, eqb-sym m n) at t) in
    (h.0, ap₂ (λ x y. x && (eqb r 0 || y)) (eqb-sym m n) (eqb-sym r q) ∙ h.1)
  where
    eqb_same : T (eqb q 0) → T (eqb r 0) → T (eqb q r)
    eqb_same s u = subst⁻¹ T (eq-eqb q r (eqb→eq q 0 s ∙ sym (eqb→eq r 0 u))) tt

    go : (e a b d : Bool) → (T a → T b → T d) → T (not ((d && e) || (e && cond a (not b) b))) → ((e && (a || d)) ≡ false) × ((e && (b || d)) ≡ false)
    go false a b d i t = (refl, refl)
    go true true true true i t = absurd t
    go true true true false i t = absurd (i tt tt)
    go true true false true i t = absurd t
    go true true false false i t = absurd t
    go true false true true i t = absurd t
    go true false true false i t = absurd t
    go true false false true i t = absurd t
    go true false false false i t = (refl, refl)

-- ── what is found ───────────────────────────────────────────────────────────────────────────

pub present-next : (i : Option ℕ) → present (next i) ≡ present i
unfolding present next
present-next none = refl
present-next (some i) = refl

-- a reference finds a field where some field fits it
pub find-any : (c : Pair) (fs : List Pair) → present (find c fs) ≡ any_b (fits c) fs
unfolding find present any_b
find-any c [] = refl
find-any c (f ∷ fs) = go (fits c f) (find-any c fs)
  where
    go : (b : Bool) → present (find c fs) ≡ any_b (fits c) fs → present (cond b (some 0) (next (find c fs))) ≡ (b || any_b (fits c) fs)
    go true ih = refl
    go false ih = present-next (find c fs) ∙ ih

-- among no fields none is found; the first field that fits is found, and one that does not fit is passed over
pub find_none : (c : Pair) → find c [] ≡ none
unfolding find
find_none c = refl

module _ (c f : Pair) (fs : List Pair) where
  pub find-here : fits c f ≡ true → find c (f ∷ fs) ≡ some 0
  unfolding find
  find-here e = ap (λ b. cond b (some 0) (next (find c fs))) e

  pub find_past : fits c f ≡ false → find c (f ∷ fs) ≡ next (find c fs)
  unfolding find
  find_past e = ap (λ b. cond b (some 0) (next (find c fs))) e

-- what is found lies among the fields
pub found_below : (c : Pair) (fs : List Pair) (i : ℕ) → find c fs ≡ some i → i < length fs
unfolding find next
found_below c [] i h = absurd (let z : true ≡ false = cc in true≢false z)
found_below c (f ∷ fs) i h = go (fits c f) (find c fs) (found_below c fs) h
  where
    go : (b : Bool) (o : Option ℕ) → ((j : ℕ) → o ≡ some j → j < length fs) → cond b (some 0) (next o) ≡ some i → i < suc (length fs)
    go true o q h = let z : 0 ≡ i = some-injective _ _ h in omega arith
    go false none q h = absurd (let z : true ≡ false = cc in true≢false z)
    go false (some j) q h = let z : suc j ≡ i = some-injective _ _ h in let l = q j refl in omega arith

-- ── how many fit ────────────────────────────────────────────────────────────────────────────

pub fitting-none : (c : Pair) → fitting c [] ≡ 0
unfolding fitting
fitting-none c = refl

module _ (c f : Pair) (fs : List Pair) where
  pub fitting-here : fits c f ≡ true → fitting c (f ∷ fs) ≡ suc (fitting c fs)
  unfolding fitting
  fitting-here e = ap (λ b. cond b (suc (fitting c fs)) (fitting c fs)) e

  pub fitting-past : fits c f ≡ false → fitting c (f ∷ fs) ≡ fitting c fs
  unfolding fitting
  fitting-past e = ap (λ b. cond b (suc (fitting c fs)) (fitting c fs)) e

-- none does
pub none-fits : (c : Pair) (gs : List Pair) → fitting c gs ≤ 0 → All (λ g. fits c g ≡ false) gs
none-fits c [] l = a[]
none-fits c (g ∷ gs) l = go (fits c g) refl (none-fits c gs)
  where
    go : (b : Bool) → fits c g ≡ b → (fitting c gs ≤ 0 → All (λ g. fits c g ≡ false) gs) → All (λ g. fits c g ≡ false) (g ∷ gs)
    go true e r = absurd (omega (arith, fitting-here c g gs e, l))
    go false e r = e a∷ r (omega (arith, fitting-past c g gs e, l))

-- over two lists
pub fitting_++ : (c : Pair) (fl fr : List Pair) → fitting c (fl ++ fr) ≡ fitting c fl + fitting c fr
unfolding fitting
fitting_++ c [] fr = omega arith
fitting_++ c (f ∷ fl) fr = go (fits c f) (fitting c fl) (fitting c fr) (fitting_++ c fl fr)
  where
    go : (b : Bool) {x : ℕ} (y z : ℕ) → x ≡ y + z → cond b (suc x) x ≡ cond b (suc y) y + z
    go true y z e = omega arith
    go false y z e = e

-- a field is found where one or more fit
pub find-fitting : (c : Pair) (fs : List Pair) → present (find c fs) ≡ ltb 0 (fitting c fs)
unfolding find present fitting
find-fitting c [] = refl
find-fitting c (f ∷ fs) = go (fits c f) (find-fitting c fs)
  where
    go : (b : Bool) → present (find c fs) ≡ ltb 0 (fitting c fs) → present (cond b (some 0) (next (find c fs))) ≡ ltb 0 (cond b (suc (fitting c fs)) (fitting c fs))
    go true ih = sym (is_true (ltb 0 (suc (fitting c fs))) (lt→ltb 0 (suc (fitting c fs)) (omega arith)))
    go false ih = present-next (find c fs) ∙ ih

-- ── a field's own pair as a reference ───────────────────────────────────────────────────────

-- among fields without a clash it finds a field
own_any : (gs : List Pair) → All (λ c. T (any_b (fits c) gs)) gs
unfolding any_b
own_any [] = a[]
own_any (g ∷ gs) = left-T (fits g g) (any_b (fits g) gs) (subst⁻¹ T (fits_self g) tt) a∷ All_map (λ c t. right-T (fits c g) (any_b (fits c) gs) t) (own_any gs)

pub own-found : (gs : List Pair) → All (λ c. T (present (find c gs))) gs
own-found gs = All_map (λ c t. subst⁻¹ T (find-any c gs) t) (own_any gs)

-- and no second one fits
none-fit : (c : Pair) {gs : List Pair} → All (λ g. fits c g ≡ false) gs → fitting c gs ≡ 0
none-fit c a[] = unfold fitting in refl
none-fit c (◌a∷◌ {x = g} {xs = gs} h hs) = fitting-past c g gs h ∙ none-fit c hs

pub own-fits : {gs : List Pair} → Clear gs → All (λ c. fitting c gs ≡ 1) gs
own-fits n[] = a[]
own-fits (◌n∷◌ {f = f} {fs = fs} h hs) =
    (fitting-here f f fs (fits_self f) ∙ ap suc (none-fit f (All_map (λ g t. (apart f g t).0) h))) a∷ All_map (λ g k. fitting-past g f fs (apart f g k.0).1 ∙ k.1) (All_both h (own-fits hs))
