-- Laws of lists: of `map`, and of what holds of each element (`All`) or of two lists place by place (`All2`, `Fit`).
use mathlib.Core.Path.{◌≡◌, refl, ap, ap₂}
use mathlib.Core.List.{List, [], ◌∷◌, ◌++◌, map}
use mathlib.Core.Bool.{Bool, true, false, cond}
use Prim.Native.Nat.{ℕ, suc}
use native.Mathlib.Omega.{arith}
use lib.Dec.{T, eqb, eqb_refl}
use lib.ListN.{length, take, drop}
use Rattle.cpl.specs.Tests.{any_b, all_b, concat_map}
use Rattle.cpl.specs.Lists.{All, a[], ◌a∷◌, z[], ◌z∷◌, Fit}
use Rattle.cpl.proofs.Bools.{halves, both-T, left-T, right-T}

-- ── map ─────────────────────────────────────────────────────────────────────────────────────

module _ {A : Type 0} where
  pub map_cong : {B : Type 0} {f g : A → B} → ((x : A) → f x ≡ g x) → (xs : List A) → map f xs ≡ map g xs
  map_cong h [] = refl
  map_cong h (x ∷ xs) = ap₂ ◌∷◌ (h x) (map_cong h xs)

  pub map_cong_a : {B : Type 0} {f g : A → B} {xs : List A} → All (λ x. f x ≡ g x) xs → map f xs ≡ map g xs
  map_cong_a a[] = refl
  map_cong_a (h a∷ hs) = ap₂ ◌∷◌ h (map_cong_a hs)

  pub map-map : {B C : Type 0} (g : B → C) (f : A → B) (xs : List A) → map g (map f xs) ≡ map (λ x. g (f x)) xs
  map-map g f [] = refl
  map-map g f (x ∷ xs) = ap (g (f x) ∷◌) (map-map g f xs)

  pub map_++ : {B : Type 0} (f : A → B) (xs ys : List A) → map f (xs ++ ys) ≡ map f xs ++ map f ys
  map_++ f [] ys = refl
  map_++ f (x ∷ xs) ys = ap (f x ∷◌) (map_++ f xs ys)

  pub map_id : (xs : List A) → map (λ x. x) xs ≡ xs
  map_id [] = refl
  map_id (x ∷ xs) = ap (x ∷◌) (map_id xs)

-- ── All ─────────────────────────────────────────────────────────────────────────────────────

module _ {A : Type 0} {P : A → Type 0} where
  pub All_map : {Q : A → Type 0} → ((x : A) → P x → Q x) → {xs : List A} → All P xs → All Q xs
  All_map f a[] = a[]
  All_map f (◌a∷◌ {x = x} h hs) = f x h a∷ All_map f hs

  pub All_both : {Q : A → Type 0} {xs : List A} → All P xs → All Q xs → All (λ x. P x × Q x) xs
  All_both a[] a[] = a[]
  All_both (h a∷ hs) (k a∷ ks) = (h, k) a∷ All_both hs ks

  pub All_++ : {xs ys : List A} → All P xs → All P ys → All P (xs ++ ys)
  All_++ a[] k = k
  All_++ (h a∷ hs) k = h a∷ All_++ hs k

  pub All_left : (xs ys : List A) → All P (xs ++ ys) → All P xs
  All_left [] ys h = a[]
  All_left (x ∷ xs) ys (h a∷ hs) = h a∷ All_left xs ys hs

  pub All_right : (xs ys : List A) → All P (xs ++ ys) → All P ys
  All_right [] ys h = h
  All_right (x ∷ xs) ys (h a∷ hs) = All_right xs ys hs

  pub All_cond : (b : Bool) {xs ys : List A} → All P xs → All P ys → All P (cond b xs ys)
  All_cond true h k = h
  All_cond false h k = k

  pub always : ((x : A) → P x) → (xs : List A) → All P xs
  always h [] = a[]
  always h (x ∷ xs) = h x a∷ always h xs

  pub All_mapped : {B : Type 0} {Q : B → Type 0} (f : A → B) {xs : List A} → ((x : A) → P x → Q (f x)) → All P xs → All Q (map f xs)
  All_mapped f h a[] = a[]
  All_mapped f h (◌a∷◌ {x = x} k ks) = h x k a∷ All_mapped f h ks

  pub All_concat : {B : Type 0} {Q : B → Type 0} {f : A → List B} {xs : List A} → ((x : A) → P x → All Q (f x)) → All P xs → All Q (concat_map f xs)
  unfolding concat_map
  All_concat h a[] = a[]
  All_concat h (◌a∷◌ {x = x} k ks) = go (h x k) (All_concat h ks)
    where
      go : {B : Type 0} {Q : B → Type 0} {ys zs : List B} → All Q ys → All Q zs → All Q (ys ++ zs)
      go a[] k = k
      go (h a∷ hs) k = h a∷ go hs k

pub All_unmapped : {A B : Type 0} {Q : B → Type 0} (f : A → B) (xs : List A) → All Q (map f xs) → All (λ x. Q (f x)) xs
All_unmapped f [] a[] = a[]
All_unmapped f (x ∷ xs) (h a∷ hs) = h a∷ All_unmapped f xs hs

-- what holds of every number that is found in a list
pub each_number : (P : ℕ → Type 0) (ns : List ℕ) → ((i : ℕ) → T (any_b (eqb i) ns) → P i) → All P ns
unfolding any_b
each_number P [] h = a[]
each_number P (n ∷ ns) h = h n (left-T (eqb n n) (any_b (eqb n) ns) (eqb_refl n)) a∷ each_number P ns (λ i t. h i (right-T (eqb i n) (any_b (eqb i) ns) t))

-- a test that all pass, and what each passes
pub all-T : {A : Type 0} (p : A → Bool) (xs : List A) → T (all_b p xs) → All (λ x. T (p x)) xs
unfolding all_b
all-T p [] t = a[]
all-T p (x ∷ xs) t = let h = halves (p x) (all_b p xs) t in h.0 a∷ all-T p xs h.1

pub T-all : {A : Type 0} (p : A → Bool) {xs : List A} → All (λ x. T (p x)) xs → T (all_b p xs)
unfolding all_b
T-all p a[] = tt
T-all p (◌a∷◌ {x = x} {xs = xs} h hs) = both-T (p x) (all_b p xs) h (T-all p hs)

-- ── Fit: equally long ───────────────────────────────────────────────────────────────────────

pub fit_self : {A : Type 0} (xs : List A) → Fit xs xs
fit_self [] = z[]
fit_self (x ∷ xs) = tt z∷ fit_self xs

pub Fit-map : {A B : Type 0} (f : A → B) (xs : List A) → Fit (map f xs) xs
Fit-map f [] = z[]
Fit-map f (x ∷ xs) = tt z∷ Fit-map f xs

pub Fit_maps : {A B C : Type 0} (f : A → B) (g : A → C) (xs : List A) → Fit (map f xs) (map g xs)
Fit_maps f g [] = z[]
Fit_maps f g (x ∷ xs) = tt z∷ Fit_maps f g xs

pub Fit_trans : {A B C : Type 0} {xs : List A} {ys : List B} {zs : List C} → Fit xs ys → Fit ys zs → Fit xs zs
Fit_trans z[] z[] = z[]
Fit_trans (h z∷ hs) (k z∷ ks) = tt z∷ Fit_trans hs ks

pub Fit-sym : {A B : Type 0} {xs : List A} {ys : List B} → Fit xs ys → Fit ys xs
Fit-sym z[] = z[]
Fit-sym (h z∷ hs) = tt z∷ Fit-sym hs

pub Fit_++ : {A B : Type 0} {xs xs' : List A} {ys ys' : List B} → Fit xs ys → Fit xs' ys' → Fit (xs ++ xs') (ys ++ ys')
Fit_++ z[] h = h
Fit_++ (_ z∷ hs) h = tt z∷ Fit_++ hs h

pub Fit-length : {A B : Type 0} {xs : List A} {ys : List B} → Fit xs ys → length xs ≡ length ys
Fit-length z[] = refl
Fit-length (_ z∷ hs) = ap suc (Fit-length hs)

pub length-Fit : {A B : Type 0} (xs : List A) (ys : List B) → length xs ≡ length ys → Fit xs ys
length-Fit [] [] e = z[]
length-Fit [] (y ∷ ys) e = absurd (omega arith)
length-Fit (x ∷ xs) [] e = absurd (omega arith)
length-Fit (x ∷ xs) (y ∷ ys) e = tt z∷ length-Fit xs ys (omega arith)

-- the two parts of a list that fits two lists in a row
pub take-fit : {A B : Type 0} (xs ys : List A) {R : List B} → Fit R (xs ++ ys) → Fit (take (length xs) R) xs
take-fit [] ys h = z[]
take-fit (x ∷ xs) ys (_ z∷ hs) = tt z∷ take-fit xs ys hs

pub drop-fit : {A B : Type 0} (xs ys : List A) {R : List B} → Fit R (xs ++ ys) → Fit (drop (length xs) R) ys
drop-fit [] ys h = h
drop-fit (x ∷ xs) ys (_ z∷ hs) = drop-fit xs ys hs
