-- Laws of masks: selecting and containment.
use mathlib.Core.Path.{◌≡◌, refl, ap}
use mathlib.Core.List.{List, [], ◌∷◌, ◌++◌, map}
use mathlib.Core.Bool.{Bool, true, false, ◌||◌}
use Prim.Native.Nat.{ℕ, suc, ◌≤◌}
use native.Mathlib.Omega.{arith}
use lib.ListN.{length, take, drop, take-append-drop}
use Rattle.cpl.specs.Lists.{All, a[], ◌a∷◌, z[], ◌z∷◌, Fit}
use Rattle.rules.specs.Mask.{Mask, select, or_m, ones, count_m, LeB, LeM}

-- ── containment ─────────────────────────────────────────────────────────────────────────────

pub LeB_refl : (b : Bool) → LeB b b
LeB_refl true = tt
LeB_refl false = tt

pub LeB_trans : (a b c : Bool) → LeB a b → LeB b c → LeB a c
LeB_trans true true c h k = k
LeB_trans true false c h k = absurd h
LeB_trans false b c h k = tt

pub LeB_left : (a b : Bool) → LeB a (a || b)
LeB_left true b = tt
LeB_left false b = tt

pub LeB_right : (a b : Bool) → LeB b (a || b)
LeB_right true true = tt
LeB_right true false = tt
LeB_right false true = tt
LeB_right false false = tt

pub LeB_true : (b : Bool) → LeB b true
LeB_true true = tt
LeB_true false = tt

pub LeM_refl : (ks : Mask) → LeM ks ks
LeM_refl [] = z[]
LeM_refl (k ∷ ks) = LeB_refl k z∷ LeM_refl ks

pub LeM_trans : {rs bs cs : Mask} → LeM rs bs → LeM bs cs → LeM rs cs
LeM_trans z[] z[] = z[]
LeM_trans (◌z∷◌ {x = a} {y = b} h hs) (◌z∷◌ {y = c} k ks) = LeB_trans a b c h k z∷ LeM_trans hs ks

pub LeM_++ : {R S K L : Mask} → LeM R K → LeM S L → LeM (R ++ S) (K ++ L)
LeM_++ z[] k = k
LeM_++ (h z∷ hs) k = h z∷ LeM_++ hs k

pub LeM_fit : {A : Type 0} {R K : Mask} {xs : List A} → LeM R K → Fit R xs → Fit K xs
LeM_fit z[] z[] = z[]
LeM_fit (h z∷ hs) (k z∷ ks) = tt z∷ LeM_fit hs ks

-- a mask of two parts, whose first part is kept
pub LeM_parts : (n : ℕ) (R : Mask) {K L : Mask} → LeM (take n R) K → LeM (drop n R) L → LeM R (K ++ L)
LeM_parts n R {K} {L} h k = mathlib.Core.Path.subst (λ M. LeM M (K ++ L)) (take-append-drop n R) (LeM_++ h k)

-- ── what either mask has ────────────────────────────────────────────────────────────────────

pub LeM_or : {rs ms : Mask} → Fit rs ms → LeM rs (or_m rs ms)
unfolding or_m
LeM_or z[] = z[]
LeM_or (◌z∷◌ {x = r} {y = m} _ hs) = LeB_left r m z∷ LeM_or hs

pub LeM_or_r : {rs ms : Mask} → Fit rs ms → LeM ms (or_m rs ms)
unfolding or_m
LeM_or_r z[] = z[]
LeM_or_r (◌z∷◌ {x = r} {y = m} _ hs) = LeB_right r m z∷ LeM_or_r hs

pub or_map : {A : Type 0} (P Q : A → Bool) (xs : List A) → or_m (map P xs) (map Q xs) ≡ map (λ x. P x || Q x) xs
unfolding or_m
or_map P Q [] = refl
or_map P Q (x ∷ xs) = ap ((P x || Q x) ∷◌) (or_map P Q xs)

-- ── all, and as many ────────────────────────────────────────────────────────────────────────

pub fit-ones : {A : Type 0} {R : Mask} {xs : List A} → Fit R xs → LeM R (ones xs)
unfolding ones
fit-ones z[] = z[]
fit-ones (◌z∷◌ {x = r} _ hs) = LeB_true r z∷ fit-ones hs

pub ones_le : {A : Type 0} (xs : List A) {K : Mask} → LeM (ones xs) K → K ≡ ones xs
unfolding ones
ones_le [] z[] = refl
ones_le (x ∷ xs) (◌z∷◌ {y = true} h hs) = ap (true ∷◌) (ones_le xs hs)
ones_le (x ∷ xs) (◌z∷◌ {y = false} h hs) = absurd h

count_le : {R K : Mask} → LeM R K → count_m R ≤ count_m K
unfolding count_m
count_le z[] = omega arith
count_le (◌z∷◌ {x = true} {y = true} h hs) = let k = count_le hs in omega arith
count_le (◌z∷◌ {x = true} {y = false} h hs) = absurd h
count_le (◌z∷◌ {x = false} {y = true} h hs) = let k = count_le hs in omega arith
count_le (◌z∷◌ {x = false} {y = false} h hs) = count_le hs

-- a larger mask that has no more is the same
pub count_eq : {R K : Mask} → LeM R K → count_m K ≤ count_m R → K ≡ R
unfolding count_m
count_eq z[] k = refl
count_eq (◌z∷◌ {x = true} {y = true} h hs) k = ap (true ∷◌) (count_eq hs (omega arith))
count_eq (◌z∷◌ {x = true} {y = false} h hs) k = absurd h
count_eq (◌z∷◌ {x = false} {y = true} h hs) k = let l = count_le hs in absurd (omega arith)
count_eq (◌z∷◌ {x = false} {y = false} h hs) k = ap (false ∷◌) (count_eq hs k)

module _ {A : Type 0} where
  pub length-select : {K : Mask} {xs : List A} → Fit K xs → length (select K xs) ≡ count_m K
  unfolding select count_m
  length-select z[] = refl
  length-select (◌z∷◌ {x = true} _ hs) = ap suc (length-select hs)
  length-select (◌z∷◌ {x = false} _ hs) = length-select hs

  -- a selection is no longer than the list
  pub select_short : (K : Mask) (xs : List A) → length (select K xs) ≤ length xs
  unfolding select
  select_short [] xs = omega arith
  select_short (k ∷ K) [] = omega arith
  select_short (true ∷ K) (x ∷ xs) = let h = select_short K xs in omega arith
  select_short (false ∷ K) (x ∷ xs) = let h = select_short K xs in omega arith

  -- ── selecting ─────────────────────────────────────────────────────────────────────────────

  pub select-map : {B : Type 0} (f : A → B) (ks : Mask) (xs : List A) → select ks (map f xs) ≡ map f (select ks xs)
  unfolding select
  select-map f [] xs = refl
  select-map f (k ∷ ks) [] = refl
  select-map f (true ∷ ks) (x ∷ xs) = ap (f x ∷◌) (select-map f ks xs)
  select-map f (false ∷ ks) (x ∷ xs) = select-map f ks xs

  pub select_nil : (ks : Mask) → select {A = A} ks [] ≡ []
  unfolding select
  select_nil [] = refl
  select_nil (k ∷ ks) = refl

  -- to select twice
  pub select-select : {rs ks : Mask} → LeM rs ks → (xs : List A) → select (select ks rs) (select ks xs) ≡ select rs xs
  unfolding select
  select-select z[] xs = refl
  select-select {rs} {ks} (◌z∷◌ {x = r} {y = k} {xs = rs'} {ys = ks'} h hs) [] = select_nil (select (k ∷ ks') (r ∷ rs'))
  select-select (◌z∷◌ {x = true} {y = true} h hs) (x ∷ xs) = ap (x ∷◌) (select-select hs xs)
  select-select (◌z∷◌ {x = false} {y = true} h hs) (x ∷ xs) = select-select hs xs
  select-select (◌z∷◌ {x = true} {y = false} h hs) (x ∷ xs) = absurd h
  select-select (◌z∷◌ {x = false} {y = false} h hs) (x ∷ xs) = select-select hs xs

  pub Fit-select : {B : Type 0} (ks : Mask) {xs : List A} {ys : List B} → Fit xs ys → Fit (select ks xs) (select ks ys)
  unfolding select
  Fit-select [] h = z[]
  Fit-select (k ∷ ks) z[] = z[]
  Fit-select (true ∷ ks) (h z∷ hs) = tt z∷ Fit-select ks hs
  Fit-select (false ∷ ks) (h z∷ hs) = Fit-select ks hs

  pub select-ones : {B : Type 0} {xs : List A} {ys : List B} → Fit xs ys → select (ones ys) xs ≡ xs
  unfolding select ones
  select-ones z[] = refl
  select-ones (◌z∷◌ {x = x} _ hs) = ap (x ∷◌) (select-ones hs)

  -- a mask of two parts
  pub select_++ : {ks : Mask} {xs : List A} → Fit ks xs → (ls : Mask) (ys : List A) → select (ks ++ ls) (xs ++ ys) ≡ select ks xs ++ select ls ys
  unfolding select
  select_++ z[] ls ys = refl
  select_++ (◌z∷◌ {x = true} {y = x} _ hs) ls ys = ap (x ∷◌) (select_++ hs ls ys)
  select_++ (◌z∷◌ {x = false} _ hs) ls ys = select_++ hs ls ys

  pub All_select : {P : A → Type 0} (ks : Mask) {xs : List A} → All P xs → All P (select ks xs)
  unfolding select
  All_select [] h = a[]
  All_select (k ∷ ks) a[] = a[]
  All_select (true ∷ ks) (h a∷ hs) = h a∷ All_select ks hs
  All_select (false ∷ ks) (h a∷ hs) = All_select ks hs
