-- Laws of parts of lists (`Into`, `Part`), and of what grows with a request: a larger mask selects more, more expressions use more.
use mathlib.Core.Path.{refl, ap, subst}
use mathlib.Core.List.{List, [], ◌∷◌, ◌++◌, map}
use mathlib.Core.Bool.{Bool, true, false, ◌||◌}
use Prim.Native.Nat.{ℕ, zero, suc}
use lib.Dec.{T, eqb}
use lib.ListN.{length, take, drop}
use Rattle.cpl.specs.Tests.{any_b, concat_map, iota}
use Rattle.cpl.specs.Lists.{All, a[], ◌a∷◌, z[], ◌z∷◌, Fit}
use Rattle.cpl.specs.Plan.{Pair, Expr}
use Rattle.cpl.specs.Exprs.{places}
use Rattle.cpl.proofs.Bools.{left-T, right-T}
use Rattle.cpl.proofs.Lists.{each_number, always}
use Rattle.rules.specs.Mask.{Mask, select, or_m, LeB, LeM}
use Rattle.rules.specs.Request.{mask_of}
use Rattle.rules.specs.Rules.{used, plus}
use Rattle.rules.specs.Scans.{Into, i[], ◌i∷◌, pass, Part}
use Rattle.rules.specs.Larger.{Contains}
use Rattle.rules.proofs.Masks.{LeB_trans, LeB_left, LeB_right}
use Rattle.rules.proofs.Asked.{used-fit}

-- ── lists ───────────────────────────────────────────────────────────────────────────────────

module _ {A B : Type 0} {Q : A → B → Type 0} where
  pub none_into : (ys : List B) → Into Q [] ys
  none_into [] = i[]
  none_into (y ∷ ys) = pass (none_into ys)

  pub Into_++ : {xs xs' : List A} {ys ys' : List B} → Into Q xs ys → Into Q xs' ys' → Into Q (xs ++ xs') (ys ++ ys')
  Into_++ i[] k = k
  Into_++ (h i∷ hs) k = h i∷ Into_++ hs k
  Into_++ (pass hs) k = pass (Into_++ hs k)

  pub Into_map : {A' B' : Type 0} {Q' : A' → B' → Type 0} (f : A → A') (g : B → B') → ((x : A) (y : B) → Q x y → Q' (f x) (g y)) → {xs : List A} {ys : List B} → Into Q xs ys → Into Q' (map f xs) (map g ys)
  Into_map f g k i[] = i[]
  Into_map f g k (◌i∷◌ {x = x} {y = y} h hs) = k x y h i∷ Into_map f g k hs
  Into_map f g k (pass hs) = pass (Into_map f g k hs)

  -- what passes in the first list passes in the second
  pub any_into : (p : A → Bool) (r : B → Bool) → ((x : A) (y : B) → Q x y → T (p x) → T (r y)) → {xs : List A} {ys : List B} → Into Q xs ys → T (any_b p xs) → T (any_b r ys)
  unfolding any_b
  any_into p r f i[] t = t
  any_into p r f (◌i∷◌ {x = x} {y = y} {xs = xs} {ys = ys} h hs) t = go (p x) (λ s. s) (any_into p r f hs) t
    where
      go : (b : Bool) → (T b → T (p x)) → (T (any_b p xs) → T (any_b r ys)) → T (b || any_b p xs) → T (r y || any_b r ys)
      go true s rest t = left-T (r y) (any_b r ys) (f x y h (s tt))
      go false s rest t = right-T (r y) (any_b r ys) (rest t)
  any_into p r f (pass {y = y} {ys = ys} hs) t = right-T (r y) (any_b r ys) (any_into p r f hs t)

pub Part-refl : {A : Type 0} (xs : List A) → Part xs xs
Part-refl [] = i[]
Part-refl (x ∷ xs) = refl i∷ Part-refl xs

pub Part-map : {A B : Type 0} (f : A → B) {xs ys : List A} → Part xs ys → Part (map f xs) (map f ys)
Part-map f h = Into_map f f (λ x y e. ap f e) h

pub Part-any : {A : Type 0} (p : A → Bool) {xs ys : List A} → Part xs ys → T (any_b p xs) → T (any_b p ys)
Part-any p h t = any_into p p (λ x y e u. subst (λ z. T (p z)) e u) h t

pub Part_concat : {A B : Type 0} (f : A → List B) {xs ys : List A} → Part xs ys → Part (concat_map f xs) (concat_map f ys)
unfolding concat_map
Part_concat f i[] = i[]
Part_concat f (◌i∷◌ {x = x} e hs) = Into_++ (subst (λ y. Part (f x) (f y)) e (Part-refl (f x))) (Part_concat f hs)
Part_concat f (pass {y = y} hs) = Into_++ (none_into (f y)) (Part_concat f hs)

-- ── a larger mask ───────────────────────────────────────────────────────────────────────────

pub select-more : {A : Type 0} {R R' : Mask} → LeM R R' → (xs : List A) → Part (select R xs) (select R' xs)
unfolding select
select-more z[] xs = i[]
select-more (h z∷ hs) [] = i[]
select-more (◌z∷◌ {x = true} {y = true} h hs) (x ∷ xs) = refl i∷ select-more hs xs
select-more (◌z∷◌ {x = true} {y = false} h hs) (x ∷ xs) = absurd h
select-more (◌z∷◌ {x = false} {y = true} h hs) (x ∷ xs) = pass (select-more hs xs)
select-more (◌z∷◌ {x = false} {y = false} h hs) (x ∷ xs) = select-more hs xs

pub select-part : {A : Type 0} (R : Mask) (xs : List A) → Part (select R xs) xs
unfolding select
select-part [] xs = none_into xs
select-part (r ∷ R) [] = i[]
select-part (true ∷ R) (x ∷ xs) = refl i∷ select-part R xs
select-part (false ∷ R) (x ∷ xs) = pass (select-part R xs)

pub take_more : (n : ℕ) {R R' : Mask} → LeM R R' → LeM (take n R) (take n R')
take_more zero l = z[]
take_more (suc n) z[] = z[]
take_more (suc n) (h z∷ hs) = h z∷ take_more n hs

pub drop_more : (n : ℕ) {R R' : Mask} → LeM R R' → LeM (drop n R) (drop n R')
drop_more zero l = l
drop_more (suc n) z[] = z[]
drop_more (suc n) (h z∷ hs) = drop_more n hs

or_more : (a b c d : Bool) → LeB a c → LeB b d → LeB (a || b) (c || d)
or_more true b true d h k = tt
or_more true b false d h k = absurd h
or_more false b c d h k = LeB_trans b d (c || d) k (LeB_right c d)

pub or_m-more : {R R' S S' : Mask} → LeM R R' → LeM S S' → LeM (or_m R S) (or_m R' S')
unfolding or_m
or_m-more z[] k = z[]
or_m-more (h z∷ hs) z[] = z[]
or_m-more (◌z∷◌ {x = a} {y = c} h hs) (◌z∷◌ {x = b} {y = d} k ks) = or_more a b c d h k z∷ or_m-more hs ks

-- ── a request of more fields ────────────────────────────────────────────────────────────────

implies : (b c : Bool) → (T b → T c) → LeB b c
implies true c f = f tt
implies false c f = tt

masks_more : (is js : List ℕ) {ks : List ℕ} → All (λ i. T (any_b (eqb i) is) → T (any_b (eqb i) js)) ks → LeM (map (λ i. any_b (eqb i) is) ks) (map (λ i. any_b (eqb i) js) ks)
masks_more is js a[] = z[]
masks_more is js (◌a∷◌ {x = k} h hs) = implies (any_b (eqb k) is) (any_b (eqb k) js) h z∷ masks_more is js hs

pub mask-more : (width : ℕ) (is js : List ℕ) → Contains js is → LeM (mask_of width is) (mask_of width js)
unfolding mask_of
mask-more width is js h = masks_more is js (always h (iota 0 width))

-- of all fields
pub all_more : (width : ℕ) (is : List ℕ) → LeM (mask_of width is) (mask_of width (iota 0 width))
unfolding mask_of
all_more width is = masks_more is (iota 0 width) (each_number _ (iota 0 width) (λ i t u. t))

-- ── more expressions ────────────────────────────────────────────────────────────────────────

-- the one law here that looks at how columns find fields
pub used-more : {es ds : List Expr} → Part es ds → (fs : List Pair) → LeM (used es fs) (used ds fs)
unfolding used
used-more h fs = mask-more (length fs) _ _ (λ i t. Part-any (eqb i) (Part_concat (places fs) h) t)

pub plus-more : {es ds : List Expr} → Part es ds → (fs : List Pair) {R R' : Mask} → LeM R R' → LeM (plus es fs R) (plus ds fs R')
unfolding plus
plus-more h fs l = or_m-more l (used-more h fs)

pub plus-same : (es : List Expr) (fs : List Pair) {R R' : Mask} → LeM R R' → LeM (plus es fs R) (plus es fs R')
plus-same es fs l = plus-more (Part-refl es) fs l

-- a request no longer than the fields, with any columns added
take_or : {A : Type 0} (xs : List A) (R : Mask) {S : Mask} → Fit S xs → LeM (take (length xs) R) (or_m (take (length xs) R) S)
unfolding or_m
take_or [] R z[] = z[]
take_or (x ∷ xs) [] h = z[]
take_or (x ∷ xs) (r ∷ R) (◌z∷◌ {x = s} _ hs) = LeB_left r s z∷ take_or xs R hs

pub take-plus : (es : List Expr) (fs : List Pair) (R : Mask) → LeM (take (length fs) R) (plus es fs (take (length fs) R))
unfolding plus
take-plus es fs R = take_or fs R (used-fit es fs)
