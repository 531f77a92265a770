-- The set of a single index, and of a list of indices added to another, has the mask that the rules give the list.
use mathlib.Core.Path.{◌≡◌, refl, sym, ◌∙◌, ap, ap₂}
use mathlib.Core.Bool.{Bool, true, false, ◌||◌}
use mathlib.Core.List.{List, [], ◌∷◌, ◌++◌, map}
use Prim.Native.Nat.{ℕ, zero, suc, ◌+◌, ◌/◌, ◌^◌}
use native.Mathlib.Nat.{div-one}
use native.Mathlib.Omega.{arith}
use lib.Pow.{shr-shr}
use lib.Dec.{eqb, eqb-zero-suc, eqb-suc-zero, eqb-suc-suc}
use Rattle.cpl.specs.Tests.{any_b, iota}
use Rattle.rules.specs.Mask.{or_m}
use Rattle.rules.specs.Request.{mask_of}
use Rattle.required_indices.specs.Set.{odd, has, set_mask}
use Rattle.required_indices.proofs.Members.{has_single}

eqb-sym : (a b : ℕ) → eqb a b ≡ eqb b a
eqb-sym zero zero = refl
eqb-sym zero (suc b) = eqb-zero-suc b ∙ sym (eqb-suc-zero b)
eqb-sym (suc a) zero = eqb-suc-zero a ∙ sym (eqb-zero-suc a)
eqb-sym (suc a) (suc b) = eqb-suc-suc a b ∙ eqb-sym a b ∙ sym (eqb-suc-suc b a)

pub or_false : (a : Bool) → a ≡ (a || false)
or_false true = refl
or_false false = refl

or_assoc : (a b c : Bool) → ((a || b) || c) ≡ (a || (b || c))
or_assoc true b c = refl
or_assoc false b c = refl

map_cong : {A B : Type 0} {f g : A → B} → ((x : A) → f x ≡ g x) → (xs : List A) → map f xs ≡ map g xs
map_cong h [] = refl
map_cong h (x ∷ xs) = ap₂ ◌∷◌ (h x) (map_cong h xs)

mask-iota : (n s k : ℕ) → set_mask n (s / 2 ^ k) ≡ map (has s) (iota k n)
unfolding set_mask iota has
mask-iota zero s k = refl
mask-iota (suc n) s k =
    let e : k + 1 ≡ suc k = omega arith in ap (odd (s / 2 ^ k) ∷◌) (ap (set_mask n) (shr-shr s k 1 ∙ ap (λ (x : ℕ). s / 2 ^ x) e) ∙ mask-iota n s (suc k))

-- the mask, place by place
mask-map : (n s : ℕ) → set_mask n s ≡ map (has s) (iota 0 n)
mask-map n s = ap (set_mask n) (sym (div-one s)) ∙ mask-iota n s 0

-- a single index
pub mask_single : (n i : ℕ) → set_mask n (2 ^ i) ≡ mask_of n (i ∷ [])
unfolding mask_of any_b
mask_single n i = mask-map n (2 ^ i) ∙ map_cong (λ j. has_single i j ∙ eqb-sym i j ∙ or_false (eqb j i)) (iota 0 n)

-- two lists of indices
any_append : {A : Type 0} (p : A → Bool) (xs ys : List A) → (any_b p xs || any_b p ys) ≡ any_b p (xs ++ ys)
unfolding any_b
any_append p [] ys = refl
any_append p (x ∷ xs) ys = or_assoc (p x) (any_b p xs) (any_b p ys) ∙ ap (λ (b : Bool). p x || b) (any_append p xs ys)

or_map : {A : Type 0} (f g : A → Bool) (xs : List A) → or_m (map f xs) (map g xs) ≡ map (λ x. f x || g x) xs
unfolding or_m
or_map f g [] = refl
or_map f g (x ∷ xs) = ap ((f x || g x) ∷◌) (or_map f g xs)

pub mask_append : (n : ℕ) (is js : List ℕ) → or_m (mask_of n is) (mask_of n js) ≡ mask_of n (is ++ js)
unfolding mask_of
mask_append n is js = or_map (λ i. any_b (eqb i) is) (λ i. any_b (eqb i) js) (iota 0 n) ∙ map_cong (λ i. any_append (eqb i) is js) (iota 0 n)
