-- A request built index by index: of a list of indices, as a request is given, and field by field, as a test answers.
use mathlib.Core.Path.{◌≡◌, refl, sym, ◌∙◌, ap, ap₂, subst}
use mathlib.Core.Bool.{Bool, true, false, ◌||◌}
use mathlib.Core.List.{List, [], ◌∷◌, ◌++◌, map}
use Prim.Native.Nat.{ℕ, zero, suc, ◌^◌, ◌<◌}
use native.Mathlib.Nat.{le_refl, lt_of_lt_of_le}
use native.Mathlib.Omega.{arith}
use lib.Pow.{pow-lt, pow_mono}
use lib.Bits.{bit_or, or_lt}
use lib.Dec.{eqb}
use lib.ListN.{length}
use borrow.Author.Tests.{eq-eqb, ne_eqb}
use Rattle.cpl.specs.Tests.{any_b, iota}
use Rattle.rules.specs.Mask.{Mask, or_m}
use Rattle.rules.specs.Request.{mask_of}
use Rattle.required_indices.specs.Set.{has, set_mask}
use Rattle.required_indices.specs.Request.{set_of, Holds, Asks}
use Rattle.required_indices.specs.declared.RequiredIndices.{RequiredIndices}
use Rattle.required_indices.proofs.Members.{has_or, has-past, has_single}
use Rattle.required_indices.proofs.Masks.{mask_ext, mask_snoc}
use Rattle.required_indices.proofs.Singles.{or_false, mask_append}
use Rattle.required_indices.proofs.Methods.{asks, new_asks, index-asks}

-- ---- of a list of indices over n fields: `new`, and then `with_index` for each

length-list : (n : ℕ) (is : List ℕ) → length (mask_of n is) ≡ n
unfolding mask_of iota
length-list n is = places 0 n
  where
    places : (k m : ℕ) → length (map (λ i. any_b (eqb i) is) (iota k m)) ≡ m
    places k zero = refl
    places k (suc m) = ap suc (places (suc k) m)

pub list_start : {out : RequiredIndices} {b : Bool} (n : ℕ) → Holds out 0 b → Asks out (mask_of n [])
unfolding mask_of any_b Rattle.rules.specs.Mask.zeros
list_start n h = new_asks (iota 0 n) h

pub list-add : {r out : RequiredIndices} {b : Bool} (n : ℕ) (is : List ℕ) (i : ℕ) → Asks r (mask_of n is) → i < n → Holds out (bit_or (set_of r) (2 ^ i)) b → Asks out (mask_of n (is ++ (i ∷ [])))
list-add {r} {out} n is i a l h =
    let long = length-list n is in
    subst (Asks out) (ap (λ (x : ℕ). or_m (mask_of n is) (mask_of x (i ∷ []))) long ∙ mask_append n is (i ∷ [])) (index-asks i a (omega arith) h)

-- ---- field by field: the next field is asked for, or not

pub field_yes : {r out : RequiredIndices} {R : Mask} {b : Bool} → Asks r R → Holds out (bit_or (set_of r) (2 ^ length R)) b → Asks out (R ++ (true ∷ []))
field_yes {r} {R = R} a h =
    let n : ℕ = length R in
    let s : ℕ = set_of r in
    let inside : has (bit_or s (2 ^ n)) n ≡ true = has_or s (2 ^ n) n ∙ ap₂ ◌||◌ (has-past n a.within (le_refl n)) (has_single n n ∙ eq-eqb n n refl) in
    let other : (i : ℕ) → i < n → has (2 ^ n) i ≡ false = λ i l. has_single n i ∙ ne_eqb n i (λ e. omega arith) in
    let before : set_mask n (bit_or s (2 ^ n)) ≡ set_mask n s =
    mask_ext n (bit_or s (2 ^ n)) s (λ i l. has_or s (2 ^ n) i ∙ ap (λ (t : Bool). has s i || t) (other i l) ∙ sym (or_false (has s i))) in
    asks (suc n) h (mask_snoc n (bit_or s (2 ^ n)) ∙ ap₂ (λ (m : Mask) (t : Bool). m ++ (t ∷ [])) (before ∙ a.mask) inside)
    (or_lt (suc n) s (2 ^ n) (lt_of_lt_of_le a.within (pow_mono (omega arith))) (pow-lt (omega arith)))

pub field_no : {r : RequiredIndices} {R : Mask} → Asks r R → Asks r (R ++ (false ∷ []))
field_no {r} {R} a =
    let n : ℕ = length R in
    let s : ℕ = set_of r in
    asks (suc n) (record { set = refl; flag = refl }) (mask_snoc n s ∙ ap₂ (λ (m : Mask) (t : Bool). m ++ (t ∷ [])) a.mask (has-past n a.within (le_refl n)))
    (lt_of_lt_of_le a.within (pow_mono (omega arith)))
