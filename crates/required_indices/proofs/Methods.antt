-- What each method of a request does to the mask that the request asks for. Every law takes what the method's contract says.
use mathlib.Core.Path.{◌≡◌, refl, sym, ◌∙◌, ap, ap₂, subst}
use mathlib.Core.Logic.{⊎_elim}
use mathlib.Core.Bool.{Bool, true, false}
use mathlib.Core.List.{List, [], ◌∷◌, ◌++◌}
use Prim.Native.Nat.{ℕ, ◌+◌, ◌-◌, ◌*◌, ◌/◌, ◌%◌, ◌^◌, ◌≤◌, ◌<◌}
use native.Mathlib.Nat.{mod-lt, lt_of_lt_of_le}
use native.Mathlib.Omega.{arith}
use lib.Pow.{pow_pos, pow-lt, pow_mono, shl_lt, shr_lt}
use lib.Bits.{bit_or, or_lt}
use lib.Count.{ones}
use lib.Dec.{eqb}
use lib.ListN.{length, get_or, take, drop, get_or-eq_default}
use borrow.Author.Tests.{eqb-true, eqb-false, eq-eqb, ne_eqb}
use Rattle.rules.specs.Mask.{Mask, or_m, count_m, LeM}
use Rattle.rules.specs.Mask as mask
use Rattle.rules.specs.Request.{mask_of}
use Rattle.required_indices.specs.Set.{has, set_mask}
use Rattle.required_indices.specs.Request.{words_n, set_of, Holds, Asks}
use Rattle.required_indices.specs.declared.RequiredIndices.{RequiredIndices}
use Rattle.required_indices.proofs.Members.{side, has-past}
use Rattle.required_indices.proofs.Masks.{mask-length, mask_at, mask_or, mask_below, mask-rest, mask_follow, mask-all, mask-none, mask-count, mask-empty, mask_inj, mask_le, le_mask}
use Rattle.required_indices.proofs.Singles.{mask_single}

-- a set over n fields asks for its mask
pub asks : (n : ℕ) {r : RequiredIndices} {s : ℕ} {b : Bool} {R : Mask} → Holds r s b → set_mask n s ≡ R → s < 2 ^ n → Asks r R
asks n {r} {s} {b} {R} h e l =
    let long : n ≡ length R = sym (mask-length n s) ∙ ap length e in
    record {
      mask = ap₂ set_mask (sym long) h.set ∙ e;
      within = subst (λ (x : ℕ). set_of r < 2 ^ x) long (subst (λ (x : ℕ). x < 2 ^ n) (sym h.set) l);
    }

-- new
pub new_asks : {A : Type 0} {out : RequiredIndices} {b : Bool} (xs : List A) → Holds out 0 b → Asks out (mask.zeros xs)
new_asks xs h = asks (length xs) h (mask-none xs) (pow_pos (length xs))

-- new_for_all_exprs
pub all-asks : {A : Type 0} {out : RequiredIndices} {b : Bool} (xs : List A) (width : ℕ) → width ≡ length xs → Holds out (2 ^ width - 1) b → Asks out (mask.ones xs)
all-asks xs width e h = asks width h (ap (λ (x : ℕ). set_mask x (2 ^ x - 1)) e ∙ mask-all xs) (omega (arith, pow_pos width))

-- with_projection_beneficial
pub flag-asks : {r out : RequiredIndices} {R : Mask} {b : Bool} → Asks r R → Holds out (set_of r) b → Asks out R
flag-asks {R = R} a h = asks (length R) h a.mask a.within

-- append
pub append_asks : {r q out : RequiredIndices} {R Q : Mask} {b : Bool} → Asks r R → Asks q Q → length R ≡ length Q → Holds out (bit_or (set_of r) (set_of q)) b → Asks out (or_m R Q)
append_asks {r} {q} {R = R} {Q} a c same h =
    asks (length R) h (mask_or (length R) (set_of r) (set_of q) ∙ ap₂ or_m a.mask (ap (λ (x : ℕ). set_mask x (set_of q)) same ∙ c.mask))
    (or_lt (length R) (set_of r) (set_of q) a.within (subst (λ (x : ℕ). set_of q < 2 ^ x) (sym same) c.within))

-- with_index: the mask with a one, as the rules give the list of that index alone
pub index-asks : {r out : RequiredIndices} {R : Mask} {b : Bool} (i : ℕ) → Asks r R → i < length R → Holds out (bit_or (set_of r) (2 ^ i)) b → Asks out (or_m R (mask_of (length R) (i ∷ [])))
index-asks {r} {R = R} i a l h =
    asks (length R) h (mask_or (length R) (set_of r) (2 ^ i) ∙ ap₂ or_m a.mask (mask_single (length R) i))
    (or_lt (length R) (set_of r) (2 ^ i) a.within (pow-lt l))

-- split_off: the first k fields, and the others
pub below-asks : {r out : RequiredIndices} {R : Mask} {b : Bool} (k : ℕ) → Asks r R → k ≤ length R → Holds out (set_of r % 2 ^ k) b → Asks out (take k R)
below-asks {r} {R = R} k a l h = asks k h (mask_below k (length R) (set_of r) l ∙ ap (take k) a.mask) (mod-lt (set_of r) (pow_pos k))

pub rest-asks : {r out : RequiredIndices} {R : Mask} {b : Bool} (k : ℕ) → Asks r R → k ≤ length R → Holds out (set_of r / 2 ^ k) b → Asks out (drop k R)
rest-asks {r} {R = R} k a l h =
    let whole : length R ≡ (length R - k) + k = omega arith in
    asks (length R - k) h (mask-rest k (length R) (set_of r) l ∙ ap (drop k) a.mask) (shr_lt (length R - k) k (subst (λ (x : ℕ). set_of r < 2 ^ x) whole a.within))

-- followed_by: its requires, and the fields of both, one after the other
pub follow_fits : {q : RequiredIndices} {S : Mask} (n : ℕ) → Asks q S → n + length S ≤ words_n * 64 → set_of q * 2 ^ n < 2 ^ (words_n * 64)
follow_fits {S = S} n c l = lt_of_lt_of_le (shl_lt (length S) n c.within) (pow_mono {j = words_n * 64} (omega arith))

pub follow_asks : {r q out : RequiredIndices} {K S : Mask} {b : Bool} (n : ℕ) → Asks r K → Asks q S → n ≡ length K → Holds out (bit_or (set_of r) (set_of q * 2 ^ n)) b → Asks out (K ++ S)
follow_asks {r} {q} {K = K} {S} n a c e h =
    let m : ℕ = length S in
    let inside : set_of r < 2 ^ n = subst (λ (x : ℕ). set_of r < 2 ^ x) (sym e) a.within in
    asks (n + m) h (mask_follow n m (set_of r) (set_of q) inside ∙ ap₂ ◌++◌ (ap (λ (x : ℕ). set_mask x (set_of r)) e ∙ a.mask) c.mask)
    (or_lt (n + m) (set_of r) (set_of q * 2 ^ n) (lt_of_lt_of_le inside (pow_mono (omega arith))) (lt_of_lt_of_le (shl_lt m n c.within) (pow_mono (omega arith))))

-- contains: the mask's place i, and no past the fields
pub contains-mask : {r : RequiredIndices} {R : Mask} → Asks r R → (i : ℕ) → has (set_of r) i ≡ get_or R i false
contains-mask {r} {R} a i =
    ⊎_elim
    (λ (l : length R ≤ i). has-past (length R) a.within l ∙ sym (get_or-eq_default R false l))
    (λ (l : i < length R). sym (mask_at (length R) (set_of r) i l) ∙ ap (λ (m : Mask). get_or m i false) a.mask)
    (side (length R) i)

-- len
pub len_mask : {r : RequiredIndices} {R : Mask} → Asks r R → ones (set_of r) ≡ count_m R
len_mask {r} {R} a = sym (mask-count (length R) (set_of r) a.within) ∙ ap count_m a.mask

-- is_empty
pub empty-mask : {r : RequiredIndices} {R : Mask} → Asks r R → eqb (set_of r) 0 ≡ eqb (count_m R) 0
unfolding lib.Count.ones lib.Count.ones_in
empty-mask {r} {R} a = by (eqb (set_of r) 0) refl
  where
    by : (t : Bool) → eqb (set_of r) 0 ≡ t → eqb (set_of r) 0 ≡ eqb (count_m R) 0
    by true e = e ∙ sym (eq-eqb (count_m R) 0 (sym (len_mask a) ∙ ap ones (eqb-true (set_of r) 0 e)))
    by false e = e ∙ sym (ne_eqb (count_m R) 0 (λ z. eqb-false (set_of r) 0 e (mask-empty (length R) (set_of r) a.within (ap count_m a.mask ∙ z))))

module _ {r q : RequiredIndices} {R Q : Mask} (a : Asks r R) (c : Asks q Q) (same : length R ≡ length Q) where
  mask_q : set_mask (length R) (set_of q) ≡ Q
  mask_q = ap (λ (x : ℕ). set_mask x (set_of q)) same ∙ c.mask

  within_q : set_of q < 2 ^ length R
  within_q = subst (λ (x : ℕ). set_of q < 2 ^ x) (sym same) c.within

  -- equals: the same set, the same mask
  pub set-mask : set_of r ≡ set_of q → R ≡ Q
  set-mask e = sym a.mask ∙ ap (set_mask (length R)) e ∙ mask_q

  pub mask-set : R ≡ Q → set_of r ≡ set_of q
  mask-set e = mask_inj (length R) (set_of r) (set_of q) a.within within_q (a.mask ∙ e ∙ sym mask_q)

  pub equals_mask : eqb (set_of r) (set_of q) ≡ true → R ≡ Q
  equals_mask e = set-mask (eqb-true (set_of r) (set_of q) e)

  pub mask_equals : R ≡ Q → eqb (set_of r) (set_of q) ≡ true
  mask_equals e = eq-eqb (set_of r) (set_of q) (mask-set e)

  -- contains_all: the mask of r has all that of q
  pub contains-all-mask : eqb (bit_or (set_of q) (set_of r)) (set_of r) ≡ true → LeM Q R
  contains-all-mask e =
      let s : ℕ = bit_or (set_of q) (set_of r) in
      rw (mask_q, a.mask) at (mask_le (length R) (set_of q) (set_of r) (eqb-true s (set_of r) e))

  pub mask-contains-all : LeM Q R → eqb (bit_or (set_of q) (set_of r)) (set_of r) ≡ true
  mask-contains-all l =
      let s : ℕ = bit_or (set_of q) (set_of r) in
      let le : LeM (set_mask (length R) (set_of q)) (set_mask (length R) (set_of r)) = rw (mask_q, a.mask) l in
      eq-eqb s (set_of r) (le_mask (length R) (set_of q) (set_of r) within_q a.within le)
