-- The indices of a request in order: what a loop that asks for the next index goes through, and what it selects.
use mathlib.Core.Path.{◌≡◌, refl, sym, ◌∙◌, ap, ap₂, subst}
use mathlib.Core.Logic.{⊎_elim}
use mathlib.Core.Bool.{true, false}
use mathlib.Core.List.{List, [], ◌∷◌, map}
use Prim.Native.Nat.{ℕ, zero, suc, ◌+◌, ◌-◌, ◌^◌, ◌≤◌, ◌<◌}
use native.Mathlib.Numerals.{add-one}
use native.Mathlib.Omega.{arith}
use lib.ListN.{length, get_or, drop}
use lib.Seq.{drop-drop, get_or-drop}
use Rattle.cpl.specs.Lists.{Fit, z[], ◌z∷◌}
use Rattle.rules.specs.Mask.{Mask, select, count_m}
use Rattle.required_indices.specs.Set.{has}
use Rattle.required_indices.specs.Request.{set_of, IsNext, Asks}
use Rattle.required_indices.specs.declared.RequiredIndices.{RequiredIndices}
use Rattle.std.specs.Prelude.{Option, Some, None}
use Rattle.required_indices.proofs.Members.{side, different, has-past}
use Rattle.required_indices.proofs.Methods.{contains-mask}

-- the places that say yes, counted from k
unfoldable pub indices_from : ℕ → Mask → List ℕ
indices_from k [] = []
indices_from k (true ∷ ks) = k ∷ indices_from (suc k) ks
indices_from k (false ∷ ks) = indices_from (suc k) ks

-- those from `from` on
unfoldable pub indices_at : ℕ → Mask → List ℕ
indices_at from m = indices_from from (drop from m)

indices_length : (k : ℕ) (ks : Mask) → length (indices_from k ks) ≡ count_m ks
unfolding indices_from count_m
indices_length k [] = refl
indices_length k (true ∷ ks) = ap suc (indices_length (suc k) ks)
indices_length k (false ∷ ks) = indices_length (suc k) ks

indices_suc : (k : ℕ) (ks : Mask) → indices_from (suc k) ks ≡ map suc (indices_from k ks)
unfolding indices_from
indices_suc k [] = refl
indices_suc k (true ∷ ks) = ap (suc k ∷◌) (indices_suc (suc k) ks)
indices_suc k (false ∷ ks) = indices_suc (suc k) ks

map-map : {A B C : Type 0} (g : B → C) (f : A → B) (xs : List A) → map g (map f xs) ≡ map (λ x. g (f x)) xs
map-map g f [] = refl
map-map g f (x ∷ xs) = ap (g (f x) ∷◌) (map-map g f xs)

select_indices : {A : Type 0} (d : A) {ks : Mask} {xs : List A} → Fit ks xs → select ks xs ≡ map (λ i. get_or xs i d) (indices_from 0 ks)
unfolding select indices_from
select_indices d z[] = refl
select_indices d (◌z∷◌ {x = true} {y = x} {xs = ks} {ys = xs} _ h) =
    ap (x ∷◌) (select_indices d h ∙ sym (ap (map (λ i. get_or (x ∷ xs) i d)) (indices_suc 0 ks) ∙ map-map (λ i. get_or (x ∷ xs) i d) suc (indices_from 0 ks)))
select_indices d (◌z∷◌ {x = false} {y = x} {xs = ks} {ys = xs} _ h) =
    select_indices d h ∙ sym (ap (map (λ i. get_or (x ∷ xs) i d)) (indices_suc 0 ks) ∙ map-map (λ i. get_or (x ∷ xs) i d) suc (indices_from 0 ks))

-- the first yes at d
skip : (m : Mask) (k d : ℕ) → ((j : ℕ) → j < d → get_or m j false ≡ false) → get_or m d false ≡ true → indices_from k m ≡ (k + d) ∷ indices_from (suc (k + d)) (drop (suc d) m)
unfolding indices_from
skip [] k d f t = absurd (different (sym t))
skip (true ∷ m) k zero f t = let e : k ≡ k + 0 = omega arith in ap (λ (x : ℕ). x ∷ indices_from (suc x) m) e
skip (false ∷ m) k zero f t = absurd (different (sym t))
skip (true ∷ m) k (suc d) f t = absurd (different (f 0 (omega arith)))
skip (false ∷ m) k (suc d) f t =
    let e : suc k + d ≡ k + suc d = omega arith in
    skip m (suc k) d (λ j h. f (suc j) (omega arith)) t ∙ ap (λ (x : ℕ). x ∷ indices_from (suc x) (drop (suc d) m)) e

none : (m : Mask) (k : ℕ) → ((j : ℕ) → get_or m j false ≡ false) → indices_from k m ≡ []
unfolding indices_from
none [] k f = refl
none (true ∷ m) k f = absurd (different (f 0))
none (false ∷ m) k f = none m (suc k) (λ j. f (suc j))

abbrev pub head_next : List ℕ → Option ℕ
head_next [] = None
head_next (i ∷ is) = Some i

-- an index that was found is at or above `from`, and below every bound of the set
module _ (s from : ℕ) (out : Option ℕ) (g : IsNext s from out) (i : ℕ) (e : out ≡ Some i) where
  here : IsNext s from (Some i)
  here = subst (IsNext s from) e g

  pub next_ge : from ≤ i
  next_ge = here.0

  pub next-below : (n : ℕ) → s < 2 ^ n → i < n
  next-below n h = ⊎_elim (λ (l : n ≤ i). absurd (different (sym here.1 ∙ has-past n h l))) (λ (l : i < n). l) (side n i)

module _ {r : RequiredIndices} {R : Mask} (a : Asks r R) where
  get_drop : (from j : ℕ) → get_or (drop from R) j false ≡ has (set_of r) (from + j)
  get_drop from j = get_or-drop from R j false ∙ sym (contains-mask a (from + j))

  module _ (from i : ℕ) (g : IsNext (set_of r) from (Some i)) where
    at_step : indices_at from R ≡ i ∷ indices_at (i + 1) R
    unfolding indices_at
    at_step =
        let ge : from ≤ i = g.0 in
        let e : from + (i - from) ≡ i = omega arith in
        let f : from + suc (i - from) ≡ i + 1 = omega arith in
        skip (drop from R) from (i - from) (λ j l. get_drop from j ∙ g.2 (from + j) (omega arith) (omega arith)) (get_drop from (i - from) ∙ ap (has (set_of r)) e ∙ g.1)
        ∙ ap₂ ◌∷◌ e (ap₂ indices_from (ap suc e ∙ sym (add-one i)) (drop-drop (suc (i - from)) from R ∙ ap (λ (x : ℕ). drop x R) f))

  module _ (from : ℕ) (out : Option ℕ) (g : IsNext (set_of r) from out) where
    -- an index that was found: it is one of the fields, and the walk goes on behind it
    module _ (i : ℕ) (e : out ≡ Some i) where
      pub next_lt : i < length R
      next_lt = next-below (set_of r) from out g i e (length R) a.within

      pub next_yes : get_or R i false ≡ true
      next_yes = sym (contains-mask a i) ∙ (here (set_of r) from out g i e).1

      pub next-step : indices_at from R ≡ i ∷ indices_at (i + 1) R
      next-step = at_step from i (here (set_of r) from out g i e)

    -- none was found: the walk ends
    pub next-end : out ≡ None → indices_at from R ≡ []
    unfolding indices_at
    next-end e = none (drop from R) from (λ j. get_drop from j ∙ subst (IsNext (set_of r) from) e g (from + j) (omega arith))

  -- so there is one answer: the first place at or above `from` where the mask says yes
  pub next-mask : (from : ℕ) (out : Option ℕ) → IsNext (set_of r) from out → out ≡ head_next (indices_at from R)
  next-mask from (Some i) g = sym (ap head_next (next-step from (Some i) g i refl))
  next-mask from None g = sym (ap head_next (next-end from None g refl))

-- as many indices as the mask counts, and what they select of as many things as there are fields
pub indices_count : (R : Mask) → length (indices_at 0 R) ≡ count_m R
unfolding indices_at
indices_count R = indices_length 0 R

pub select_at : {A : Type 0} (d : A) {R : Mask} {xs : List A} → Fit R xs → select R xs ≡ map (λ i. get_or xs i d) (indices_at 0 R)
unfolding indices_at
select_at d f = select_indices d f
