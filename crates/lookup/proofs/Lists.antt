-- Laws of lists that stand in an array, thing by thing. Assumes nothing.
use mathlib.Core.Path.{◌≡◌, refl, sym, ap, ap₂, ◌∙◌}
use mathlib.Core.Bool.{Bool, true, false, ◌||◌}
use mathlib.Core.List.{List, [], ◌∷◌, ◌++◌, map}
use Prim.Native.Nat.{ℕ, zero, suc, ◌+◌, ◌-◌, ◌<◌, ◌≤◌}
use native.Mathlib.Omega.{arith}
use lib.ListN.{length}
use Rattle.cpl.specs.Tests.{any_b}
use Rattle.tree.specs.Rows.{list_at, one}

module _ {A : Type 0} where
  pub list_length : (read : ℕ → A) (size : ℕ → ℕ) (f n : ℕ) → length (list_at read size f n) ≡ n
  unfolding list_at
  list_length read size f zero = refl
  list_length read size f (suc n) = ap suc (list_length read size (f + size f) n)

  -- the same things at the same places
  pub list_same : (read read' : ℕ → A) (f n : ℕ) → ((x : ℕ) → f ≤ x → x < f + n → read x ≡ read' x) → list_at read one f n ≡ list_at read' one f n
  unfolding list_at
  list_same read read' f zero h = refl
  list_same read read' f (suc n) h = ap₂ ◌∷◌ (h f (omega arith) (omega arith)) (list_same read read' (f + 1) n (λ x a b. h x (omega arith) (omega arith)))

  -- the same things from another place on
  pub list-moved : (read read' : ℕ → A) (f g n : ℕ) → ((i : ℕ) → i < n → read (f + i) ≡ read' (g + i)) → list_at read one f n ≡ list_at read' one g n
  unfolding list_at
  list-moved read read' f g zero h = refl
  list-moved read read' f g (suc n) h =
      let a : f ≡ f + 0 = omega arith in
      let b : g + 0 ≡ g = omega arith in
      let x : (i : ℕ) → f + 1 + i ≡ f + suc i = λ i. omega arith in
      let y : (i : ℕ) → g + suc i ≡ g + 1 + i = λ i. omega arith in
      ap₂ ◌∷◌ (ap read a ∙ h 0 (omega arith) ∙ ap read' b) (list-moved read read' (f + 1) (g + 1) n (λ i l. ap read (x i) ∙ h (suc i) (omega arith) ∙ ap read' (y i)))

  pub list-map : {B : Type 0} (g : A → B) (read : ℕ → A) (size : ℕ → ℕ) (f n : ℕ) → map g (list_at read size f n) ≡ list_at (λ i. g (read i)) size f n
  unfolding list_at
  list-map g read size f zero = refl
  list-map g read size f (suc n) = ap (g (read f) ∷◌) (list-map g read size (f + size f) n)

  pub list_append : (read : ℕ → A) (f n m : ℕ) → list_at read one f (n + m) ≡ list_at read one f n ++ list_at read one (f + n) m
  unfolding list_at
  list_append read f zero m =
      let e : zero + m ≡ m = omega arith in
      let g : f ≡ f + zero = omega arith in
      ap₂ (list_at read one) g e
  list_append read f (suc n) m =
      let e : suc n + m ≡ suc (n + m) = omega arith in
      let g : f + 1 + n ≡ f + suc n = omega arith in
      ap (list_at read one f) e ∙ ap (read f ∷◌) (list_append read (f + 1) n m ∙ ap (λ x. list_at read one (f + 1) n ++ list_at read one x m) g)

  -- a list from its thing i on
  abbrev pub rest : (read : ℕ → A) (first count i : ℕ) → List A
  rest read f n i = list_at read one (f + i) (n - i)

  module _ (read : ℕ → A) (f n : ℕ) where
    pub rest_all : list_at read one f n ≡ rest read f n 0
    rest_all =
        let g : f ≡ f + 0 = omega arith in
        let e : n ≡ n - 0 = omega arith in
        ap₂ (list_at read one) g e

    pub rest-next : (i : ℕ) → i < n → rest read f n i ≡ read (f + i) ∷ rest read f n (i + 1)
    unfolding list_at
    rest-next i h =
        let e : n - i ≡ suc (n - (i + 1)) = omega arith in
        let g : f + i + 1 ≡ f + (i + 1) = omega arith in
        ap (list_at read one (f + i)) e ∙ ap (λ x. read (f + i) ∷ list_at read one x (n - (i + 1))) g

    pub rest-none : (i : ℕ) → n ≤ i → rest read f n i ≡ []
    unfolding list_at
    rest-none i h = let e : n - i ≡ 0 = omega arith in ap (list_at read one (f + i)) e

-- what is asked of a list is what is asked of it from its thing i on
pub record Left {A B : Type 0} (F : List A → B) (read : ℕ → A) (f n i : ℕ) : Type 0 where
  pub upto : i ≤ n
  pub same : F (rest read f n i) ≡ F (list_at read one f n)

module _ {A B : Type 0} (F : List A → B) (read : ℕ → A) (f n : ℕ) where
  pub left-none : Left F read f n 0
  left-none = record { upto = omega arith; same = ap F (sym (rest_all read f n)) }

  pub left_at : (i : ℕ) → Left F read f n i → i < n → F (read (f + i) ∷ rest read f n (i + 1)) ≡ F (list_at read one f n)
  left_at i p h = ap F (sym (rest-next read f n i h)) ∙ p.same

  pub left-more : (i : ℕ) → Left F read f n i → i < n → F (rest read f n (i + 1)) ≡ F (read (f + i) ∷ rest read f n (i + 1)) → Left F read f n (i + 1)
  left-more i p h e = record { upto = omega arith; same = e ∙ left_at i p h }

  pub left-all : (i : ℕ) → Left F read f n i → n ≤ i → F [] ≡ F (list_at read one f n)
  left-all i p h = ap F (sym (rest-none read f n i h)) ∙ p.same

-- ── tests ───────────────────────────────────────────────────────────────────────────────────

-- none before thing i passes
abbrev pub Missed : {A : Type 0} → (A → Bool) → (read : ℕ → A) (f n i : ℕ) → Type 0
Missed p read f n i = Left (any_b p) read f n i

module _ {A : Type 0} (p : A → Bool) (read : ℕ → A) (f n i : ℕ) where
  pub missed_more : Missed p read f n i → i < n → false ≡ p (read (f + i)) → Missed p read f n (i + 1)
  unfolding any_b
  missed_more l h e = left-more (any_b p) read f n i l h (ap (◌|| any_b p (rest read f n (i + 1))) e)

  pub missed_hit : Missed p read f n i → i < n → true ≡ p (read (f + i)) → true ≡ any_b p (list_at read one f n)
  unfolding any_b
  missed_hit l h e = ap (◌|| any_b p (rest read f n (i + 1))) e ∙ left_at (any_b p) read f n i l h

  pub missed_all : Missed p read f n i → n ≤ i → false ≡ any_b p (list_at read one f n)
  unfolding any_b
  missed_all l h = left-all (any_b p) read f n i l h
