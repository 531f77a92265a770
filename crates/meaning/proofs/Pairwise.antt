-- What holds of each two elements of a list still does of its parts, of the sorted list and of what the elements are mapped to.
use mathlib.Core.List.{List, map}
use mathlib.Core.Bool.{Bool, true, false, cond}
use mathlib.Core.Option.{Option, none, some}
use Prim.Native.Nat.{ℕ, zero, suc}
use lib.ListN.{take, drop}
use Rattle.cpl.specs.Lists.{All, a[], ◌a∷◌}
use Rattle.cpl.proofs.Lists.{All_map, All_mapped}
use Rattle.meaning.specs.Lists.{filter_b, page}
use Rattle.meaning.specs.Order.{insert, sort_by}
use Rattle.meaning.specs.Keyed.{Pairwise, p[], ◌p∷◌}
use Rattle.meaning.proofs.Wide.{All_filter, All_insert, All_sort, All_take}

module _ {A : Type 0} {P : A → A → Type 0} where
  pub Pairwise_map : {B : Type 0} {Q : B → B → Type 0} (f : A → B) → ((x y : A) → P x y → Q (f x) (f y)) → {xs : List A} → Pairwise P xs → Pairwise Q (map f xs)
  Pairwise_map f h p[] = p[]
  Pairwise_map f h (◌p∷◌ {x = x} k ks) = All_mapped f (λ y. h x y) k p∷ Pairwise_map f h ks

  pub Pairwise_sub : {Q : A → A → Type 0} → ((x y : A) → P x y → Q x y) → {xs : List A} → Pairwise P xs → Pairwise Q xs
  Pairwise_sub h p[] = p[]
  Pairwise_sub h (◌p∷◌ {x = x} k ks) = All_map (λ y. h x y) k p∷ Pairwise_sub h ks

  Pairwise_cond : (b : Bool) {xs ys : List A} → Pairwise P xs → Pairwise P ys → Pairwise P (cond b xs ys)
  Pairwise_cond true h k = h
  Pairwise_cond false h k = k

  pub Pairwise_filter : (q : A → Bool) {xs : List A} → Pairwise P xs → Pairwise P (filter_b q xs)
  unfolding filter_b
  Pairwise_filter q p[] = p[]
  Pairwise_filter q (◌p∷◌ {x = x} h hs) = Pairwise_cond (q x) (All_filter q h p∷ Pairwise_filter q hs) (Pairwise_filter q hs)

  Pairwise_take : (n : ℕ) {xs : List A} → Pairwise P xs → Pairwise P (take n xs)
  Pairwise_take zero h = p[]
  Pairwise_take (suc n) p[] = p[]
  Pairwise_take (suc n) (h p∷ hs) = All_take n h p∷ Pairwise_take n hs

  Pairwise_drop : (n : ℕ) {xs : List A} → Pairwise P xs → Pairwise P (drop n xs)
  Pairwise_drop zero h = h
  Pairwise_drop (suc n) p[] = p[]
  Pairwise_drop (suc n) (h p∷ hs) = Pairwise_drop n hs

  pub Pairwise_page : (s : ℕ) (n : Option ℕ) {xs : List A} → Pairwise P xs → Pairwise P (page s n xs)
  unfolding page
  Pairwise_page s none h = Pairwise_drop s h
  Pairwise_page s (some n) h = Pairwise_take n (Pairwise_drop s h)

  -- sorting changes which of two comes first
  module _ (flip : (x y : A) → P x y → P y x) (lt : A → A → Bool) where
    Pairwise_insert : (x : A) {ys : List A} → All (P x) ys → Pairwise P ys → Pairwise P (insert lt x ys)
    unfolding insert
    Pairwise_insert x a[] p[] = a[] p∷ p[]
    Pairwise_insert x (◌a∷◌ {x = y} k ks) (h p∷ hs) = Pairwise_cond (lt y x) (All_insert lt x (flip x y k) h p∷ Pairwise_insert x ks hs) ((k a∷ ks) p∷ (h p∷ hs))

    pub Pairwise_sort : {xs : List A} → Pairwise P xs → Pairwise P (sort_by lt xs)
    unfolding sort_by
    Pairwise_sort p[] = p[]
    Pairwise_sort (◌p∷◌ {x = x} h hs) = Pairwise_insert x (All_sort lt h) (Pairwise_sort hs)
