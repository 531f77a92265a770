-- Yes-or-no tests over lists, which the rest of the specification is written with.
use Rattle.std.specs.Prelude.{List, [], ◌∷◌, ◌++◌, Bool, true, false, ◌&&◌, ◌||◌, ℕ, zero, suc, ◌+◌}

-- does some element pass? do all?
unfoldable pub any_b : {A : Type 0} → (A → Bool) → List A → Bool
any_b p [] = false
any_b p (x ∷ xs) = p x || any_b p xs

unfoldable pub all_b : {A : Type 0} → (A → Bool) → List A → Bool
all_b p [] = true
all_b p (x ∷ xs) = p x && all_b p xs

unfoldable pub concat_map : {A B : Type 0} → (A → List B) → List A → List B
concat_map f [] = []
concat_map f (x ∷ xs) = f x ++ concat_map f xs

unfoldable pub sum_of : {A : Type 0} → (A → ℕ) → List A → ℕ
sum_of f [] = 0
sum_of f (x ∷ xs) = f x + sum_of f xs

-- from, from + 1, … : n of them
unfoldable pub iota : ℕ → ℕ → List ℕ
iota from zero = []
iota from (suc n) = from ∷ iota (suc from) n
