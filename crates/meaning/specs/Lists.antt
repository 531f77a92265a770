-- Operations on lists of anything, which the operators on rows are made of.
use Rattle.std.specs.Prelude.{List, [], ◌∷◌, Bool, cond, not, ℕ, take, drop}
use Rattle.std.proofs.Math.Option.{Option, none, some}

-- those that pass, in their order
unfoldable pub filter_b : {A : Type 0} → (A → Bool) → List A → List A
filter_b p [] = []
filter_b p (x ∷ xs) = cond (p x) (x ∷ filter_b p xs) (filter_b p xs)

-- of equal ones the first: "keep first-appearance order"
unfoldable pub firsts : {A : Type 0} → (A → A → Bool) → List A → List A
firsts eq [] = []
firsts eq (x ∷ xs) = x ∷ filter_b (λ y. not (eq x y)) (firsts eq xs)

-- "Limit drops skip rows, then gives up to fetch."
unfoldable pub page : {A : Type 0} → (skip : ℕ) (fetch : Option ℕ) → List A → List A
page skip none xs = drop skip xs
page skip (some n) xs = take n (drop skip xs)

-- g of each element with those before it (the nearest first) and those after it; `pre` are those before the list
unfoldable pub around : {A B : Type 0} → (List A → A → List A → B) → (pre : List A) → List A → List B
around g pre [] = []
around g pre (x ∷ xs) = g pre x xs ∷ around g (x ∷ pre) xs

-- the list, or d alone where it is empty
unfoldable pub or_else : {A : Type 0} → List A → (d : A) → List A
or_else [] d = d ∷ []
or_else (x ∷ xs) d = x ∷ xs
