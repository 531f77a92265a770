-- What holds of each element of a list, and of two lists place by place.
use Rattle.std.specs.Prelude.{List, [], ◌∷◌}

pub data All {A : Type 0} (P : A → Type 0) : List A → Type 0 where
  a[] : All P []
  ◌a∷◌ : {x : A} {xs : List A} → P x → All P xs → All P (x ∷ xs)

pub data All2 {A B : Type 0} (Q : A → B → Type 0) : List A → List B → Type 0 where
  z[] : All2 Q [] []
  ◌z∷◌ : {x : A} {y : B} {xs : List A} {ys : List B} → Q x y → All2 Q xs ys → All2 Q (x ∷ xs) (y ∷ ys)

-- what holds of each element with those before it; `before` are those before the list, the last of them first
pub data AllAfter {A : Type 0} (P : List A → A → Type 0) : (before xs : List A) → Type 0 where
  b[] : {before : List A} → AllAfter P before []
  ◌b∷◌ : {before : List A} {x : A} {xs : List A} → P before x → AllAfter P (x ∷ before) xs → AllAfter P before (x ∷ xs)

infixr 30 ◌a∷◌ ◌z∷◌ ◌b∷◌
-- equally long
abbrev pub Fit : {A B : Type 0} → List A → List B → Type 0
Fit {A} {B} xs ys = All2 {A = A} {B = B} (λ x y. Unit {0}) xs ys
