-- The order that keys give, and sorting by it.
use Rattle.std.specs.Prelude.{List, [], ◌∷◌, Bool, true, false, cond, not}
use Rattle.std.specs.Int.Signed.{lt_z}
use Rattle.cpl.specs.Plan.{Pair, Key, key}
use Rattle.meaning.specs.Value.{Val, missing, num, Row}
use Rattle.meaning.specs.Eval.{eval}

-- does u come strictly before v? "flags (1 descending, 2 missing first, sum to 3)": without 2 missings come last, also when descending
unfoldable pub before_value : (descending missing-first : Bool) → (u v : Val) → Bool
before_value d mf missing missing = false
before_value d mf missing (num z) = mf
before_value d mf (num y) missing = not mf
before_value d mf (num y) (num z) = cond d (lt_z z y) (lt_z y z)

-- does row r come strictly before row s? The first key that tells them apart decides.
unfoldable pub before : List Pair → List Key → (r s : Row) → Bool
before fs [] r s = false
before fs (key d mf e ∷ ks) r s =
    let u = eval fs r e in
    let v = eval fs s e in
    cond (before_value d mf u v) true (cond (before_value d mf v u) false (before fs ks r s))

-- "Sort is stable": x, which came before all of the sorted list, goes behind only those that come strictly before it
unfoldable pub insert : {A : Type 0} → (lt : A → A → Bool) → A → List A → List A
insert lt x [] = x ∷ []
insert lt x (y ∷ ys) = cond (lt y x) (y ∷ insert lt x ys) (x ∷ y ∷ ys)

unfoldable pub sort_by : {A : Type 0} → (lt : A → A → Bool) → List A → List A
sort_by lt [] = []
sort_by lt (x ∷ xs) = insert lt x (sort_by lt xs)
