-- Clashes of a list that is put together from two. Assumes nothing.
use mathlib.Core.Path.{◌≡◌, refl, sym, ap, ap₂, ◌∙◌}
use mathlib.Core.Bool.{Bool, true, false, cond, not, ◌&&◌, ◌||◌}
use mathlib.Core.List.{List, [], ◌∷◌, ◌++◌}
use Prim.Native.Nat.{ℕ, zero, suc, ◌+◌, ◌-◌, ◌<◌}
use native.Mathlib.Omega.{arith}
use lib.Dec.{eqb, eqb-zero-suc, eqb-suc-zero, eqb-suc-suc}
use borrow.Author.Tests.{eqb-true, eq-eqb}
use Rattle.cpl.specs.Tests.{any_b}
use Rattle.cpl.specs.Plan.{Pair, pair, eq_p}
use Rattle.cpl.specs.Accept.{half_named, conflict, clash}
use Rattle.tree.specs.Rows.{list_at, one}
use Rattle.lookup.proofs.Lists.{list_append}
use Rattle.lookup.specs.Fields.{field_at, row_at}
use Rattle.lookup.proofs.Rows.{row_more}

eqb-sym : (a b : ℕ) → eqb a b ≡ eqb b a
eqb-sym zero zero = refl
eqb-sym zero (suc b) = eqb-zero-suc b ∙ sym (eqb-suc-zero b)
eqb-sym (suc a) zero = eqb-suc-zero a ∙ sym (eqb-zero-suc a)
eqb-sym (suc a) (suc b) = eqb-suc-suc a b ∙ eqb-sym a b ∙ sym (eqb-suc-suc b a)

-- one name, and one qualifier or none at one of the two
by_name : (n q z w : Bool) → (z ≡ true → w ≡ true → q ≡ true) → n && ((q || z) || w) ≡ (q && n) || (n && cond z (not w) w)
by_name false true z w h = refl
by_name false false z w h = refl
by_name true true z w h = refl
by_name true false true true h = sym (h refl refl)
by_name true false true false h = refl
by_name true false false w h = refl

pub conflict-is : (q n r m : ℕ) → eqb n m && ((eqb q r || eqb q 0) || eqb r 0) ≡ conflict (pair q n) (pair r m)
unfolding conflict eq_p half_named
conflict-is q n r m =
    by_name (eqb n m) (eqb q r) (eqb q 0) (eqb r 0) (λ e g. eq-eqb q r (eqb-true q 0 e ∙ sym (eqb-true r 0 g)))
    ∙ ap (◌|| (eqb n m && cond (eqb q 0) (not (eqb r 0)) (eqb r 0))) (ap₂ ◌&&◌ (eqb-sym q r) (eqb-sym n m))

distribute : (q n a b : Bool) → (q && n) || (n && (a || b)) ≡ n && ((q || a) || b)
distribute true true a b = refl
distribute true false a b = refl
distribute false true a b = refl
distribute false false a b = refl

-- in the words of the code
pub conflict_by : (q n r m : ℕ) → (eqb q r && eqb n m) || (eqb n m && (eqb q 0 || eqb r 0)) ≡ conflict (pair q n) (pair r m)
conflict_by q n r m = distribute (eqb q r) (eqb n m) (eqb q 0) (eqb r 0) ∙ conflict-is q n r m

pub conflict-sym : (f g : Pair) → conflict f g ≡ conflict g f
conflict-sym (pair q n) (pair r m) =
    sym (conflict-is q n r m) ∙ ap₂ ◌&&◌ (eqb-sym n m) (ap (λ b. (b || eqb q 0) || eqb r 0) (eqb-sym q r) ∙ swap (eqb r q) (eqb q 0) (eqb r 0)) ∙ conflict-is r m q n
  where
    swap : (a b c : Bool) → (a || b) || c ≡ (a || c) || b
    swap true b c = refl
    swap false true true = refl
    swap false true false = refl
    swap false false true = refl
    swap false false false = refl

-- ── two lists ───────────────────────────────────────────────────────────────────────────────

or_assoc : (a b c : Bool) → (a || b) || c ≡ a || (b || c)
or_assoc true b c = refl
or_assoc false b c = refl

any_append : {A : Type 0} (p : A → Bool) (xs ys : List A) → any_b p (xs ++ ys) ≡ any_b p xs || any_b p ys
unfolding any_b
any_append p [] ys = refl
any_append p (x ∷ xs) ys = ap (p x ||◌) (any_append p xs ys) ∙ sym (or_assoc (p x) (any_b p xs) (any_b p ys))

-- is a field of ys in conflict with one of xs?
unfoldable pub across : List Pair → List Pair → Bool
across xs ys = any_b (λ g. any_b (conflict g) xs) ys

any_same : {A : Type 0} (p q : A → Bool) → ((x : A) → p x ≡ q x) → (xs : List A) → any_b p xs ≡ any_b q xs
unfolding any_b
any_same p q h [] = refl
any_same p q h (x ∷ xs) = ap₂ ◌||◌ (h x) (any_same p q h xs)

four : (a b c d : Bool) → (a || b) || (c || d) ≡ (a || c) || (b || d)
four true b c d = refl
four false true true d = refl
four false true false d = refl
four false false c d = refl

any_or : {A : Type 0} (p q : A → Bool) (xs : List A) → any_b (λ x. p x || q x) xs ≡ any_b p xs || any_b q xs
unfolding any_b
any_or p q [] = refl
any_or p q (x ∷ xs) = ap ((p x || q x) ||◌) (any_or p q xs) ∙ four (p x) (q x) (any_b p xs) (any_b q xs)

five : (a b c d e : Bool) → (a || b) || ((c || d) || e) ≡ ((a || c) || d) || (b || e)
five true b c d e = refl
five false true true d e = refl
five false true false true e = refl
five false true false false e = refl
five false false c d e = refl

pub clash_append : (xs ys : List Pair) → clash (xs ++ ys) ≡ (clash xs || clash ys) || across xs ys
unfolding clash any_b across
clash_append [] ys = go (clash ys) (none ys)
  where
    none : (zs : List Pair) → false ≡ any_b (λ g. false) zs
    none [] = refl
    none (z ∷ zs) = none zs

    go : (b : Bool) → false ≡ any_b (λ g. any_b (conflict g) []) ys → b ≡ b || any_b (λ g. any_b (conflict g) []) ys
    go true e = refl
    go false e = e
clash_append (x ∷ xs) ys =
    ap₂ ◌||◌ (any_append (conflict x) xs ys) (clash_append xs ys)
    ∙ five (any_b (conflict x) xs) (any_b (conflict x) ys) (clash xs) (clash ys) (across xs ys)
    ∙ ap (((any_b (conflict x) xs || clash xs) || clash ys) ||◌)
    (ap (◌|| across xs ys) (any_same _ _ (λ g. conflict-sym x g) ys) ∙ sym (any_or (λ g. conflict g x) (λ g. any_b (conflict g) xs) ys))

-- ── a row, field by field ───────────────────────────────────────────────────────────────────

or_false : (c : Bool) → c || false ≡ c
or_false true = refl
or_false false = refl

-- a test of a row's fields, one field more
pub any-row-none : (p : Pair → Bool) (s : List ℕ) (k : ℕ) → false ≡ any_b p (row_at s k 0)
unfolding any_b list_at
any-row-none p s k = refl

pub any-row-more : (p : Pair → Bool) (s : List ℕ) (k i : ℕ) → any_b p (row_at s k i) || p (field_at s (k + i)) ≡ any_b p (row_at s k (i + 1))
unfolding any_b
any-row-more p s k i = sym (ap (any_b p) (row_more s k i) ∙ any_append p (row_at s k i) _ ∙ ap (any_b p (row_at s k i) ||◌) (or_false (p (field_at s (k + i)))))

module _ (s : List ℕ) (k w i : ℕ) where
  one_more : (b : Bool) → b ≡ any_b (conflict (field_at s (k + i))) (row_at s k i) → clash (row_at s k i) ≡ false → clash (row_at s k (i + 1)) ≡ b
  unfolding clash any_b across
  one_more b e h =
      ap clash (row_more s k i) ∙ clash_append (row_at s k i) _ ∙ ap (λ c. (c || false) || (any_b (conflict (field_at s (k + i))) (row_at s k i) || false)) h ∙ or_false _ ∙ sym e

  pub clear-more : false ≡ any_b (conflict (field_at s (k + i))) (row_at s k i) → clash (row_at s k i) ≡ false → clash (row_at s k (i + 1)) ≡ false
  clear-more e h = one_more false e h

  pub clash_hit : true ≡ any_b (conflict (field_at s (k + i))) (row_at s k i) → clash (row_at s k i) ≡ false → i < w → true ≡ clash (row_at s k w)
  clash_hit e h l =
      let d : w ≡ i + 1 + (w - (i + 1)) = omega arith in
      let left = list_at (field_at s) one (k + (i + 1)) (w - (i + 1)) in
      sym (ap (λ n. clash (row_at s k n)) d ∙ ap clash (list_append (field_at s) k (i + 1) (w - (i + 1))) ∙ clash_append (row_at s k (i + 1)) left
      ∙ ap (λ c. (c || clash left) || across (row_at s k (i + 1)) left) (one_more true e h))

-- two lists, neither of which clashes
pub sides_clear : (xs ys : List Pair) → clash xs ≡ false → clash ys ≡ false → across xs ys ≡ clash (xs ++ ys)
sides_clear xs ys a b = sym (clash_append xs ys ∙ ap₂ (λ c d. (c || d) || across xs ys) a b)
