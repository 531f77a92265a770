-- A request to which columns are added, one list or one reference after the other: what code that builds requests goes by.
use mathlib.Core.Path.{◌≡◌, refl, sym, ◌∙◌, ap, ap₂}
use mathlib.Core.List.{List, [], ◌∷◌, ◌++◌, append_assoc, append-nil}
use mathlib.Core.Bool.{false, ◌||◌}
use mathlib.Core.Option.{none, some}
use Prim.Native.Nat.{ℕ}
use lib.ListN.{length}
use Rattle.cpl.specs.Tests.{any_b, concat_map, iota}
use Rattle.cpl.specs.Lists.{All, a[], ◌a∷◌, z[], ◌z∷◌, Fit}
use Rattle.cpl.specs.Plan.{Pair, Op1, Op2, Expr, col, un, bin}
use Rattle.cpl.specs.Exprs.{find, found, places}
use Rattle.cpl.proofs.Lists.{All_mapped, always, Fit_trans, Fit-sym}
use Rattle.cpl.proofs.Bools.{or_false, or_assoc}
use Rattle.rules.specs.Mask.{Mask, or_m}
use Rattle.rules.specs.Request.{mask_of}
use Rattle.rules.specs.Rules.{used, plus}
use Rattle.rules.proofs.Requests.{mask_++}
use Rattle.rules.proofs.Asked.{used-fit}

-- ── masks ───────────────────────────────────────────────────────────────────────────────────

or_nothing : {R M : Mask} → Fit R M → All (λ b. b ≡ false) M → or_m R M ≡ R
unfolding or_m
or_nothing z[] a[] = refl
or_nothing (◌z∷◌ {x = r} _ fs) (h a∷ hs) = ap₂ ◌∷◌ (ap (r ||◌) h ∙ or_false r) (or_nothing fs hs)

or_twice : (R M N : Mask) → or_m (or_m R M) N ≡ or_m R (or_m M N)
unfolding or_m
or_twice [] M N = refl
or_twice (r ∷ R) [] N = refl
or_twice (r ∷ R) (m ∷ M) [] = refl
or_twice (r ∷ R) (m ∷ M) (n ∷ N) = ap₂ ◌∷◌ (or_assoc r m n) (or_twice R M N)

no_index : (fs : List Pair) → All (λ b. b ≡ false) (mask_of (length fs) [])
unfolding mask_of any_b
no_index fs = All_mapped _ {xs = iota 0 (length fs)} (λ i u. refl) (always {P = λ i. Unit {0}} (λ i. tt) (iota 0 (length fs)))

concat_++ : {A B : Type 0} (f : A → List B) (xs ys : List A) → concat_map f (xs ++ ys) ≡ concat_map f xs ++ concat_map f ys
unfolding concat_map
concat_++ f [] ys = refl
concat_++ f (x ∷ xs) ys = ap (f x ++◌) (concat_++ f xs ys) ∙ sym (append_assoc (f x) (concat_map f xs) (concat_map f ys))

-- ── one list after the other ────────────────────────────────────────────────────────────────

pub used_++ : (ds es : List Expr) (fs : List Pair) → used (ds ++ es) fs ≡ or_m (used ds fs) (used es fs)
unfolding used
used_++ ds es fs = ap (mask_of (length fs)) (concat_++ (places fs) ds es) ∙ mask_++ (length fs) (concat_map (places fs) ds) (concat_map (places fs) es)

pub plus_then : (ds es : List Expr) (fs : List Pair) (R : Mask) → plus es fs (plus ds fs R) ≡ plus (ds ++ es) fs R
unfolding plus
plus_then ds es fs R = or_twice R (used ds fs) (used es fs) ∙ ap (or_m R) (sym (used_++ ds es fs))

pub plus_none : {fs : List Pair} {R : Mask} → Fit R fs → plus [] fs R ≡ R
unfolding plus used concat_map
plus_none {fs} f = or_nothing (Fit_trans f (Fit-sym (used-fit [] fs))) (no_index fs)

-- ── one expression ──────────────────────────────────────────────────────────────────────────

-- a reference: the place that it finds
module _ (c : Pair) (fs : List Pair) (R : Mask) where
  pub plus-found : (i : ℕ) → find c fs ≡ some i → plus (col c ∷ []) fs R ≡ or_m R (mask_of (length fs) (i ∷ []))
  unfolding plus used concat_map places found
  plus-found i e = ap (λ o. or_m R (mask_of (length fs) (found o ++ []))) e

  pub plus_absent : Fit R fs → find c fs ≡ none → plus (col c ∷ []) fs R ≡ R
  unfolding plus used concat_map places found
  plus_absent f e = ap (λ o. or_m R (mask_of (length fs) (found o ++ []))) e ∙ plus_none f

-- an operator with one operand or two
pub plus-un : (o : Op1) (a : Expr) (fs : List Pair) (R : Mask) → plus (un o a ∷ []) fs R ≡ plus (a ∷ []) fs R
unfolding plus used concat_map places
plus-un o a fs R = refl

pub plus-bin : (o : Op2) (a b : Expr) (fs : List Pair) (R : Mask) → plus (bin o a b ∷ []) fs R ≡ plus (b ∷ []) fs (plus (a ∷ []) fs R)
unfolding plus used concat_map places
plus-bin o a b fs R = ap (λ is. or_m R (mask_of (length fs) is)) (append-nil (places fs a ++ places fs b) ∙ ap₂ ◌++◌ (sym (append-nil (places fs a))) (sym (append-nil (places fs b)))
    ∙ sym (concat_++ (places fs) (a ∷ []) (b ∷ []))) ∙ sym (plus_then (a ∷ []) (b ∷ []) fs R)
