-- What the references of expressions find, put together from parts. Assumes nothing.
use mathlib.Core.Path.{◌≡◌, refl, sym, ap, ap₂, ◌∙◌}
use mathlib.Core.Bool.{Bool, true, false, ◌&&◌}
use mathlib.Core.List.{List, [], ◌∷◌, ◌++◌}
use Prim.Native.Nat.{ℕ, ◌+◌, ◌<◌}
use native.Mathlib.Omega.{arith}
use lib.Dec.{leb, ltb}
use lib.IntN.{ℤ}
use borrow.Author.Tests.{lt-leb, lt-ltb}
use Rattle.std.specs.Prelude.{Ok, Err}
use Rattle.cpl.specs.Accept.{Test}
use Rattle.cpl.specs.Exprs.{find, fitting, known, definite}
use Rattle.cpl.specs.Plan.{Pair, Op1, Op2, Expr, col, lit, miss, un, bin}
use Rattle.cpl.specs.Tests.{all_b}
use Rattle.cpl.proofs.Lookup.{find-fitting, fitting_++}
use Rattle.lookup.specs.Answers.{Resolved, lookup_of, resolved_of, resolving, worse}
use Rattle.lookup.specs.declared.Lookup.{Lookup}
use Rattle.lookup.specs.declared.Lookup.TheVariants.{Found, Absent, Ambiguous}
use Rattle.lookup.specs.declared.Unresolved.TheVariants as Unresolved
use Rattle.lookup.specs.declared.Unresolved.TheVariants.{Unknown}
use Rattle.lookup.proofs.Fits.{more-fit, no_fits, one-fits}

-- ── two answers ─────────────────────────────────────────────────────────────────────────────

worse_of : (a d b e : Bool) → worse (resolved_of a d) (resolved_of b e) ≡ resolved_of (a && b) (d && e)
worse_of true true b e = refl
worse_of true false true true = refl
worse_of true false true false = refl
worse_of true false false e = refl
worse_of false d b e = refl

-- of what passes where both do
pub worse-both : (p q : Test → Bool) → worse (resolving p) (resolving q) ≡ resolving (λ test. p test && q test)
worse-both p q = worse_of (p known) (p definite) (q known) (q definite)

pub worse-fine : (r : Resolved) → worse r (Ok tt) ≡ r
worse-fine (Ok u) = refl
worse-fine (Err Unknown) = refl
worse-fine (Err Unresolved.Ambiguous) = refl

pub worse_assoc : (a b c : Resolved) → worse (worse a b) c ≡ worse a (worse b c)
worse_assoc (Ok u) b c = refl
worse_assoc (Err Unknown) b c = refl
worse_assoc (Err Unresolved.Ambiguous) (Ok u) c = refl
worse_assoc (Err Unresolved.Ambiguous) (Err Unknown) c = refl
worse_assoc (Err Unresolved.Ambiguous) (Err Unresolved.Ambiguous) (Ok u) = refl
worse_assoc (Err Unresolved.Ambiguous) (Err Unresolved.Ambiguous) (Err e) = refl

-- ── a reference over two sides ──────────────────────────────────────────────────────────────

abbrev pub together : (left right : Lookup) → Resolved
together Ambiguous r = Err Unresolved.Ambiguous
together Absent Ambiguous = Err Unresolved.Ambiguous
together Absent Absent = Err Unknown
together Absent (Found j) = Ok tt
together (Found i) Ambiguous = Err Unresolved.Ambiguous
together (Found i) Absent = Ok tt
together (Found i) (Found j) = Err Unresolved.Ambiguous

module _ (c : Pair) (xs ys : List Pair) where
  abbrev pub column : Resolved
  column = resolving (λ test. test (xs ++ ys) (col c))

  by_count : (n : ℕ) → fitting c xs + fitting c ys ≡ n → resolved_of (ltb 0 n) (leb n 1) ≡ column
  unfolding known definite
  by_count n e = let h = sym e ∙ sym (fitting_++ c xs ys) in ap₂ resolved_of (ap (ltb 0) h ∙ sym (find-fitting c (xs ++ ys))) (ap (λ x. leb x 1) h)

  more : 1 < fitting c xs + fitting c ys → Err Unresolved.Ambiguous ≡ column
  more l =
      let n = fitting c xs + fitting c ys in
      sym (ap₂ resolved_of (lt-ltb 0 n (omega (arith, l))) (lt-leb n 1 l)) ∙ by_count n refl

  -- what the sides find is what both find together
  pub column_is : (l r : Lookup) → l ≡ lookup_of (find c xs) (fitting c xs) → r ≡ lookup_of (find c ys) (fitting c ys) → together l r ≡ column
  column_is Ambiguous r p q = more (omega (arith, more-fit c xs p))
  column_is Absent Ambiguous p q = more (omega (arith, more-fit c ys q))
  column_is Absent Absent p q = by_count 0 (omega (arith, no_fits c xs p, no_fits c ys q))
  column_is Absent (Found j) p q = by_count 1 (omega (arith, no_fits c xs p, one-fits c ys q))
  column_is (Found i) Ambiguous p q = more (omega (arith, more-fit c ys q))
  column_is (Found i) Absent p q = by_count 1 (omega (arith, one-fits c xs p, no_fits c ys q))
  column_is (Found i) (Found j) p q = more (omega (arith, one-fits c xs p, one-fits c ys q))

  -- the left side finds a field, and the right side something
  pub found_more : {i : ℕ} (r : Lookup) → (r ≡ Absent → ⊥) → Found i ≡ lookup_of (find c xs) (fitting c xs) → r ≡ lookup_of (find c ys) (fitting c ys) → Err Unresolved.Ambiguous ≡ column
  found_more {i} (Found j) a p q = column_is (Found i) (Found j) p q
  found_more Absent a p q = absurd (a refl)
  found_more {i} Ambiguous a p q = column_is (Found i) Ambiguous p q

-- ── expressions ─────────────────────────────────────────────────────────────────────────────

module _ (fs : List Pair) where
  abbrev pub seen : Expr → Resolved
  seen e = resolving (λ test. test fs e)

  pub seen_is : {e x : Expr} {r : Resolved} → e ≡ x → r ≡ seen x → r ≡ seen e
  seen_is v p = p ∙ sym (ap seen v)

  pub seen_lit : {e : Expr} {z : ℤ} → e ≡ lit z → Ok tt ≡ seen e
  unfolding known definite
  seen_lit v = sym (ap seen v)

  pub seen_miss : {e : Expr} → e ≡ miss → Ok tt ≡ seen e
  unfolding known definite
  seen_miss v = sym (ap seen v)

  pub seen_un : {e x : Expr} {o : Op1} {r : Resolved} → e ≡ un o x → r ≡ seen x → r ≡ seen e
  unfolding known definite
  seen_un v p = p ∙ sym (ap seen v)

  pub seen_bin : {e x y : Expr} {o : Op2} {a b r : Resolved} → e ≡ bin o x y → a ≡ seen x → b ≡ seen y → r ≡ worse a b → r ≡ seen e
  unfolding known definite
  seen_bin {x = x} {y = y} v p q w = w ∙ ap₂ worse p q ∙ worse-both (λ test. test fs x) (λ test. test fs y) ∙ sym (ap seen v)

-- ── lists ───────────────────────────────────────────────────────────────────────────────────

-- what things of a list find, each by its own tests
abbrev pub Tests : Type 0 → Type 0
Tests A = A → Test → Bool

module _ {A : Type 0} (F : Tests A) where
  abbrev pub all_seen : List A → Resolved
  all_seen xs = resolving (λ test. all_b (λ x. F x test) xs)

  pub seen_none : all_seen [] ≡ Ok tt
  unfolding all_b
  seen_none = refl

  pub seen_next : (x : A) (xs : List A) → all_seen (x ∷ xs) ≡ worse (resolving (F x)) (all_seen xs)
  unfolding all_b
  seen_next x xs = sym (worse-both (F x) (λ test. all_b (λ y. F y test) xs))
