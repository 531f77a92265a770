-- The fields that fit a reference, place by place: the first of them, and how many. Assumes nothing.
use mathlib.Core.Path.{◌≡◌, refl, sym, ap, ap₂, subst, subst⁻¹, ◌∙◌}
use mathlib.Core.Bool.{Bool, true, false, cond, not, ◌&&◌, ◌||◌, true≢false}
use mathlib.Core.List.{List, ◌∷◌}
use mathlib.Core.Option.{Option, none, some, some-injective}
use Prim.Native.Nat.{ℕ, zero, suc, ◌+◌, ◌-◌, ◌<◌, ◌≤◌}
use native.Mathlib.Omega.{arith}
use lib.Dec.{T, eqb, eqb→eq, leb}
use borrow.Author.Tests.{eqb-true, leb-true, leb-false, le-leb, lt-leb, ltb-true, ltb-false}
use Rattle.std.specs.Prelude.{Some, None, is_some}
use Rattle.std.specs.Prelude
use Rattle.cpl.specs.Lists.{All, ◌a∷◌}
use Rattle.cpl.specs.Plan.{Pair, pair}
use Rattle.cpl.specs.Exprs.{fits, next, find, present, fitting}
use Rattle.cpl.proofs.Bools.{halves}
use Rattle.cpl.proofs.Clash.{clear}
use Rattle.cpl.proofs.Lookup.{fits-is, find_none, find-here, find_past, fitting-here, fitting-past, find-fitting, own-fits}
use Rattle.tree.specs.Rows.{list_at, one}
use Rattle.lookup.specs.Answers.{lookup_of, place_of}
use Rattle.lookup.specs.Fields.{field_at, row_at, RowClear}
use Rattle.lookup.specs.declared.Lookup.{Lookup}
use Rattle.lookup.specs.declared.Lookup.TheVariants.{Found, Absent, Ambiguous}
use Rattle.lookup.proofs.Lists.{rest, rest_all, rest-next, rest-none}

-- ── the first that fits ─────────────────────────────────────────────────────────────────────

-- a place that is counted from thing i on
later : ℕ → Option ℕ → Option ℕ
later i none = none
later i (some j) = some (i + j)

later_next : (i : ℕ) (o : Option ℕ) → later i (next o) ≡ later (i + 1) o
unfolding later next
later_next i none = refl
later_next i (some j) = ap some (omega arith)

later_zero : (o : Option ℕ) → later 0 o ≡ o
unfolding later
later_zero none = refl
later_zero (some j) = ap some (omega arith)

-- none of the first i fits
pub record Sought (c : Pair) (read : ℕ → Pair) (f n i : ℕ) : Type 0 where
  upto : i ≤ n
  same : find c (list_at read one f n) ≡ later i (find c (rest read f n i))

module _ (c : Pair) (read : ℕ → Pair) (f n : ℕ) where
  pub sought_none : Sought c read f n 0
  sought_none = record { upto = omega arith; same = ap (find c) (rest_all read f n) ∙ sym (later_zero _) }

  at_next : (i : ℕ) → Sought c read f n i → i < n → find c (list_at read one f n) ≡ later i (find c (read (f + i) ∷ rest read f n (i + 1)))
  at_next i p h = p.same ∙ ap (λ xs. later i (find c xs)) (rest-next read f n i h)

  pub sought_more : (i : ℕ) → Sought c read f n i → i < n → fits c (read (f + i)) ≡ false → Sought c read f n (i + 1)
  sought_more i p h e = record { upto = omega arith; same = at_next i p h ∙ ap (later i) (find_past c (read (f + i)) (rest read f n (i + 1)) e) ∙ later_next i _ }

  pub sought_found : (i : ℕ) → Sought c read f n i → i < n → fits c (read (f + i)) ≡ true → some i ≡ find c (list_at read one f n)
  unfolding later
  sought_found i p h e =
      let z : i ≡ i + 0 = omega arith in
      ap some z ∙ sym (at_next i p h ∙ ap (later i) (find-here c (read (f + i)) (rest read f n (i + 1)) e))

  pub sought_all : (i : ℕ) → Sought c read f n i → n ≤ i → none ≡ find c (list_at read one f n)
  unfolding later
  sought_all i p h = sym (p.same ∙ ap (λ xs. later i (find c xs)) (rest-none read f n i h) ∙ ap (later i) (find_none c))

-- ── how many fit ────────────────────────────────────────────────────────────────────────────

pub fitting_no : (c : Pair) (fs : List Pair) → none ≡ find c fs → fitting c fs ≡ 0
unfolding present
fitting_no c fs e = let l = ltb-false 0 (fitting c fs) (sym (find-fitting c fs) ∙ ap present (sym e)) in omega (arith, l)

pub fitting-some : (c : Pair) (fs : List Pair) {i : ℕ} → some i ≡ find c fs → 0 < fitting c fs
unfolding present
fitting-some c fs e = ltb-true 0 (fitting c fs) (sym (find-fitting c fs) ∙ ap present (sym e))

-- place i is the first that fits: what else fits comes later
pub record Hit (c : Pair) (read : ℕ → Pair) (f n i : ℕ) : Type 0 where
  pub below : i < n
  pub fit : fits c (read (f + i)) ≡ true
  pub more : fitting c (list_at read one f n) ≡ suc (fitting c (rest read f n (i + 1)))

next-some : {A : Type 0} (o : Option ℕ) (i : ℕ) → ((j : ℕ) → o ≡ some j → suc j ≡ i → A) → next o ≡ some i → A
unfolding next
next-some none i g e = absurd (let z : true ≡ false = cc in true≢false z)
next-some (some j) i g e = g j refl (some-injective _ _ e)

module _ (c : Pair) (read : ℕ → Pair) where
  hit_here : (f n i : ℕ) → 0 ≡ i → fits c (read f) ≡ true → Hit c read f (suc n) i
  unfolding list_at
  hit_here f n i z t =
      let a : f ≡ f + i = omega arith in
      let b : f + 1 ≡ f + (i + 1) = omega arith in
      let d : n ≡ suc n - (i + 1) = omega arith in
      record { below = omega arith; fit = ap (λ x. fits c (read x)) (sym a) ∙ t; more = fitting-here c (read f) (list_at read one (f + 1) n) t ∙ ap₂ (λ x y. suc (fitting c (list_at read one x y))) b d }

  hit_past : (f n i j : ℕ) → suc j ≡ i → fits c (read f) ≡ false → Hit c read (f + 1) n j → Hit c read f (suc n) i
  unfolding list_at
  hit_past f n i j z t h =
      let a : f + 1 + j ≡ f + i = omega arith in
      let b : f + 1 + (j + 1) ≡ f + (i + 1) = omega arith in
      let d : n - (j + 1) ≡ suc n - (i + 1) = omega arith in
      record { below = omega (arith, h.below); fit = ap (λ x. fits c (read x)) (sym a) ∙ h.fit; more = fitting-past c (read f) (list_at read one (f + 1) n) t ∙ h.more ∙ ap₂ (λ x y. suc (fitting c (list_at read one x y))) b d }

  pub hit : (f n i : ℕ) → some i ≡ find c (list_at read one f n) → Hit c read f n i
  unfolding list_at
  hit f zero i e = absurd (let z = find_none c in let y : true ≡ false = cc in true≢false y)
  hit f (suc n) i e = go (fits c (read f)) refl (hit (f + 1) n)
    where
      go : (b : Bool) → fits c (read f) ≡ b → ((j : ℕ) → some j ≡ find c (list_at read one (f + 1) n) → Hit c read (f + 1) n j) → Hit c read f (suc n) i
      go true t r = hit_here f n i (some-injective _ _ (sym (find-here c (read f) (list_at read one (f + 1) n) t) ∙ sym e)) t
      go false t r = next-some (find c (list_at read one (f + 1) n)) i (λ j o z. hit_past f n i j z t (r j (sym o))) (sym (find_past c (read f) (list_at read one (f + 1) n) t) ∙ sym e)

-- ── a row that does not clash ───────────────────────────────────────────────────────────────

all_at : {A : Type 0} {P : A → Type 0} (read : ℕ → A) (f n i : ℕ) → All P (list_at read one f n) → i < n → P (read (f + i))
unfolding list_at
all_at read f zero i h l = absurd (omega (arith, l))
all_at {P = P} read f (suc n) zero (h a∷ hs) l = let e : f ≡ f + 0 = omega arith in subst (λ x. P (read x)) e h
all_at {P = P} read f (suc n) (suc i) (h a∷ hs) l = let e : f + 1 + i ≡ f + suc i = omega arith in subst (λ x. P (read x)) e (all_at read (f + 1) n i hs (omega arith))

both : (a b : Bool) → a && b ≡ true → (a ≡ true) × (b ≡ true)
both true true e = (refl, refl)
both true false e = absurd (true≢false (sym e))
both false b e = absurd (true≢false (sym e))

-- what fits and has the reference's qualifier is its own pair
own_pair : (q n r m : ℕ) → fits (pair q n) (pair r m) ≡ true → r ≡ q → pair r m ≡ pair q n
own_pair q n r m t e = ap₂ pair e (sym (eqb→eq n m (halves (eqb n m) (eqb q 0 || eqb q r) (subst T (fits-is q n r m) (subst⁻¹ T t tt))).0))

-- ── the answer ──────────────────────────────────────────────────────────────────────────────

module _ (c : Pair) (fs : List Pair) where
  pub answer_absent : none ≡ find c fs → Absent ≡ lookup_of (find c fs) (fitting c fs)
  answer_absent e = ap (λ o. lookup_of o (fitting c fs)) e

  pub answer-found : {i : ℕ} → some i ≡ find c fs → fitting c fs ≡ 1 → Found i ≡ lookup_of (find c fs) (fitting c fs)
  answer-found {i} e n = sym (ap (λ b. cond b (Found i) Ambiguous) (le-leb (fitting c fs) 1 (omega (arith, n)))) ∙ ap (λ o. lookup_of o (fitting c fs)) e

  pub answer_ambiguous : {i : ℕ} → some i ≡ find c fs → 1 < fitting c fs → Ambiguous ≡ lookup_of (find c fs) (fitting c fs)
  answer_ambiguous {i} e l = sym (ap (λ b. cond b (Found i) Ambiguous) (lt-leb (fitting c fs) 1 l)) ∙ ap (λ o. lookup_of o (fitting c fs)) e

-- how many fit, by the answer
Many : Lookup → ℕ → Type 0
Many (Found i) n = n ≡ 1
Many Absent n = n ≡ 0
Many Ambiguous n = 1 < n

many_some : (i n : ℕ) → 0 < n → Many (lookup_of (some i) n) n
unfolding Many
many_some i n l = go (leb n 1) refl
  where
    go : (b : Bool) → leb n 1 ≡ b → Many (cond b (Found i) Ambiguous) n
    go true e = omega (arith, leb-true n 1 e, l)
    go false e = leb-false n 1 e

module _ (c : Pair) (fs : List Pair) where
  many : {r : Lookup} → r ≡ lookup_of (find c fs) (fitting c fs) → Many r (fitting c fs)
  unfolding Many
  many e = subst (λ r. Many r (fitting c fs)) (sym e) (go (find c fs) refl)
    where
      go : (o : Option ℕ) → o ≡ find c fs → Many (lookup_of o (fitting c fs)) (fitting c fs)
      go none h = fitting_no c fs h
      go (some i) h = many_some i (fitting c fs) (fitting-some c fs h)

  pub one-fits : {i : ℕ} → Found i ≡ lookup_of (find c fs) (fitting c fs) → fitting c fs ≡ 1
  unfolding Many
  one-fits e = many e

  pub no_fits : Absent ≡ lookup_of (find c fs) (fitting c fs) → fitting c fs ≡ 0
  unfolding Many
  no_fits e = many e

  pub more-fit : Ambiguous ≡ lookup_of (find c fs) (fitting c fs) → 1 < fitting c fs
  unfolding Many
  more-fit e = many e

none_of : (p : Prelude.Option ℕ) → is_some p ≡ false → none ≡ place_of p
none_of (Some i) e = absurd (true≢false e)
none_of None e = refl

place-some : (p : Prelude.Option ℕ) → is_some p ≡ true → (i : ℕ) × (some i ≡ place_of p)
place-some (Some i) e = (i, refl)
place-some None e = absurd (true≢false (sym e))

-- ── a row of fields ────────────────────────────────────────────────────────────────────

module _ (s : List ℕ) (k width q n : ℕ) {said : Bool} (o : RowClear s k width said) {i : ℕ} (e : some i ≡ find (pair q n) (row_at s k width)) where
  -- its own pair, among fields that do not clash: no second field fits
  pub found-own : {r m : ℕ} → pair r m ≡ field_at s (k + i) → said && eqb r q ≡ true → Found i ≡ lookup_of (find (pair q n) (row_at s k width)) (fitting (pair q n) (row_at s k width))
  found-own {r} {m} f h =
      let t = hit (pair q n) (field_at s) k width i e in
      let b = both said (eqb r q) h in
      let p = sym f ∙ own_pair q n r m (ap (fits (pair q n)) f ∙ t.fit) (eqb-true r q b.1) in
      answer-found (pair q n) (row_at s k width) e
      (subst (λ x. fitting x (row_at s k width) ≡ 1) p (all_at (field_at s) k width i (own-fits (clear (row_at s k width) (subst⁻¹ (λ b. T (not b)) (o.clear b.0) tt))) t.below))

  -- whether a field behind it fits
  module _ (p : Prelude.Option ℕ) (z : place_of p ≡ find (pair q n) (rest (field_at s) k width (i + 1))) where
    pub found-one : is_some p ≡ false → Found i ≡ lookup_of (find (pair q n) (row_at s k width)) (fitting (pair q n) (row_at s k width))
    found-one h = answer-found (pair q n) (row_at s k width) e ((hit (pair q n) (field_at s) k width i e).more ∙ ap suc (fitting_no (pair q n) (rest (field_at s) k width (i + 1)) (none_of p h ∙ z)))

    pub found-more : is_some p ≡ true → Ambiguous ≡ lookup_of (find (pair q n) (row_at s k width)) (fitting (pair q n) (row_at s k width))
    found-more h = answer_ambiguous (pair q n) (row_at s k width) e (omega (arith, (hit (pair q n) (field_at s) k width i e).more, fitting-some (pair q n) (rest (field_at s) k width (i + 1)) ((place-some p h).1 ∙ z)))
