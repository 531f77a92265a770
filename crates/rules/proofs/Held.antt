-- When a merge stops, said of the lower list's items: the references that find an item are its pair, and its name alone.
use mathlib.Core.Path.{◌≡◌, refl, sym, ◌∙◌, ap, subst, subst⁻¹}
use mathlib.Core.Logic.{⊎_elim}
use mathlib.Core.List.{List, [], ◌∷◌, ◌++◌, map}
use mathlib.Core.Bool.{Bool, true, false, cond, not, ◌&&◌, ◌||◌, true≢false}
use Prim.Native.Nat.{ℕ, zero, suc, ◌+◌, ◌<◌, ◌≤◌}
use native.Mathlib.Omega.{arith}
use lib.Dec.{T, ltb, ltb→lt, leb, leb→le, le→leb}
use Rattle.cpl.specs.Tests.{any_b, concat_map, sum_of}
use Rattle.cpl.specs.Lists.{All, a[], ◌a∷◌}
use Rattle.cpl.specs.Plan.{Pair, eq_p, Expr, col, lit, miss, un, bin, Item, item_pair, item_expr, nameless}
use Rattle.cpl.specs.Exprs.{fits, fitting, known, definite, references}
use Rattle.cpl.specs.Accept.{each_passes}
use Rattle.cpl.specs.Accepted.{Clear, n[], ◌n∷◌, Resolved}
use Rattle.cpl.proofs.Bools.{halves, both-T, left-T, right-T, bool_eq}
use Rattle.cpl.proofs.Lists.{All_map, All_both, All_unmapped, All_++, always}
use Rattle.cpl.proofs.Pairs.{eq_p_eq, eq_p-refl}
use Rattle.cpl.proofs.Lookup.{fits_cases, name-fits, fits_self, apart, find-any, fitting-here, fitting-past, none-fits}
use Rattle.cpl.proofs.Accepted.{Sees, each_sees}
use Rattle.rules.specs.Merge.{occurs, occurs_in, pushes, held, def_of, stops}

-- ── what passes of a list ───────────────────────────────────────────────────────────────────

-- each of whose elements is as P says
pub any_as : {A : Type 0} {P : A → Type 0} (p : A → Bool) {R : Type 0} {xs : List A} → All P xs → ((x : A) → P x → T (p x) → R) → T (any_b p xs) → R
unfolding any_b
any_as p a[] f t = absurd t
any_as {A} {P} p {R} (◌a∷◌ {x = x} {xs = xs} h hs) f t = go (p x) (λ t. t) t (λ u. any_as p hs f u)
  where
    go : (b : Bool) → (T b → T (p x)) → T (b || any_b p xs) → (T (any_b p xs) → R) → R
    go true e t g = f x h (e tt)
    go false e t g = g t

any_left : {A : Type 0} (p : A → Bool) (xs ys : List A) → T (any_b p xs) → T (any_b p (xs ++ ys))
unfolding any_b
any_left p [] ys t = absurd t
any_left p (x ∷ xs) ys t = go (p x) t (λ u. any_left p xs ys u)
  where
    go : (b : Bool) → T (b || any_b p xs) → (T (any_b p xs) → T (any_b p (xs ++ ys))) → T (b || any_b p (xs ++ ys))
    go true t g = tt
    go false t g = g t

any-right : {A : Type 0} (p : A → Bool) (xs ys : List A) → T (any_b p ys) → T (any_b p (xs ++ ys))
unfolding any_b
any-right p [] ys t = t
any-right p (x ∷ xs) ys t = right-T (p x) (any_b p (xs ++ ys)) (any-right p xs ys t)

-- ── a pair that is written is a reference ───────────────────────────────────────────────────

-- the references of a list
abbrev pub refs : List Item → List Pair
refs js = concat_map (λ j. references (item_expr j)) js

-- one of the two is not nothing
some_of : (a b : ℕ) {R : Type 0} → 0 < a + b → (0 < a → R) → (0 < b → R) → R
some_of zero b l f g = g (omega arith)
some_of (suc a) b l f g = f (omega arith)

module _ (p : Pair → Bool) (c : Pair) where
  in_expr : (e : Expr) → 0 < occurs c e → T (p c) → T (any_b p (references e))
  unfolding occurs references any_b
  in_expr (col d) l t = go (eq_p d c) (λ t. t) l
    where
      go : (b : Bool) → (T b → T (eq_p d c)) → 0 < cond b 1 0 → T (p d || false)
      go true e l = left-T (p d) false (subst⁻¹ (λ x. T (p x)) (eq_p_eq d c (e tt)) t)
      go false e l = absurd (omega arith)
  in_expr (lit z) l t = absurd (omega arith)
  in_expr miss l t = absurd (omega arith)
  in_expr (un o a) l t = in_expr a l t
  in_expr (bin o a b) l t =
      some_of (occurs c a) (occurs c b) l (λ h. any_left p (references a) (references b) (in_expr a h t)) (λ h. any-right p (references a) (references b) (in_expr b h t))

  pub in_list : (js : List Item) → 0 < occurs_in c js → T (p c) → T (any_b p (refs js))
  unfolding occurs_in sum_of concat_map
  in_list [] l t = absurd (omega arith)
  in_list (j ∷ js) l t =
      some_of (occurs c (item_expr j)) (occurs_in c js) l (λ h. any_left p (references (item_expr j)) (refs js) (in_expr (item_expr j) h t)) (λ h. any-right p (references (item_expr j)) (refs js) (in_list js h t))

-- ── what finds an item ──────────────────────────────────────────────────────────────────────

-- its own pair, where the pairs do not clash
pub own_defs : (is : List Item) → Clear (map item_pair is) → All (λ i. def_of (item_pair i) is ≡ item_expr i) is
unfolding def_of
own_defs [] n[] = a[]
own_defs (i ∷ is) (h n∷ hs) =
    ap (λ b. cond b (item_expr i) (def_of (item_pair i) is)) (fits_self (item_pair i))
    a∷ All_map (λ k g. ap (λ b. cond b (item_expr i) (def_of (item_pair k) is)) (apart (item_pair i) (item_pair k) g.0).1 ∙ g.1) (All_both (All_unmapped item_pair is h) (own_defs is hs))

-- any reference that fits its pair, where no second pair fits the reference
one_def : (c : Pair) (is : List Item) → fitting c (map item_pair is) ≤ 1 → All (λ i. fits c (item_pair i) ≡ true → def_of c is ≡ item_expr i) is
unfolding def_of
one_def c [] l = a[]
one_def c (i ∷ is) l = go (fits c (item_pair i)) refl (one_def c is)
  where
    go : (b : Bool) → fits c (item_pair i) ≡ b → (fitting c (map item_pair is) ≤ 1 → All (λ k. fits c (item_pair k) ≡ true → def_of c is ≡ item_expr k) is)
        → All (λ k. fits c (item_pair k) ≡ true → cond (fits c (item_pair i)) (item_expr i) (def_of c is) ≡ item_expr k) (i ∷ is)
    go true e r =
        let none = none-fits c (map item_pair is) (omega (arith, fitting-here c (item_pair i) (map item_pair is) e, l)) in
        (λ t. ap (λ b. cond b (item_expr i) (def_of c is)) e) a∷ All_map (λ k h t. absurd (true≢false (sym t ∙ h))) (All_unmapped item_pair is none)
    go false e r =
        (λ t. absurd (true≢false (sym t ∙ e)))
        a∷ All_map (λ k h t. ap (λ b. cond b (item_expr i) (def_of c is)) e ∙ h t) (r (omega (arith, fitting-past c (item_pair i) (map item_pair is) e, l)))

-- its name alone, where that is definite
Named : List Item → Item → Pair → Type 0
Named is i c = fitting c (map item_pair is) ≤ 1 → fits c (item_pair i) ≡ true → def_of c is ≡ item_expr i

each-named : (is : List Item) (c : Pair) → All (λ i. Named is i c) is
unfolding Named
each-named is c = go (leb (fitting c (map item_pair is)) 1) (λ t. t) (λ t. t)
  where
    go : (b : Bool) → (T b → T (leb (fitting c (map item_pair is)) 1)) → (T (leb (fitting c (map item_pair is)) 1) → T b) → All (λ i. fitting c (map item_pair is) ≤ 1 → fits c (item_pair i) ≡ true → def_of c is ≡ item_expr i) is
    go true t u = All_map (λ i h l. h) (one_def c is (leb→le _ 1 (t tt)))
    go false t u = always (λ i l. absurd (u (le→leb _ 1 l))) is

head_of_lem : {A : Type 0} {P : A → Type 0} {x : A} {xs : List A} → All P (x ∷ xs) → P x
head_of_lem (k a∷ ks) = k

tail_of : {A : Type 0} {P : A → Type 0} {x : A} {xs : List A} → All P (x ∷ xs) → All P xs
tail_of (k a∷ ks) = ks

diagonal : {A B : Type 0} (Q : A → B → Type 0) (g : A → B) (xs : List A) → ((b : B) → All (λ x. Q x b) xs) → All (λ x. Q x (g x)) xs
diagonal Q g [] h = a[]
diagonal Q g (x ∷ xs) h = head_of_lem (h (g x)) a∷ diagonal Q g xs (λ b. tail_of (h b))

-- ── the law ─────────────────────────────────────────────────────────────────────────────────

-- the item that a reference finds
to_item : (t : Expr → Bool) (u : Item → Bool) (c : Pair) (is : List Item) → ((i : Item) → fits c (item_pair i) ≡ true → T (t (item_expr i)) → T (u i)) → T (any_b (fits c) (map item_pair is)) → T (t (def_of c is)) → T (any_b u is)
unfolding any_b def_of
to_item t u c [] f a h = absurd a
to_item t u c (i ∷ is) f a h = go (fits c (item_pair i)) refl a h (to_item t u c is f)
  where
    go : (b : Bool) → fits c (item_pair i) ≡ b → T (b || any_b (fits c) (map item_pair is)) → T (t (cond b (item_expr i) (def_of c is))) → (T (any_b (fits c) (map item_pair is)) → T (t (def_of c is)) → T (any_b u is)) → T (u i || any_b u is)
    go true e a h g = left-T (u i) (any_b u is) (f i e h)
    go false e a h g = right-T (u i) (any_b u is) (g a h)

-- each reference of a resolved expression finds a field, and no second one fits
One : List Pair → Pair → Type 0
One fs c = T (any_b (fits c) fs) × (fitting c fs ≤ 1)

ones_of : (fs : List Pair) (e : Expr) → T (known fs e) → T (definite fs e) → All (One fs) (references e)
unfolding One known definite references
ones_of fs (col c) k d = (subst T (find-any c fs) k, leb→le (fitting c fs) 1 d) a∷ a[]
ones_of fs (lit z) k d = a[]
ones_of fs miss k d = a[]
ones_of fs (un o a) k d = ones_of fs a k d
ones_of fs (bin o a b) k d =
    let h = halves (known fs a) (known fs b) k in
    let g = halves (definite fs a) (definite fs b) d in
    All_++ (ones_of fs a h.0 g.0) (ones_of fs b h.1 g.1)

ones_in : (fs : List Pair) (js : List Item) → All (Sees fs) (map item_expr js) → All (One fs) (refs js)
unfolding concat_map
ones_in fs [] a[] = a[]
ones_in fs (j ∷ js) (h a∷ hs) = All_++ (ones_of fs (item_expr j) h.is_known h.is-definite) (ones_in fs js hs)

module _ (m : ℕ) (js is : List Item) (k : Clear (map item_pair is)) (r : Resolved (each_passes (map item_expr js) (map item_pair is))) where
  abbrev test : Pair → Expr → Bool
  test c e = ltb 1 (occurs_in c js) && not (pushes m e)

  all_one : All (One (map item_pair is)) (refs js)
  all_one = ones_in (map item_pair is) js (each_sees (map item_expr js) (map item_pair is) r)

  -- what is written more than once is a reference of the list
  written : (P : Pair → Type 0) → All P (refs js) → (c : Pair) → T (ltb 1 (occurs_in c js)) → P c
  written P h c t = any_as (eq_p c) h (λ d p e. subst⁻¹ P (eq_p_eq c d e) p) (in_list (eq_p c) c js (let l = ltb→lt 1 (occurs_in c js) t in omega arith) (subst⁻¹ T (eq_p-refl c) tt))

  -- a pair that is written more than once, and finds that definition
  stopped : (c : Pair) (e : Expr) → def_of c is ≡ e → T (test c e) → T (held m js is)
  unfolding held
  stopped c e d t =
      in_list (λ c. test c (def_of c is)) c js (let l = ltb→lt 1 (occurs_in c js) (halves (ltb 1 (occurs_in c js)) (not (pushes m e)) t).0 in omega arith) (subst⁻¹ (λ x. T (test c x)) d t)

  to_stop : (c : Pair) (i : Item) → fits c (item_pair i) ≡ true → T (test c (item_expr i)) → T (stops m js i)
  to_stop c i e t =
      let h = halves (ltb 1 (occurs_in c js)) (not (pushes m (item_expr i))) t in
      let a = ltb 1 (occurs_in (item_pair i) js) in
      let b = ltb 1 (occurs_in (nameless (item_pair i)) js) in
      both-T (a || b) (not (pushes m (item_expr i)))
      (⊎_elim (λ q. left-T a b (subst (λ d. T (ltb 1 (occurs_in d js))) q h.0)) (λ q. right-T a b (subst (λ d. T (ltb 1 (occurs_in d js))) q h.0)) (fits_cases c (item_pair i) e)) h.1

  from_stop : (i : Item) → def_of (item_pair i) is ≡ item_expr i → Named is i (nameless (item_pair i)) → T (stops m js i) → T (held m js is)
  unfolding Named One
  from_stop i own name t = go (ltb 1 (occurs_in (item_pair i) js)) (λ t. t) h.0
    where
      h : T (ltb 1 (occurs_in (item_pair i) js) || ltb 1 (occurs_in (nameless (item_pair i)) js)) × T (not (pushes m (item_expr i)))
      h = halves (ltb 1 (occurs_in (item_pair i) js) || ltb 1 (occurs_in (nameless (item_pair i)) js)) (not (pushes m (item_expr i))) t

      go : (b : Bool) → (T b → T (ltb 1 (occurs_in (item_pair i) js))) → T (b || ltb 1 (occurs_in (nameless (item_pair i)) js)) → T (held m js is)
      go true e u = stopped (item_pair i) (item_expr i) own (both-T (ltb 1 (occurs_in (item_pair i) js)) _ (e tt) h.1)
      go false e u =
          let c = nameless (item_pair i) in
          stopped c (item_expr i) (name (written (One (map item_pair is)) all_one c u).1 (name-fits (item_pair i))) (both-T (ltb 1 (occurs_in c js)) _ u h.1)

  -- so a merge stops where one of the lower list's items stops it: each item is looked at once, with two counts
  pub held_items : held m js is ≡ any_b (stops m js) is
  unfolding held One
  held_items =
      bool_eq (held m js is) (any_b (stops m js) is) (any_as _ all_one (λ c w t. to_item (test c) (stops m js) c is (to_stop c) w.0 t))
      (any_as (stops m js) (All_both (own_defs is k) (diagonal (Named is) (λ i. nameless (item_pair i)) is (each-named is))) (λ i g t. from_stop i g.0 g.1 t))
