-- Expressions, and the operators on lists that rows are made with, give the same over narrowed rows, where the mask covers what is used.
use mathlib.Core.Path.{◌≡◌, refl, sym, ◌∙◌, ap, ap₂}
use mathlib.Core.List.{List, [], ◌∷◌, ◌++◌, map}
use mathlib.Core.Bool.{Bool, true, false, cond, ◌||◌}
use mathlib.Core.Option.{Option, none, some}
use Prim.Native.Nat.{ℕ, zero, suc}
use lib.IntN.{pos}
use lib.ListN.{length, take, drop, length-map}
use Rattle.cpl.specs.Tests.{any_b, concat_map}
use Rattle.cpl.specs.Lists.{All, a[], ◌a∷◌}
use Rattle.cpl.specs.Plan.{Pair, Expr, col, lit, miss, un, bin, Key, key, Call, rows, over, key_expr}
use Rattle.cpl.specs.Exprs.{fits, find, next, references, call_exprs}
use Rattle.cpl.proofs.Bools.{cond-ap}
use Rattle.cpl.proofs.Lookup.{find_none, find-here, find_past}
use Rattle.cpl.proofs.Lists.{map_cong, map-map, map_++, always, All_left, All_right}
use Rattle.rules.specs.Mask.{Mask, select}
use Rattle.rules.proofs.Masks.{select_nil}
use Rattle.rules.proofs.Covers.{KeepsFirst, h[], here, past, Covers, Cov, used-head, used_tail}
use Rattle.meaning.specs.Value.{Val, missing, num, Row, op1, op2}
use Rattle.meaning.specs.Eval.{value_at, lookup, eval, eval_all}
use Rattle.meaning.specs.Lists.{filter_b, page, around, or_else}
use Rattle.meaning.specs.Order.{before, insert, sort_by}
use Rattle.meaning.specs.Functions.{numbers, apply, call_over}

-- ── lists of anything: what commutes with `map` ─────────────────────────────────────────────

module _ {A B : Type 0} (f : A → B) where
  -- where the tests agree on each element
  pub filter_map_a : (p : A → Bool) (q : B → Bool) {xs : List A} → All (λ x. q (f x) ≡ p x) xs → filter_b q (map f xs) ≡ map f (filter_b p xs)
  unfolding filter_b
  filter_map_a p q a[] = refl
  filter_map_a p q (◌a∷◌ {x = x} {xs = xs} h hs) = rw (h, filter_map_a p q hs) (cond-ap (map f) (p x) (x ∷ filter_b p xs) (filter_b p xs))

  pub filter_map : (p : A → Bool) (q : B → Bool) → ((x : A) → q (f x) ≡ p x) → (xs : List A) → filter_b q (map f xs) ≡ map f (filter_b p xs)
  filter_map p q h xs = filter_map_a p q (always h xs)

  -- as many pass
  pub count_map : (p : A → Bool) (q : B → Bool) → ((x : A) → q (f x) ≡ p x) → (xs : List A) → length (filter_b q (map f xs)) ≡ length (filter_b p xs)
  count_map p q h xs = ap length (filter_map p q h xs) ∙ length-map (filter_b p xs) f

  pub any_map_a : (p : A → Bool) (q : B → Bool) {xs : List A} → All (λ x. q (f x) ≡ p x) xs → any_b q (map f xs) ≡ any_b p xs
  unfolding any_b
  any_map_a p q a[] = refl
  any_map_a p q (h a∷ hs) = ap₂ ◌||◌ h (any_map_a p q hs)

  module _ (lt : A → A → Bool) (lt' : B → B → Bool) (h : (x y : A) → lt' (f x) (f y) ≡ lt x y) where
    insert-map : (x : A) (ys : List A) → insert lt' (f x) (map f ys) ≡ map f (insert lt x ys)
    unfolding insert
    insert-map x [] = refl
    insert-map x (y ∷ ys) = rw (h y x, insert-map x ys) (cond-ap (map f) (lt y x) (y ∷ insert lt x ys) (x ∷ y ∷ ys))

    pub sort-map : (xs : List A) → sort_by lt' (map f xs) ≡ map f (sort_by lt xs)
    unfolding sort_by
    sort-map [] = refl
    sort-map (x ∷ xs) = ap (insert lt' (f x)) (sort-map xs) ∙ insert-map x (sort_by lt xs)

  take-map : (n : ℕ) (xs : List A) → take n (map f xs) ≡ map f (take n xs)
  take-map zero xs = refl
  take-map (suc n) [] = refl
  take-map (suc n) (x ∷ xs) = ap (f x ∷◌) (take-map n xs)

  drop-map : (n : ℕ) (xs : List A) → drop n (map f xs) ≡ map f (drop n xs)
  drop-map zero xs = refl
  drop-map (suc n) [] = refl
  drop-map (suc n) (x ∷ xs) = drop-map n xs

  pub page-map : (s : ℕ) (n : Option ℕ) (xs : List A) → page s n (map f xs) ≡ map f (page s n xs)
  unfolding page
  page-map s none xs = drop-map s xs
  page-map s (some n) xs = ap (take n) (drop-map s xs) ∙ take-map n (drop s xs)

  pub or_else-map : (xs : List A) (d : A) → or_else (map f xs) (f d) ≡ map f (or_else xs d)
  unfolding or_else
  or_else-map [] d = refl
  or_else-map (x ∷ xs) d = refl

  module _ {A' B' : Type 0} {P : A → Type 0} (h : A' → B') where
    pub concat_map_a : (F : A → List A') (G : B → List B') → ((x : A) → P x → G (f x) ≡ map h (F x)) → {xs : List A} → All P xs → concat_map G (map f xs) ≡ map h (concat_map F xs)
    unfolding concat_map
    concat_map_a F G e a[] = refl
    concat_map_a F G e (◌a∷◌ {x = x} {xs = xs} k ks) = ap₂ ◌++◌ (e x k) (concat_map_a F G e ks) ∙ sym (map_++ h (F x) (concat_map F xs))

    pub around_map_a : (g : List A → A → List A → A') (g' : List B → B → List B → B')
        → ((pre : List A) (x : A) (post : List A) → P x → g' (map f pre) (f x) (map f post) ≡ h (g pre x post)) → (pre : List A) {xs : List A} → All P xs → around g' (map f pre) (map f xs) ≡ map h (around g pre xs)
    unfolding around
    around_map_a g g' e pre a[] = refl
    around_map_a g g' e pre (◌a∷◌ {x = x} {xs = xs} k ks) = ap₂ ◌∷◌ (e pre x xs k) (around_map_a g g' e (x ∷ pre) ks)

-- ── columns: the only laws of `lookup` that are used ────────────────────────────────────────

pub lookup_nil : (c : Pair) (fs : List Pair) → lookup fs [] c ≡ missing
unfolding lookup value_at
lookup_nil c fs = go (find c fs)
  where
    go : (i : Option ℕ) → value_at [] i ≡ missing
    go none = refl
    go (some i) = refl

pub lookup-none : (c : Pair) (r : Row) → lookup [] r c ≡ missing
unfolding lookup value_at
lookup-none c r = ap (value_at r) (find_none c)

-- the field that is found has the row's value, and one that does not fit is passed over
module _ (c f : Pair) (fs : List Pair) (v : Val) (r : Row) where
  pub lookup-here : fits c f ≡ true → lookup (f ∷ fs) (v ∷ r) c ≡ v
  unfolding lookup value_at
  lookup-here e = ap (value_at (v ∷ r)) (find-here c f fs e)

  pub lookup-past : fits c f ≡ false → lookup (f ∷ fs) (v ∷ r) c ≡ lookup fs r c
  unfolding lookup value_at next
  lookup-past e = ap (value_at (v ∷ r)) (find_past c f fs e) ∙ go (find c fs)
    where
      go : (i : Option ℕ) → value_at (v ∷ r) (next i) ≡ value_at r i
      go none = refl
      go (some i) = refl

  pub lookup_cons : lookup (f ∷ fs) (v ∷ r) c ≡ cond (fits c f) v (lookup fs r c)
  lookup_cons = go (fits c f) refl
    where
      go : (b : Bool) → fits c f ≡ b → lookup (f ∷ fs) (v ∷ r) c ≡ cond b v (lookup fs r c)
      go true e = lookup-here e
      go false e = lookup-past e

empty-row : (c : Pair) (fs : List Pair) (ks : Mask) → lookup (select ks fs) (select ks []) c ≡ lookup fs [] c
empty-row c fs ks = ap (λ r. lookup (select ks fs) r c) (select_nil ks) ∙ (lookup_nil c (select ks fs) ∙ sym (lookup_nil c fs))

lookup-select : (c : Pair) {fs : List Pair} {ks : Mask} → KeepsFirst c fs ks → (r : Row) → lookup (select ks fs) (select ks r) c ≡ lookup fs r c
unfolding select
lookup-select c h[] r = lookup-none c [] ∙ sym (lookup-none c r)
lookup-select c {fs} {ks} (here e fit) [] = empty-row c fs ks
lookup-select c {fs} {ks} (past e h) [] = empty-row c fs ks
lookup-select c (here {f = f} {fs = fs} {ks = ks} e fit) (v ∷ r) = lookup-here c f (select ks fs) v (select ks r) e ∙ sym (lookup-here c f fs v r e)
lookup-select c (past {f = f} {k = true} {fs = fs} {ks = ks} e h) (v ∷ r) = lookup-past c f (select ks fs) v (select ks r) e ∙ (lookup-select c h r ∙ sym (lookup-past c f fs v r e))
lookup-select c (past {f = f} {k = false} {fs = fs} e h) (v ∷ r) = lookup-select c h r ∙ sym (lookup-past c f fs v r e)

-- ── expressions ─────────────────────────────────────────────────────────────────────────────

module _ {fs : List Pair} {ks : Mask} where
  pub eval-select : (e : Expr) → Covers e fs ks → (r : Row) → eval (select ks fs) (select ks r) e ≡ eval fs r e
  unfolding eval references
  eval-select (col c) (h a∷ a[]) r = lookup-select c h r
  eval-select (lit z) v r = refl
  eval-select miss v r = refl
  eval-select (un o a) v r = ap (op1 o) (eval-select a v r)
  eval-select (bin o a b) v r =
      ap₂ (op2 o) (eval-select a (All_left (references a) (references b) v) r) (eval-select b (All_right (references a) (references b) v) r)

  pub eval_all-select : (es : List Expr) → Cov es fs ks → (r : Row) → eval_all (select ks fs) (select ks r) es ≡ eval_all fs r es
  unfolding eval_all
  eval_all-select [] v r = refl
  eval_all-select (e ∷ es) v r = ap₂ ◌∷◌ (eval-select e (used-head e es v) r) (eval_all-select es (used_tail e es v) r)

  pub before-select : (os : List Key) → Cov (map key_expr os) fs ks → (r s : Row) → before (select ks fs) os (select ks r) (select ks s) ≡ before fs os r s
  unfolding before key_expr
  before-select [] v r s = refl
  before-select (key d m e ∷ os) v r s =
      let h = used-head e (map key_expr os) v in
      rw (eval-select e h r, eval-select e h s, before-select os (used_tail e (map key_expr os) v) r s)

  pub call_select : (g : Call) → Cov (call_exprs g) fs ks → (rs : List Row) → call_over (select ks fs) (map (select ks) rs) g ≡ call_over fs rs g
  unfolding call_over call_exprs
  call_select rows v rs = ap (λ n. num (pos n)) (length-map rs (select ks))
  call_select (over g e) v rs = ap (λ vs. apply g (numbers vs)) (map-map (λ r. eval (select ks fs) r e) (select ks) rs ∙ map_cong (eval-select e (used-head e [] v)) rs)
