-- How right answers are put together: one part after the other, a row after a part, lists. Assumes nothing.
use Prim.Native.Nat.{ℕ, zero, suc, ◌+◌, ◌*◌, ◌-◌, ◌≤◌, ◌<◌}
use mathlib.Core.Path.{◌≡◌, refl, sym, ap, ◌∙◌}
use mathlib.Core.List.{List, [], ◌∷◌, ◌++◌, append-nil}
use native.Mathlib.Omega.{arith}
use native.Mathlib.Numerals.{sub-one}
use lib.ListN.{length, length-append, set}
use lib.Seq.{sets, set_comm}
use Rattle.std.specs.Prelude.{Result, Ok, Err}
use Rattle.cpl.specs.Limits.{max_tags}
use Rattle.cpl.specs.Read.{Res, ok, bad, Reader, and_then, times}
use Rattle.tree.specs.Layout.{Store, all_cells, all_rows, all_nodes, all_rows_in, list_store}
use Rattle.cpl.proofs.Codec.{Holds, holds_then, holds-ok}
use Rattle.reader_fields.specs.Answers.{spot, Took, Right, bare_store}
use Rattle.refusals.specs.Codes.{code_of}
use Rattle.refusals.specs.declared.Refusal.{Refusal}
use Rattle.reader_fields.specs.declared.Spot.{Spot}
use Rattle.reader_fields.proofs.Sets.{sets_append, sets_then, expr_long}

-- ── readers ─────────────────────────────────────────────────────────────────────────────────

pub then_then : {A B C : Type 0} (x : Res A) (k : A → ℕ → ℕ → ℕ → Res B) (m : B → ℕ → ℕ → ℕ → Res C) →
    and_then (and_then x k) m ≡ and_then x (λ a at t n. and_then (k a at t n) m)
then_then (ok a at t n) k m = refl
then_then (bad code place) k m = refl

-- ── stores ──────────────────────────────────────────────────────────────────────────────────

set-sets : (ys l : List ℕ) (i j v : ℕ) → i < j → set (sets l j ys) i v ≡ sets (set l i v) j ys
set-sets [] l i j v h = refl
set-sets (y ∷ ys) l i j v h = set-sets ys (set l j y) i (suc j) v (omega arith) ∙ ap (λ (m : List ℕ). sets m (suc j) ys) (set_comm l j i y v (λ e. omega arith))

-- stores at different places can be made in either order
pub sets_comm : (xs ys l : List ℕ) (i j : ℕ) → i + length xs ≤ j → sets (sets l j ys) i xs ≡ sets (sets l i xs) j ys
sets_comm [] ys l i j h = refl
sets_comm (x ∷ xs) ys l i j h = ap (λ (m : List ℕ). sets m (suc i) xs) (set-sets ys l i j x (omega arith)) ∙ sets_comm xs ys (set l i x) (suc i) j (omega arith)

-- what follows was stored first
pub sets-before : (xs ys l l' l'' : List ℕ) (i j : ℕ) → l' ≡ sets l j ys → l'' ≡ sets l' i xs → j ≡ i + length xs → l'' ≡ sets l i (xs ++ ys)
sets-before xs ys l l' l'' i j e f h =
    f ∙ ap (λ (m : List ℕ). sets m i xs) e ∙ sets_comm xs ys l i j (omega arith) ∙ sets_append xs l i j ys h

-- ── one part after the other ────────────────────────────────────────────────────────────────

-- how long what is stored is
pub record Sized {A : Type 0} (s : Store A) : Type 0 where
  pub cells_long : (made : ℕ) (a : A) → length (s.cells_of made a) ≡ 3 * s.nodes_in a
  pub rows_long : (made : ℕ) (a : A) → length (s.rows_of made a) ≡ 4 * s.rows_held a

-- v is stored as a, and b after it
pub record Split {A B C : Type 0} (s₁ : Store A) (s₂ : Store B) (s : Store C) (made : ℕ) (a : A) (b : B) (v : C) : Type 0 where
  pub nodes : s.nodes_in v ≡ s₁.nodes_in a + s₂.nodes_in b
  pub rows_in : s.rows_held v ≡ s₁.rows_held a + s₂.rows_held b
  pub cells : s.cells_of made v ≡ s₁.cells_of made a ++ s₂.cells_of (made + s₁.nodes_in a) b
  pub rows : s.rows_of made v ≡ s₁.rows_of made a ++ s₂.rows_of (made + s₁.nodes_in a) b

pub took_then : {A B C : Type 0} {s₁ : Store A} {s₂ : Store B} (s : Store C) {from t u : Spot} {c c1 c2 w w1 w2 : List ℕ} {n : ℕ} {x₁ : Res A} {x₂ : Res B} {x : Res C} →
    Sized s₁ → (a : Took s₁ from c c1 w w1 n x₁ t) (b : Took s₂ t c1 c2 w1 w2 n x₂ u) (v : C) → Split s₁ s₂ s from.made a.value b.value v →
    x ≡ ok v u.at u.tags n → Took s from c c2 w w2 n x u
took_then {s₁ = s₁} {s₂} s {from} {t} {u} {c} {c1} {c2} {w} {w1} {w2} z a b v p e =
    record {
      value = v;
      is = e;
      made_is = omega (arith, a.made_is, b.made_is, p.nodes);
      row_is = omega (arith, a.row_is, b.row_is, p.rows_in);
      cells_are =
          rw (p.cells, ← a.made_is)
          (sets_then (s₁.cells_of from.made a.value) (s₂.cells_of t.made b.value) c c1 c2 (3 * from.made) (3 * t.made) a.cells_are b.cells_are
          (omega (arith, a.made_is, z.cells_long from.made a.value)));
      rows_are =
          rw (p.rows, ← a.made_is)
          (sets_then (s₁.rows_of from.made a.value) (s₂.rows_of t.made b.value) w w1 w2 (4 * from.row) (4 * t.row) a.rows_are b.rows_are
          (omega (arith, a.row_is, z.rows_long from.made a.value)));
      grown = omega (arith, a.grown, b.grown, p.nodes);
      few = b.few;
    }

-- a row by itself
abbrev row_store : List ℕ → Store ℕ
row_store ys = record { cells_of = λ made x. []; rows_of = λ made x. ys; nodes_in = λ x. 0; rows_held = λ x. 1 }

-- v is stored as a, and a row after it
pub took-row : {A C : Type 0} {s₁ : Store A} (s : Store C) {from t : Spot} {c c1 w w1 w2 : List ℕ} {n : ℕ} {x₁ : Res A} {x : Res C} →
    Sized s₁ → (a : Took s₁ from c c1 w w1 n x₁ t) (ys : List ℕ) → w2 ≡ sets w1 (4 * t.row) ys → (v : C) →
    s.nodes_in v ≡ s₁.nodes_in a.value → s.rows_held v ≡ s₁.rows_held a.value + 1 → s.cells_of from.made v ≡ s₁.cells_of from.made a.value →
    s.rows_of from.made v ≡ s₁.rows_of from.made a.value ++ ys → x ≡ ok v t.at t.tags n →
    Took s from c c1 w w2 n x (spot t.at t.tags t.made (t.row + 1))
took-row {s₁ = s₁} s {from} {t} {c1 = c1} {w1 = w1} {w2} {n} z a ys h v p q f g e =
    took_then s z a row v
    (record { nodes = omega (arith, p); rows_in = q; cells = f ∙ sym (append-nil (s₁.cells_of from.made a.value)); rows = g })
    e
  where
    row : Took (row_store ys) t c1 c1 w1 w2 n (ok 0 t.at t.tags n) (spot t.at t.tags t.made (t.row + 1))
    row = record { value = 0; is = refl; made_is = omega arith; row_is = refl; cells_are = refl; rows_are = h; grown = omega arith; few = a.few }

-- a row alone, after fields
pub took_one : {C : Type 0} (s : Store C) (from : Spot) (at : ℕ) (cells rows rows' : List ℕ) (n : ℕ) {x : Res C} (ys : List ℕ) → rows' ≡ sets rows (4 * from.row) ys → (v : C) →
    s.nodes_in v ≡ 0 → s.rows_held v ≡ 1 → s.cells_of from.made v ≡ [] → s.rows_of from.made v ≡ ys → x ≡ ok v at from.tags n → from.tags ≤ max_tags →
    Took s from cells cells rows rows' n x (spot at from.tags from.made (from.row + 1))
took_one s from at cells rows rows' n ys h v p q f g e l =
    record {
      value = v;
      is = e;
      made_is = omega (arith, p);
      row_is = omega (arith, q);
      cells_are = rw f;
      rows_are = rw g h;
      grown = omega (arith, p);
      few = l;
    }

-- what takes no row leaves the rows, whatever they are
pub took-rows : {A : Type 0} {s : Store A} {from t : Spot} {c c1 : List ℕ} {n : ℕ} {x : Res A} (w : List ℕ) → ((made : ℕ) (a : A) → s.rows_of made a ≡ []) →
    Took s from c c1 [] [] n x t → Took s from c c1 w w n x t
took-rows {from = from} w h a =
    record {
      value = a.value;
      is = a.is;
      made_is = a.made_is;
      row_is = a.row_is;
      cells_are = a.cells_are;
      rows_are = rw (h from.made a.value);
      grown = a.grown;
      few = a.few;
    }

pub bare-sized : Sized bare_store
bare-sized = record { cells_long = expr_long; rows_long = λ made e. refl }

-- the same, said of another value that is stored the same way
pub took_as : {A B : Type 0} {s₁ : Store A} (s : Store B) {from t : Spot} {c c1 w w1 : List ℕ} {n : ℕ} {x₁ : Res A} {x : Res B} → (a : Took s₁ from c c1 w w1 n x₁ t) (v : B) →
    s.nodes_in v ≡ s₁.nodes_in a.value → s.rows_held v ≡ s₁.rows_held a.value → s.cells_of from.made v ≡ s₁.cells_of from.made a.value →
    s.rows_of from.made v ≡ s₁.rows_of from.made a.value → x ≡ ok v t.at t.tags n → Took s from c c1 w w1 n x t
took_as s a v p q f g e =
    record {
      value = v;
      is = e;
      made_is = omega (arith, a.made_is, p);
      row_is = omega (arith, a.row_is, q);
      cells_are = rw f a.cells_are;
      rows_are = rw g a.rows_are;
      grown = omega (arith, a.grown, p);
      few = a.few;
    }

-- ── lists ───────────────────────────────────────────────────────────────────────────────────

pub list-sized : {A : Type 0} (s : Store A) → Sized s → Sized (list_store s)
unfolding all_cells all_rows all_nodes all_rows_in
list-sized {A} s z = record { cells_long = cells; rows_long = rows }
  where
    cells : (made : ℕ) (xs : List A) → length (all_cells s made xs) ≡ 3 * all_nodes s xs
    cells made [] = refl
    cells made (x ∷ xs) = simp length-append (omega (arith, z.cells_long made x, cells (made + s.nodes_in x) xs))

    rows : (made : ℕ) (xs : List A) → length (all_rows s made xs) ≡ 4 * all_rows_in s xs
    rows made [] = refl
    rows made (x ∷ xs) = simp length-append (omega (arith, z.rows_long made x, rows (made + s.nodes_in x) xs))

-- a row for each
pub all_one : {A : Type 0} (s : Store A) → ((a : A) → s.rows_held a ≡ 1) → (xs : List A) → all_rows_in s xs ≡ length xs
unfolding all_rows_in
all_one s one [] = refl
all_one s one (x ∷ xs) = omega (arith, one x, all_one s one xs)

module _ {A : Type 0} (p : Reader A) (file : List ℕ) (at tags n k : ℕ) where
  pub times_more : (k ≡ 0 → ⊥) → times k p file at tags n ≡ and_then (p file at tags n) (λ x a t m. and_then (times (k - 1) p file a t m) (λ xs a' t' m'. ok (x ∷ xs) a' t' m'))
  unfolding times
  times_more h = go k h
    where
      go : (k : ℕ) → (k ≡ 0 → ⊥) → times k p file at tags n ≡ and_then (p file at tags n) (λ x a t m. and_then (times (k - 1) p file a t m) (λ xs a' t' m'. ok (x ∷ xs) a' t' m'))
      go zero h = absurd (h refl)
      go (suc k) h = rw (sub-one (suc k))

  pub times-bad : (k ≡ 0 → ⊥) → {code place : ℕ} → p file at tags n ≡ bad code place → times k p file at tags n ≡ bad code place
  times-bad h e = rw (times_more h, e)

module _ {A : Type 0} (s : Store A) (p : Reader A) (file : List ℕ) (from : Spot) (k : ℕ) where
  pub times_none : (cells rows : List ℕ) → k ≡ 0 → from.tags ≤ max_tags → (n : ℕ) → Right (list_store s) from cells cells rows rows n (times k p file from.at from.tags n) (Ok from)
  unfolding times all_cells all_rows all_nodes all_rows_in
  times_none cells rows e l n =
      record { value = []; is = rw e; made_is = omega arith; row_is = omega arith; cells_are = refl; rows_are = refl; grown = omega arith; few = l }

  pub times-right : Sized s → (k ≡ 0 → ⊥) → {t : Spot} {c c1 w w1 : List ℕ} (c2 w2 : List ℕ) (n : ℕ) → Took s from c c1 w w1 n (p file from.at from.tags n) t → (r : Result Spot Refusal) →
      Right (list_store s) t c1 c2 w1 w2 n (times (k - 1) p file t.at t.tags n) r → Right (list_store s) from c c2 w w2 n (times k p file from.at from.tags n) r
  unfolding all_cells all_rows all_nodes all_rows_in
  times-right z h c2 w2 n a (Ok u) b =
      took_then (list_store s) z a b (a.value ∷ b.value) (record { nodes = refl; rows_in = refl; cells = refl; rows = refl }) (rw (times_more p file from.at from.tags n k h, a.is, b.is))
  times-right z h c2 w2 n a (Err failed) b = rw (times_more p file from.at from.tags n k h, a.is, b)

-- `left` of k parts are still to read, from the spot t on: what is right for them is right for all k
pub record Underway {A : Type 0} (s : Store A) (p : Reader A) (file : List ℕ) (k left : ℕ) (from t : Spot) (c c1 w w1 : List ℕ) : Type 0 where
  pub ends : (c2 w2 : List ℕ) (r : Result Spot Refusal) (n : ℕ) → Right (list_store s) t c1 c2 w1 w2 n (times left p file t.at t.tags n) r →
      Right (list_store s) from c c2 w w2 n (times k p file from.at from.tags n) r
  pub few : t.tags ≤ max_tags
  pub grown : from.tags + t.made ≤ from.made + t.tags

pub none_read : {A : Type 0} (s : Store A) (p : Reader A) (file : List ℕ) (k left : ℕ) (from : Spot) (c w : List ℕ) → left ≡ k → from.tags ≤ max_tags → Underway s p file k left from from c c w w
none_read s p file k left from c w e l = record { ends = λ c2 w2 r n h. rw e at h; few = l; grown = omega arith }

module _ {A : Type 0} {s : Store A} {p : Reader A} {file : List ℕ} {k left : ℕ} {from t : Spot} {c c1 w w1 : List ℕ} (u : Underway s p file k left from t c c1 w w1) where
  pub one_read : Sized s → (left ≡ 0 → ⊥) → (left' : ℕ) → left' ≡ left - 1 → {t' : Spot} {c2 w2 : List ℕ} → ((n : ℕ) → Took s t c1 c2 w1 w2 n (p file t.at t.tags n) t') →
      Underway s p file k left' from t' c c2 w w2
  one_read z h left' e a =
      record {
        ends = λ c3 w3 r n b. u.ends c3 w3 r n (times-right s p file t left z h c3 w3 n (a n) r (rw e at b));
        few = (a 0).few;
        grown = omega (arith, u.grown, (a 0).grown, (a 0).made_is);
      }

  pub one_refused : (left ≡ 0 → ⊥) → (e : Refusal) → ((n : ℕ) → p file t.at t.tags n ≡ bad (code_of e.reason) e.place) → (n : ℕ) → times k p file from.at from.tags n ≡ bad (code_of e.reason) e.place
  one_refused h e b n = u.ends c1 w1 (Err e) n (times-bad p file t.at t.tags n left h (b n))

  pub all_read : left ≡ 0 → (n : ℕ) → Right (list_store s) from c c1 w w1 n (times k p file from.at from.tags n) (Ok t)
  all_read h n = u.ends c1 w1 (Ok t) n (times_none s p file t left c1 w1 h u.few n)

-- as many as were asked for
pub times-holds : {A : Type 0} (k : ℕ) (p : Reader A) (file : List ℕ) (at tags n : ℕ) → Holds (λ xs a t m. length xs ≡ k) (times k p file at tags n)
unfolding times
times-holds zero p file at tags n = refl
times-holds {A} (suc k) p file at tags n =
    holds_then (λ x a t m. Unit {0}) (λ (xs : List A) a t m. length xs ≡ suc k) (p file at tags n) _ (any-holds (p file at tags n)) λ x a t m h.
    holds_then (λ (xs : List A) a t m. length xs ≡ k) (λ (xs : List A) a t m. length xs ≡ suc k) (times k p file a t m) _ (times-holds k p file a t m) λ xs a' t' m' g. ap suc g
  where
    any-holds : (r : Res A) → Holds (λ x a t m. Unit {0}) r
    any-holds (ok x a t m) = tt
    any-holds (bad code place) = tt

pub times-length : {A : Type 0} (k : ℕ) (p : Reader A) (file : List ℕ) (at tags n : ℕ) {xs : List A} {at' tags' n' : ℕ} → times k p file at tags n ≡ ok xs at' tags' n' → length xs ≡ k
times-length {A} k p file at tags n e = holds-ok (λ (xs : List A) a t m. length xs ≡ k) e (times-holds k p file at tags n)

-- at least a node for each
pub many_nodes : {A : Type 0} (s : Store A) → ((a : A) → 0 < s.nodes_in a) → (xs : List A) → length xs ≤ all_nodes s xs
unfolding all_nodes
many_nodes s some [] = omega arith
many_nodes s some (x ∷ xs) = omega (arith, some x, many_nodes s some xs)
