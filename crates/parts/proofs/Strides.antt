-- Things that take several rows each, one after the other. Assumes nothing.
use mathlib.Core.Bool.{Bool, ◌&&◌}
use mathlib.Core.Path.{◌≡◌, refl, sym, ap, ap₂, ◌∙◌, subst}
use mathlib.Core.List.{List, [], ◌∷◌, ◌++◌, map}
use Prim.Native.Nat.{ℕ, suc, ◌+◌, ◌-◌, ◌<◌, ◌≤◌}
use native.Mathlib.Omega.{arith}
use Rattle.std.specs.Prelude
use Rattle.cpl.specs.Accept.{Test}
use Rattle.cpl.specs.Exprs.{definite, known}
use Rattle.cpl.specs.Tests.{all_b}
use Rattle.cpl.specs.Plan.{Pair}
use Rattle.tree.specs.Rows.{AllAt, list_at, one}
use Rattle.lookup.specs.Answers.{Resolved, resolved_of, resolving, worse}
use Rattle.lookup.specs.Fields.{Filled, Kept, field_at, row_at}
use Rattle.lookup.proofs.Lists.{list-map, list-moved}
use Rattle.lookup.proofs.Resolving.{Tests, all_seen, seen_next, seen_none, worse_assoc, worse-fine}
use Rattle.lookup.proofs.Rows.{Filling, fill_all, fill_more, fill_none}

module _ (Ok : ℕ → Type 0) (size : ℕ → ℕ) (r n i : ℕ) where
  pub all_here : AllAt Ok size r (n - i) → i < n → Ok r
  unfolding AllAt
  all_here o h = let e : n - i ≡ suc (n - (i + 1)) = omega arith in (subst (AllAt Ok size r) e o).0

  all_after : AllAt Ok size r (n - i) → i < n → AllAt Ok size (r + size r) (n - (i + 1))
  unfolding AllAt
  all_after o h = let e : n - i ≡ suc (n - (i + 1)) = omega arith in (subst (AllAt Ok size r) e o).1

pub all_whole : (Ok : ℕ → Type 0) (size : ℕ → ℕ) (r n : ℕ) → AllAt Ok size r n → AllAt Ok size r (n - 0)
all_whole Ok size r n o = let e : n ≡ n - 0 = omega arith in subst (AllAt Ok size r) e o

pub all-next : (Ok : ℕ → Type 0) (size : ℕ → ℕ) (r n i : ℕ) {next : ℕ} → AllAt Ok size r (n - i) → i < n → next ≡ r + size r → AllAt Ok size next (n - (i + 1))
all-next Ok size r n i o h d = subst (λ x. AllAt Ok size x (n - (i + 1))) (sym d) (all_after Ok size r n i o h)

pub list-here : {A : Type 0} (read : ℕ → A) (size : ℕ → ℕ) (r n i : ℕ) → i < n → list_at read size r (n - i) ≡ read r ∷ list_at read size (r + size r) (n - (i + 1))
unfolding list_at
list-here read size r n i h = let e : n - i ≡ suc (n - (i + 1)) = omega arith in ap (list_at read size r) e

pub list-end : {A : Type 0} (read : ℕ → A) (size : ℕ → ℕ) (r n i : ℕ) → n ≤ i → list_at read size r (n - i) ≡ []
unfolding list_at
list-end read size r n i h = let e : n - i ≡ 0 = omega arith in ap (list_at read size r) e

-- things from thing `first` on, counted from 0
pub list-from : {A : Type 0} (read : ℕ → A) (first n : ℕ) → list_at (λ i. read (first + i)) one 0 n ≡ list_at read one first n
list-from read first n = list-moved (λ i. read (first + i)) read 0 first n (λ i h. let e : first + (0 + i) ≡ first + i = omega arith in ap read e)

all-map : {A B : Type 0} (p : B → Bool) (g : A → B) (xs : List A) → all_b (λ x. p (g x)) xs ≡ all_b p (map g xs)
unfolding all_b
all-map p g [] = refl
all-map p g (x ∷ xs) = ap (p (g x) &&◌) (all-map p g xs)

-- x is what the first i things find; the next is at row r
pub record Told {A : Type 0} (F : Tests A) (read : ℕ → A) (size : ℕ → ℕ) (f n r i : ℕ) (x : Resolved) : Type 0 where
  pub upto : i ≤ n
  pub same : worse x (all_seen F (list_at read size r (n - i))) ≡ all_seen F (list_at read size f n)

module _ {A : Type 0} (F : Tests A) (read : ℕ → A) (size : ℕ → ℕ) (f n : ℕ) where
  pub told_none : (r : ℕ) → r ≡ f → Told F read size f n r 0 (Prelude.Ok tt)
  told_none r e = let d : n - 0 ≡ n = omega arith in record { upto = omega arith; same = ap₂ (λ a b. all_seen F (list_at read size a b)) e d }

  module _ (r i : ℕ) {x : Resolved} (t : Told F read size f n r i x) where
    pub told_more : (next : ℕ) {y z : Resolved} → i < n → y ≡ resolving (F (read r)) → z ≡ worse x y → next ≡ r + size r → Told F read size f n next (i + 1) z
    told_more next {y} {z} h e w d =
        let here = resolving (F (read r)) in
        let later = all_seen F (list_at read size (r + size r) (n - (i + 1))) in
        record {
          upto = omega arith;
          same = ap₂ (λ a b. worse a (all_seen F (list_at read size b (n - (i + 1))))) (w ∙ ap (worse x) e) d ∙ worse_assoc x here later
              ∙ ap (worse x) (sym (ap (all_seen F) (list-here read size r n i h) ∙ seen_next F (read r) (list_at read size (r + size r) (n - (i + 1))))) ∙ t.same;
        }

    pub told_all : n ≤ i → x ≡ all_seen F (list_at read size f n)
    told_all h = sym (ap (worse x) (ap (all_seen F) (list-end read size r n i h) ∙ seen_none F) ∙ worse-fine x) ∙ t.same

-- what things from thing `first` on find, counted from 0
pub seen-from : {A : Type 0} (F : Tests A) (read : ℕ → A) (first n : ℕ) → resolving (λ test. all_b (λ i. F (read (first + i)) test) (list_at (λ i. i) one 0 n)) ≡ all_seen F (list_at read one first n)
seen-from F read first n =
    ap₂ resolved_of (by known) (by definite)
  where
    by : (test : Test) → all_b (λ i. F (read (first + i)) test) (list_at (λ i. i) one 0 n) ≡ all_b (λ x. F x test) (list_at read one first n)
    by test =
        all-map (λ x. F x test) (λ i. read (first + i)) (list_at (λ i. i) one 0 n)
        ∙ ap (all_b (λ x. F x test)) (list-map (λ i. read (first + i)) (λ i. i) one 0 n ∙ list-from read first n)

-- the fields from field `to` on are filled, up to thing i
pub record Strode (Ok : ℕ → Type 0) (read : ℕ → Pair) (size : ℕ → ℕ) (n to r i : ℕ) (fs : List Pair) (s s' : List ℕ) : Type 0 where
  pub upto : i ≤ n
  pub ok : AllAt Ok size r (n - i)
  pub filling : Filling to i (list_at read size r (n - i)) fs s s'

module _ (Ok : ℕ → Type 0) (read : ℕ → Pair) (size : ℕ → ℕ) (n to : ℕ) where
  pub strode_none : (f : ℕ) (s : List ℕ) → AllAt Ok size f n → Strode Ok read size n to f 0 (list_at read size f n) s s
  strode_none f s o =
      let e : n ≡ n - 0 = omega arith in
      record {
        upto = omega arith;
        ok = all_whole Ok size f n o;
        filling = subst (λ x. Filling to 0 (list_at read size f x) (list_at read size f n) s s) e (fill_none to (list_at read size f n) s);
      }

  pub strode_more : (r i : ℕ) {next : ℕ} {fs : List Pair} {s s₁ s₂ : List ℕ} → Strode Ok read size n to r i fs s s₁ → i < n → field_at s₂ (to + i) ≡ read r → Kept field_at (to + i) (to + i + 1) s₁ s₂
      → next ≡ r + size r → Strode Ok read size n to next (i + 1) fs s s₂
  strode_more r i {next} {fs} {s} {s₁} {s₂} p h e q d =
      let now : Filling to i (read r ∷ list_at read size (r + size r) (n - (i + 1))) fs s s₁ =
      record { row = ap (row_at s₁ to i ++◌) (sym (list-here read size r n i h)) ∙ p.filling.row; kept = p.filling.kept } in
      record {
        upto = omega arith;
        ok = all-next Ok size r n i p.ok h d;
        filling = subst (λ x. Filling to (i + 1) (list_at read size x (n - (i + 1))) fs s s₂) (sym d) (fill_more now e q);
      }

  pub strode_all : (r i : ℕ) {fs : List Pair} {s s' : List ℕ} → Strode Ok read size n to r i fs s s' → n ≤ i → Filled to n fs s s'
  strode_all r i {fs} {s} {s'} p h =
      let e : i ≡ n = omega (arith, p.upto) in
      let d : Filling to i [] fs s s' = record { row = ap (row_at s' to i ++◌) (sym (list-end read size r n i h)) ∙ p.filling.row; kept = p.filling.kept } in
      fill_all (subst (λ x. Filling to x [] fs s s') e d)
