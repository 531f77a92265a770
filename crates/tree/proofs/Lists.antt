-- The laws of lists of rows, and: a list whose elements are read back is read back. Assumes nothing.
use mathlib.Core.Path.{◌≡◌, refl, sym, ap, ap₂, subst, ◌∙◌}
use mathlib.Core.List.{List, [], ◌∷◌}
use Prim.Native.Nat.{ℕ, zero, suc, ◌+◌, ◌*◌, ◌-◌, ◌<◌, ◌≤◌}
use native.Mathlib.Decide.{ℕ_discrete}
use native.Mathlib.Numerals.{add-one}
use native.Mathlib.Omega.{arith}
use lib.ListN.{length, length-append}
use Rattle.cpl.specs.Lists.{All, a[], ◌a∷◌}
use Rattle.arena.specs.Cells.{Wf}
use Rattle.arena.specs.Rows.{item_at, items_at}
use Rattle.tree.specs.Layout.{Store, all_cells, all_nodes, all_rows, all_rows_in}
use Rattle.tree.specs.Rows.{AllAt, EachOk, list_at, one}
use Rattle.tree.proofs.Held.{Held, held-left, held-right, moved}

-- ── going through a list ────────────────────────────────────────────────────────────────────

pub list_length : {A : Type 0} (read : ℕ → A) (size : ℕ → ℕ) (f n : ℕ) → length (list_at read size f n) ≡ n
unfolding list_at
list_length read size f zero = refl
list_length read size f (suc n) = ap suc (list_length read size (f + size f) n)

-- things of any size: the first of them, and those after it
pub list-step : {A : Type 0} (read : ℕ → A) (size : ℕ → ℕ) (f n : ℕ) → 0 < n → list_at read size f n ≡ read f ∷ list_at read size (f + size f) (n - 1)
unfolding list_at
list-step read size f zero h = absurd (omega arith)
list-step read size f (suc n) h =
    let e : n ≡ suc n - 1 = omega arith in
    ap (λ k. read f ∷ list_at read size (f + size f) k) e

pub list-end : {A : Type 0} (read : ℕ → A) (size : ℕ → ℕ) (f : ℕ) → list_at read size f 0 ≡ []
unfolding list_at
list-end read size f = refl

pub all-step : (Ok : ℕ → Type 0) (size : ℕ → ℕ) (f n : ℕ) → AllAt Ok size f n → 0 < n → Ok f × AllAt Ok size (f + size f) (n - 1)
unfolding AllAt
all-step Ok size f zero a h = absurd (omega arith)
all-step Ok size f (suc n) a h =
    let e : n ≡ suc n - 1 = omega arith in
    (a.0, subst (AllAt Ok size (f + size f)) e a.1)

-- things of one row: the list from its place i on
module _ {A : Type 0} (read : ℕ → A) (f n : ℕ) where
  pub rest_all : list_at read one (f + 0) (n - 0) ≡ list_at read one f n
  rest_all = ap₂ (list_at read one) (omega arith) (omega arith)

  pub rest-next : (i : ℕ) → i < n → list_at read one (f + i) (n - i) ≡ read (f + i) ∷ list_at read one (f + (i + 1)) (n - (i + 1))
  rest-next i h = list-step read one (f + i) (n - i) (omega arith) ∙ ap₂ (λ j m. read (f + i) ∷ list_at read one j m) (omega arith) (omega arith)

  pub rest-none : (i : ℕ) → n ≤ i → list_at read one (f + i) (n - i) ≡ []
  rest-none i h = ap (list_at read one (f + i)) (omega arith) ∙ list-end read one (f + i)

pub items-list : (s cells : List ℕ) (f n : ℕ) → items_at s cells f n ≡ list_at (item_at s cells) one f n
unfolding items_at list_at
items-list s cells f zero = refl
items-list s cells f (suc n) = ap (λ l. item_at s cells f ∷ l) (items-list s cells (suc f) n ∙ ap (λ k. list_at (item_at s cells) one k n) (sym (add-one f)))

each_at : (Ok : ℕ → Type 0) (f n : ℕ) → AllAt Ok one f n → (k : ℕ) → f ≤ k → k < f + n → Ok k
unfolding AllAt
each_at Ok f zero a k h l = absurd (omega arith)
each_at Ok f (suc n) a k h l = elim (ℕ_discrete k f) [ yes e ↦ subst Ok (sym e) a.0 | no d ↦ each_at Ok (f + 1) n a.1 k (omega arith) (omega arith) ]

-- ── things that are stored ──────────────────────────────────────────────────────────────────

-- three numbers for each node, four for each row
pub record Sized {A : Type 0} (s : Store A) : Type 0 where
  pub cells_long : (made : ℕ) (x : A) → length (s.cells_of made x) ≡ s.nodes_in x * 3
  pub rows_long : (made : ℕ) (x : A) → length (s.rows_of made x) ≡ s.rows_held x * 4

-- a thing is read back, and the nodes up to its last are well formed
pub record Back (cells : List ℕ) {A : Type 0} (s : Store A) (read : ℕ → A) (Ok : ℕ → Type 0) (size : ℕ → ℕ) (made row : ℕ) (x : A) : Type 0 where
  pub is : read row ≡ x
  pub good : Ok row
  pub long : size row ≡ s.rows_held x
  pub wf : Wf cells (made + s.nodes_in x)

abbrev pub Reads : (cells rows : List ℕ) {A : Type 0} → Store A → (A → Type 0) → (ℕ → A) → (ℕ → Type 0) → (ℕ → ℕ) → Type 0
Reads cells rows {A} s Fit read Ok size =
    (x : A) (made row : ℕ) → Fit x → Wf cells made → Held cells (made * 3) (s.cells_of made x) → Held rows (row * 4) (s.rows_of made x) → Back cells s read Ok size made row x

module _ {A : Type 0} (s : Store A) (z : Sized s) where
  pub all-cells-long : (made : ℕ) (xs : List A) → length (all_cells s made xs) ≡ all_nodes s xs * 3
  unfolding all_cells all_nodes
  all-cells-long made [] = refl
  all-cells-long made (x ∷ xs) = simp length-append (omega (arith, z.cells_long made x, all-cells-long (made + s.nodes_in x) xs))

  pub all-rows-long : (made : ℕ) (xs : List A) → length (all_rows s made xs) ≡ all_rows_in s xs * 4
  unfolding all_rows all_rows_in
  all-rows-long made [] = refl
  all-rows-long made (x ∷ xs) = simp length-append (omega (arith, z.rows_long made x, all-rows-long (made + s.nodes_in x) xs))

  -- things of one row take as many rows as there are things
  pub one_each : ((x : A) → s.rows_held x ≡ 1) → (xs : List A) → all_rows_in s xs ≡ length xs
  unfolding all_rows_in
  one_each o [] = refl
  one_each o (x ∷ xs) = omega (arith, o x, one_each o xs)

pub record ListBack (cells : List ℕ) {A : Type 0} (s : Store A) (read : ℕ → A) (Ok : ℕ → Type 0) (size : ℕ → ℕ) (made row : ℕ) (xs : List A) : Type 0 where
  pub is : list_at read size row (length xs) ≡ xs
  pub good : AllAt Ok size row (length xs)
  pub wf : Wf cells (made + all_nodes s xs)

-- things of one row
abbrev pub ReadsAll : (cells rows : List ℕ) {A : Type 0} → Store A → (A → Type 0) → (ℕ → A) → (ℕ → Type 0) → Type 0
ReadsAll cells rows {A} s Fit read Ok =
    (xs : List A) (made row : ℕ) → All Fit xs → Wf cells made → Held cells (made * 3) (all_cells s made xs) → Held rows (row * 4) (all_rows s made xs)
    → ListBack cells s read Ok one made row xs × EachOk Ok rows row (length xs)

module _ (cells rows : List ℕ) {A : Type 0} (s : Store A) (z : Sized s) (Fit : A → Type 0) (read : ℕ → A) (Ok : ℕ → Type 0) where
  pub list_back : (size : ℕ → ℕ) → Reads cells rows s Fit read Ok size → {xs : List A} (made row : ℕ) → All Fit xs → Wf cells made
      → Held cells (made * 3) (all_cells s made xs) → Held rows (row * 4) (all_rows s made xs) → ListBack cells s read Ok size made row xs
  unfolding all_cells all_nodes all_rows list_at AllAt
  list_back size b made row a[] w h g = record { is = refl; good = tt; wf = subst (Wf cells) (omega arith) w }
  list_back size b made row (◌a∷◌ {x = x} {xs = xs} f fs) w h g =
      let p : made * 3 + s.nodes_in x * 3 ≡ (made + s.nodes_in x) * 3 = omega arith in
      let X = b x made row f w (held-left (s.cells_of made x) _ h) (held-left (s.rows_of made x) _ g) in
      let q : row * 4 + s.rows_held x * 4 ≡ (row + size row) * 4 = omega (arith, X.long) in
      let R = list_back size b (made + s.nodes_in x) (row + size row) fs X.wf
      (moved p (held-right (s.cells_of made x) _ (s.nodes_in x * 3) (z.cells_long made x) h))
      (moved q (held-right (s.rows_of made x) _ (s.rows_held x * 4) (z.rows_long made x) g)) in
      record { is = ap₂ ◌∷◌ X.is R.is; good = (X.good, R.good); wf = subst (Wf cells) (omega arith) R.wf }

  pub each_back : ((x : A) → s.rows_held x ≡ 1) → Reads cells rows s Fit read Ok one → ReadsAll cells rows s Fit read Ok
  each_back o b xs made row f w h g =
      let l = list_back one b made row f w h g in
      (l, record { room = omega (arith, g.room, all-rows-long s z made xs, one_each s z o xs); each = each_at Ok row (length xs) l.good })
