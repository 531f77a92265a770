-- The laws of definitions: what a column finds, and what replacing makes of an expression. Assumes nothing.
use mathlib.Core.Path.{◌≡◌, refl, sym, ap, ap₂, ◌∙◌}
use mathlib.Core.Bool.{Bool, true, false, cond, ◌&&◌, ◌||◌}
use mathlib.Core.List.{List}
use Prim.Native.Nat.{ℕ, zero, suc, ◌+◌, ◌-◌, ◌<◌, ◌≤◌}
use native.Mathlib.Omega.{arith}
use lib.Dec.{eqb}
use Rattle.cpl.specs.Plan.{Expr, Item, Pair, bare, bin, col, item_pair, lit, miss, named, pair, un}
use Rattle.cpl.specs.Exprs.{fits}
use Rattle.cpl.proofs.Lookup.{fits-is}
use Rattle.rules.specs.Merge.{def_of, replace}
use Rattle.arena.specs.Cells.{Wf, expr_at}
use Rattle.arena.specs.Rows.{RowIs, RowOk, RowsOk, item_at, items_at, mark_at, pair_at, root_at, row_item}
use Rattle.arena.proofs.Rows.{item_expr_lem}
use Rattle.arena_build.specs.Build.{find_in, put_for}
use Rattle.arena_build.specs.declared.Level.{Level}
use Rattle.arena_build.specs.declared.Level.TheVariants.{Copy, Replace}
use Rattle.std.proofs.Common.{Some, None}

-- ── what a column finds ─────────────────────────────────────────────────────────────────────

-- a search that has passed the rows before row i
pub record Passed (s : List ℕ) (f n : ℕ) (c : Pair) (i : ℕ) : Type 0 where
  pub upto : i ≤ f + n
  pub same : find_in s i (f + n - i) c ≡ find_in s f n c

module _ (s : List ℕ) (f n : ℕ) (c : Pair) where
  find-next : (i : ℕ) → i < f + n → find_in s i (f + n - i) c ≡ cond (fits c (pair_at s i)) (Some (root_at s i)) (find_in s (i + 1) (f + n - (i + 1)) c)
  unfolding find_in
  find-next i h =
      let e : f + n - i ≡ suc (f + n - (i + 1)) = omega arith in
      let g : suc i ≡ i + 1 = omega arith in
      ap (λ k. find_in s i k c) e ∙ ap (λ k. cond (fits c (pair_at s i)) (Some (root_at s i)) (find_in s k (f + n - (i + 1)) c)) g

  pub passed_all : (i : ℕ) → Passed s f n c i → f + n ≤ i → None ≡ find_in s f n c
  unfolding find_in
  passed_all i p h = let e : f + n - i ≡ 0 = omega arith in sym (ap (λ k. find_in s i k c) e) ∙ p.same

-- the code's test of a row's pair
fits_test : {s : List ℕ} {i a b t k : ℕ} {z : Bool} (q m : ℕ) → RowIs s i a b t k → eqb m b && (eqb q 0 || eqb q a) ≡ z → fits (pair q m) (pair_at s i) ≡ z
fits_test {a = a} {b} q m r e = sym (ap (fits (pair q m)) r.pair_is) ∙ fits-is q m a b ∙ e

module _ (s : List ℕ) (f n q m : ℕ) where
  pub passed_more : (i a b t k : ℕ) → Passed s f n (pair q m) i → i < f + n → RowIs s i a b t k → eqb m b && (eqb q 0 || eqb q a) ≡ false → Passed s f n (pair q m) (i + 1)
  passed_more i a b t k p h r e = record { upto = omega arith; same = sym (find-next s f n (pair q m) i h ∙ rw (fits_test q m r e)) ∙ p.same }

  pub passed_found : (i a b t k : ℕ) → Passed s f n (pair q m) i → i < f + n → RowIs s i a b t k → eqb m b && (eqb q 0 || eqb q a) ≡ true → Some k ≡ find_in s f n (pair q m)
  passed_found i a b t k p h r e = ap Some r.root_is ∙ sym (find-next s f n (pair q m) i h ∙ rw (fits_test q m r e)) ∙ p.same

-- ── the definition of a column ──────────────────────────────────────────────────────────────

pub item-pair : (s cells : List ℕ) (i : ℕ) → item_pair (item_at s cells i) ≡ pair_at s i
unfolding item_at item_pair row_item
item-pair s cells i = go (eqb (mark_at s i) 0)
  where
    go : (b : Bool) → item_pair (cond b (bare (pair_at s i)) (named (pair_at s i) (expr_at cells (root_at s i)))) ≡ pair_at s i
    go true = refl
    go false = refl

less : {s cells : List ℕ} {f n : ℕ} → RowsOk s cells f (suc n) → RowsOk s cells (suc f) n
less o = record { room = omega (arith, o.room); each = λ k h l. o.each k (omega arith) (omega arith) }

module _ (s cells : List ℕ) (c : Pair) where
  def_next : (f n : ℕ) → RowOk s cells f → def_of c (items_at s cells f (suc n)) ≡ cond (fits c (pair_at s f)) (expr_at cells (root_at s f)) (def_of c (items_at s cells (suc f) n))
  unfolding def_of items_at
  def_next f n o = rw (item-pair s cells f, item_expr_lem s cells f o)

  pub def_found : (f n j : ℕ) → RowsOk s cells f n → find_in s f n c ≡ Some j → (def_of c (items_at s cells f n) ≡ expr_at cells j) × Wf cells (j + 1)
  unfolding find_in
  def_found f zero j o e = let z : ◌≡◌ {A = ℕ} 0 1 = cc in absurd (omega arith)
  def_found f (suc n) j o e =
      let r = o.each f (omega arith) (omega arith) in
      go (def_found (suc f) n j (less o)) r.node (fits c (pair_at s f)) e (def_next f n r)
    where
      go : (find_in s (suc f) n c ≡ Some j → (def_of c (items_at s cells (suc f) n) ≡ expr_at cells j) × Wf cells (j + 1)) → Wf cells (root_at s f + 1) → (b : Bool)
          → cond b (Some (root_at s f)) (find_in s (suc f) n c) ≡ Some j → def_of c (items_at s cells f (suc n)) ≡ cond b (expr_at cells (root_at s f)) (def_of c (items_at s cells (suc f) n))
          → (def_of c (items_at s cells f (suc n)) ≡ expr_at cells j) × Wf cells (j + 1)
      go rest w true h d = let k : root_at s f ≡ j = cc in (d ∙ ap (expr_at cells) k, rw k at w)
      go rest w false h d = let p = rest h in (d ∙ p.0, p.1)

  pub def_none : (f n : ℕ) → RowsOk s cells f n → find_in s f n c ≡ None → def_of c (items_at s cells f n) ≡ miss
  unfolding find_in def_of items_at
  def_none f zero o e = refl
  def_none f (suc n) o e = go (def_none (suc f) n (less o)) (fits c (pair_at s f)) e (def_next f n (o.each f (omega arith) (omega arith)))
    where
      go : (find_in s (suc f) n c ≡ None → def_of c (items_at s cells (suc f) n) ≡ miss) → (b : Bool) → cond b (Some (root_at s f)) (find_in s (suc f) n c) ≡ None
          → def_of c (items_at s cells f (suc n)) ≡ cond b (expr_at cells (root_at s f)) (def_of c (items_at s cells (suc f) n)) → def_of c (items_at s cells f (suc n)) ≡ miss
      go rest true h d = let z : ◌≡◌ {A = ℕ} 0 1 = cc in absurd (omega arith)
      go rest false h d = d ∙ rest h

-- ── replacing ───────────────────────────────────────────────────────────────────────────────

-- at level Copy nothing is replaced
pub copy_same : (is : List Item) (e : Expr) → replace (put_for Copy is) e ≡ e
unfolding replace put_for
copy_same is (col c) = refl
copy_same is (lit z) = refl
copy_same is miss = refl
copy_same is (un o a) = ap (un o) (copy_same is a)
copy_same is (bin o a b) = ap₂ (bin o) (copy_same is a) (copy_same is b)

pub put_copy : (v : Level) (is : List Item) (c : Pair) → v ≡ Copy → put_for v is c ≡ col c
unfolding put_for
put_copy v is c h = rw h

pub put_replaced : (v : Level) (is : List Item) (c : Pair) → v ≡ Replace → put_for v is c ≡ def_of c is
unfolding put_for
put_replaced v is c h = rw h
