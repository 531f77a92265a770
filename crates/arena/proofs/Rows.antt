-- The laws of rows and of lists of rows. Assumes nothing.
use mathlib.Core.Path.{◌≡◌, refl, sym, ap, ap₂, ◌∙◌}
use mathlib.Core.Bool.{Bool, true, false, true≢false, ◌&&◌}
use mathlib.Core.List.{List, [], ◌∷◌}
use Prim.Native.Nat.{ℕ, zero, suc, ◌+◌, ◌-◌, ◌<◌, ◌≤◌}
use native.Mathlib.Omega.{arith}
use native.Mathlib.Decide.{ℕ_discrete}
use borrow.Author.Tests.{eq-eqb, eqb-true, ne_eqb}
use lib.Dec.{eqb}
use lib.ListN.{length}
use Rattle.std.specs.List.{list_all, range_with_len, sum_by}
use Rattle.std.proofs.Common.{add-one}
use Rattle.std.proofs.lemmas.List.Sums.{sum_by-cons}
use Rattle.cpl.specs.Exprs.{expr_tags, item_tags}
use Rattle.cpl.specs.Plan.{Expr, Item, Pair, bare, col, item_expr, named, pair}
use Rattle.cpl.specs.Tests.{all_b, sum_of}
use Rattle.rules.specs.Merge.{occurs_in}
use Rattle.arena.specs.Cells.{Wf, expr_at}
use Rattle.arena.specs.Rows.{RowIs, RowOk, RowsOk, item_at, items_at, mark_at, pair_at, root_at, row_item}
use Rattle.arena.proofs.Laws.{uses_le}

-- a row's item by its mark
pub row-bare : (m : ℕ) (c : Pair) (e : Expr) → m ≡ 0 → row_item m c e ≡ bare c
unfolding row_item
row-bare m c e h = rw (eq-eqb m 0 h)

pub row_named : (m : ℕ) (c : Pair) (e : Expr) → (m ≡ 0 → ⊥) → row_item m c e ≡ named c e
unfolding row_item
row_named m c e h = rw (ne_eqb m 0 h)

module _ (s cells : List ℕ) (i : ℕ) where
  pub item-bare : mark_at s i ≡ 0 → item_at s cells i ≡ bare (pair_at s i)
  unfolding item_at
  item-bare h = row-bare _ _ _ h

  pub item-named : (mark_at s i ≡ 0 → ⊥) → item_at s cells i ≡ named (pair_at s i) (expr_at cells (root_at s i))
  unfolding item_at
  item-named h = row_named _ _ _ h

  -- a row's node stands for its item's expression
  pub item_expr_lem : RowOk s cells i → item_expr (item_at s cells i) ≡ expr_at cells (root_at s i)
  unfolding item_expr
  item_expr_lem o = go (eqb (mark_at s i) 0) refl
    where
      go : (b : Bool) → eqb (mark_at s i) 0 ≡ b → item_expr (item_at s cells i) ≡ expr_at cells (root_at s i)
      go true e = let h = eqb-true _ _ e in ap item_expr (item-bare h) ∙ sym (o.bare h)
      go false e = ap item_expr (item-named (λ h. absurd (true≢false (sym (eq-eqb _ _ h) ∙ e))))

pub tags_le : (i : Item) → expr_tags (item_expr i) ≤ item_tags i
unfolding expr_tags item_expr item_tags
tags_le (bare c) = omega arith
tags_le (named c e) = omega arith

pub all_uses_le : (f : Pair) (is : List Item) → occurs_in f is ≤ sum_of item_tags is
unfolding occurs_in sum_of
all_uses_le f [] = omega arith
all_uses_le f (i ∷ is) = omega (arith, uses_le f (item_expr i), tags_le i, all_uses_le f is)

-- a list from its row i on
abbrev pub rest : (s cells : List ℕ) (first count i : ℕ) → List Item
rest s cells f n i = items_at s cells (f + i) (n - i)

module _ (s cells : List ℕ) (f n : ℕ) where
  pub rest_all : rest s cells f n 0 ≡ items_at s cells f n
  rest_all = ap₂ (items_at s cells) (omega arith) (omega arith)

  pub rest-next : (i : ℕ) → i < n → rest s cells f n i ≡ item_at s cells (f + i) ∷ rest s cells f n (i + 1)
  unfolding items_at
  rest-next i h =
      let e : n - i ≡ suc (n - (i + 1)) = omega arith in
      let g : suc (f + i) ≡ f + (i + 1) = omega arith in
      ap (items_at s cells (f + i)) e ∙ ap (λ k. item_at s cells (f + i) ∷ items_at s cells k (n - (i + 1))) g

  pub rest-none : (i : ℕ) → n ≤ i → rest s cells f n i ≡ []
  unfolding items_at
  rest-none i h = let e : n - i ≡ 0 = omega arith in ap (items_at s cells (f + i)) e

  pub row_ok : RowsOk s cells f n → (i : ℕ) → i < n → RowOk s cells (f + i)
  row_ok o i h = o.each (f + i) (omega arith) (omega arith)

-- a row once its four numbers are read
module _ {s : List ℕ} {i q n m k : ℕ} (cells : List ℕ) (e : RowIs s i q n m k) where
  pub read_row : item_at s cells i ≡ row_item m (pair q n) (expr_at cells k)
  unfolding item_at
  read_row = rw (e.pair_is, e.mark_is, e.root_is)

  pub read_bare_lem : m ≡ 0 → item_at s cells i ≡ bare (pair q n)
  read_bare_lem h = read_row ∙ row-bare _ _ _ h

  pub read_named : (m ≡ 0 → ⊥) → item_at s cells i ≡ named (pair q n) (expr_at cells k)
  read_named h = read_row ∙ row_named _ _ _ h

  pub read_expr_lem : RowOk s cells i → item_expr (item_at s cells i) ≡ expr_at cells k
  read_expr_lem o = item_expr_lem s cells i o ∙ ap (expr_at cells) (sym e.root_is)

  pub read_wf : RowOk s cells i → Wf cells (k + 1)
  read_wf o = rw e.root_is o.node

  pub read_col : RowOk s cells i → m ≡ 0 → expr_at cells k ≡ col (pair q n)
  read_col o h = ap (expr_at cells) e.root_is ∙ o.bare (sym e.mark_is ∙ h) ∙ ap col (sym e.pair_is)

  pub read_tags : (m ≡ 0 → ⊥) → item_tags (item_at s cells i) ≡ suc (expr_tags (expr_at cells k))
  unfolding item_tags
  read_tags h = ap item_tags (read_named h)

-- a list by its rows' numbers: what is summed or asked over it, and that no row has more tags than the list
module _ (s cells : List ℕ) where
  pub sum_rows : (g : Item → ℕ) (h : ℕ → ℕ) (f n : ℕ) → ((i : ℕ) → f ≤ i → i < f + n → h i ≡ g (item_at s cells i)) → sum_by h (range_with_len f n) ≡ sum_of g (items_at s cells f n)
  unfolding items_at sum_of
  sum_rows g h f zero e = refl
  sum_rows g h f (suc n) e = sum_by-cons h f (range_with_len (f + 1) n) ∙ rw add-one (ap₂ ◌+◌ (e f (omega arith) (omega arith)) (sum_rows g h (suc f) n (λ i l u. e i (omega arith) (omega arith))))

  pub all_rows : (g : Item → Bool) (h : ℕ → Bool) (f n : ℕ) → ((i : ℕ) → f ≤ i → i < f + n → h i ≡ g (item_at s cells i)) → list_all h (range_with_len f n) ≡ all_b g (items_at s cells f n)
  unfolding items_at all_b
  all_rows g h f zero e = refl
  all_rows g h f (suc n) e = rw add-one (ap₂ ◌&&◌ (e f (omega arith) (omega arith)) (all_rows g h (suc f) n (λ i l u. e i (omega arith) (omega arith))))

  pub row_tags : (f n i : ℕ) → f ≤ i → i < f + n → item_tags (item_at s cells i) ≤ sum_of item_tags (items_at s cells f n)
  unfolding items_at sum_of
  row_tags f zero i l u = absurd (omega arith)
  row_tags f (suc n) i l u = elim (ℕ_discrete i f) [
    | yes e ↦ omega (arith, ap (λ k. item_tags (item_at s cells k)) e)
    | no d ↦ omega (arith, row_tags (suc f) n i (omega arith) (omega arith))
  ]

-- the room that a list has for its rows
pub row_fits : {s cells : List ℕ} {f n : ℕ} → RowsOk s cells f n → (i : ℕ) → i < n → f + i < length s
row_fits o i h = omega (arith, o.room)
