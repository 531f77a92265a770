-- The frame laws: nodes and rows below what is kept stand for what they stood for. Assumes nothing.
use mathlib.Core.Path.{◌≡◌, refl, sym, ap, ap₂, ◌∙◌}
use mathlib.Core.List.{List, ◌∷◌}
use Prim.Native.Nat.{ℕ, zero, suc, ◌+◌, ◌*◌, ◌<◌, ◌≤◌}
use native.Mathlib.Omega.{arith}
use lib.Dec.{ltb}
use Rattle.cpl.specs.Plan.{pair}
use Rattle.arena.specs.Cells.{NodeOk, Wf, expr_at, expr_fuel, node_of, tag_at, x_at, y_at}
use Rattle.arena.specs.Kept.{Kept}
use Rattle.arena.specs.Rows.{RowOk, RowsOk, item_at, items_at, mark_at, pair_at, root_at}
use Rattle.arena.proofs.Laws.{below}

pub kept_refl : (m : ℕ) (s : List ℕ) → Kept m s s
kept_refl m s = record { same = λ k h. refl; long = refl }

pub kept_trans : {m n : ℕ} {s s₁ s₂ : List ℕ} → m ≤ n → Kept m s s₁ → Kept n s₁ s₂ → Kept m s s₂
kept_trans h p q = record { same = λ k l. q.same k (omega arith) ∙ p.same k l; long = q.long ∙ p.long }

-- the first n nodes
module _ {s s' : List ℕ} (n : ℕ) (p : Kept (n * 3) s s') where
  kept-tag : (i : ℕ) → i < n → tag_at s' i ≡ tag_at s i
  kept-tag i h = p.same (i * 3) (omega arith)

  kept_x : (i : ℕ) → i < n → x_at s' i ≡ x_at s i
  kept_x i h = p.same (i * 3 + 1) (omega arith)

  kept-y : (i : ℕ) → i < n → y_at s' i ≡ y_at s i
  kept-y i h = p.same (i * 3 + 2) (omega arith)

  kept_fuel : (f i : ℕ) → i < n → expr_fuel f s' i ≡ expr_fuel f s i
  unfolding expr_fuel
  kept_fuel zero i h = refl
  kept_fuel (suc f) i h =
      rw (kept-tag i h, kept_x i h, kept-y i h)
      (ap₂ (node_of (tag_at s i) (x_at s i) (y_at s i))
      (below (x_at s i) i (ltb (x_at s i) i) _ _ refl (λ l. kept_fuel f (x_at s i) (omega arith)))
      (below (y_at s i) i (ltb (y_at s i) i) _ _ refl (λ l. kept_fuel f (y_at s i) (omega arith))))

  pub kept_expr : (i : ℕ) → i < n → expr_at s' i ≡ expr_at s i
  unfolding expr_at
  kept_expr i h = kept_fuel (suc i) i h

  kept-ok : (i : ℕ) → i < n → NodeOk s i → NodeOk s' i
  kept-ok i h o = record {
    inside = rw p.long o.inside;
    known = rw (kept-tag i h) o.known;
    column = rw (kept-tag i h, kept_x i h, kept-y i h) o.column;
    first = rw (kept-tag i h, kept_x i h) o.first;
    second = rw (kept-tag i h, kept-y i h) o.second;
  }

  pub kept-wf : (m : ℕ) → m ≤ n → Wf s m → Wf s' m
  unfolding Wf
  kept-wf m l w k h = kept-ok k (omega arith) (w k h)

-- the first m rows, whose nodes are among the first n
module _ {s s' cells cells' : List ℕ} (m n : ℕ) (p : Kept (m * 4) s s') (q : Kept (n * 3) cells cells') where
  module _ (i : ℕ) (h : i < m) where
    pub kept_pair : pair_at s' i ≡ pair_at s i
    kept_pair = ap₂ pair (p.same (i * 4) (omega arith)) (p.same (i * 4 + 1) (omega arith))

    kept_mark : mark_at s' i ≡ mark_at s i
    kept_mark = p.same (i * 4 + 2) (omega arith)

    pub kept-root : root_at s' i ≡ root_at s i
    kept-root = p.same (i * 4 + 3) (omega arith)

    module _ (l : root_at s i < n) where
      pub kept-item : item_at s' cells' i ≡ item_at s cells i
      unfolding item_at
      kept-item = cc (kept_mark, kept_pair, ap (expr_at cells') kept-root, kept_expr n q (root_at s i) l)

      pub kept_row : RowOk s cells i → RowOk s' cells' i
      kept_row o = record {
        inside = rw p.long o.inside;
        node = rw kept-root (kept-wf n q (root_at s i + 1) (omega arith) o.node);
        bare = λ e. ap (expr_at cells') kept-root ∙ kept_expr n q (root_at s i) l ∙ o.bare (sym kept_mark ∙ e) ∙ cc (kept_pair);
      }

  pub kept-items : (f c : ℕ) → f + c ≤ m → ((k : ℕ) → f ≤ k → k < f + c → root_at s k < n) → items_at s' cells' f c ≡ items_at s cells f c
  unfolding items_at
  kept-items f zero h r = refl
  kept-items f (suc c) h r = ap₂ ◌∷◌ (kept-item f (omega arith) (r f (omega arith) (omega arith))) (kept-items (suc f) c (omega arith) (λ k a b. r k (omega arith) (omega arith)))

  pub kept-rows : (f c : ℕ) → f + c ≤ m → ((k : ℕ) → f ≤ k → k < f + c → root_at s k < n) → RowsOk s cells f c → RowsOk s' cells' f c
  kept-rows f c h r o = record { room = rw p.long o.room; each = λ k a b. kept_row k (omega arith) (r k a b) (o.each k a b) }
