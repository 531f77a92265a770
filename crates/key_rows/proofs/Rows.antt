-- The two layouts: a pair more, and that they stand for one list. Assumes nothing.
use mathlib.Core.Path.{◌≡◌, refl, sym, ap, ap₂, subst, ◌∙◌}
use mathlib.Core.List.{List, ◌∷◌}
use Prim.Native.Nat.{ℕ, zero, suc, ◌+◌, ◌*◌, ◌<◌, ◌≤◌}
use native.Mathlib.Decide.{ℕ_discrete}
use native.Mathlib.Numerals.{add-one}
use native.Mathlib.Omega.{arith}
use lib.ListN.{length, get_or, set, length-set}
use lib.Seq.{get_or-set_other, get_or-set_same}
use Rattle.cpl.specs.Plan.{on}
use Rattle.arena.specs.Cells.{Wf, expr_at}
use Rattle.arena.specs.Rows.{mark_at, root_at}
use Rattle.tree.specs.Rows.{EachOk, OnOk, list_at, on_at, one, ons_at}
use Rattle.tree.specs.Shows.{OnIs}
use Rattle.join_key_set.specs.Pairs.{KeysIn, KeysOk, key_at, keys_at, left_at, put_key, right_at}
use Rattle.key_rows.specs.Rows.{SameKeys}

-- two numbers stored side by side
module _ (s : List ℕ) (at x y : ℕ) (h : at + 1 < length s) where
  first_is : get_or (set (set s at x) (at + 1) y) at 0 ≡ x
  first_is = get_or-set_other (set s at x) (at + 1) at y 0 (λ e. omega arith) ∙ get_or-set_same s at x 0 (omega arith)

  second_is : get_or (set (set s at x) (at + 1) y) (at + 1) 0 ≡ y
  second_is = get_or-set_same (set s at x) (at + 1) y 0 (simp length-set h)

  other-is : (j : ℕ) → (j ≡ at → ⊥) → (j ≡ at + 1 → ⊥) → get_or (set (set s at x) (at + 1) y) j 0 ≡ get_or s j 0
  other-is j a b = get_or-set_other (set s at x) (at + 1) j y 0 b ∙ get_or-set_other s at j x 0 a

pub put_long : (pairs : List ℕ) (i l r : ℕ) → length (put_key pairs i l r) ≡ length pairs
unfolding put_key
put_long pairs i l r = simp length-set

-- the pair of row i
pub pairs-more : {i l r : ℕ} {rows : List ℕ} (pairs : List ℕ) → i * 2 + 1 < length pairs → SameKeys i rows pairs → OnIs rows i l r → SameKeys (i + 1) rows (put_key pairs i l r)
unfolding put_key
pairs-more {i} {l} {r} {rows} pairs h s o = record {
  left = λ k b. elim (ℕ_discrete k i) [
    | yes e ↦ ap (left_at (put_key pairs i l r)) e ∙ first_is pairs (i * 2) l r h ∙ o.left_is ∙ ap (mark_at rows) (sym e)
    | no d ↦ other-is pairs (i * 2) l r h (k * 2) (λ e. d (omega arith)) (λ e. d (omega arith)) ∙ s.left k (omega arith)
  ];
  right = λ k b. elim (ℕ_discrete k i) [
    | yes e ↦ ap (right_at (put_key pairs i l r)) e ∙ second_is pairs (i * 2) l r h ∙ o.right_is ∙ ap (root_at rows) (sym e)
    | no d ↦ other-is pairs (i * 2) l r h (k * 2 + 1) (λ e. d (omega arith)) (λ e. d (omega arith)) ∙ s.right k (omega arith)
  ];
}

-- ── the list that they stand for ────────────────────────────────────────────────────────────

module _ {n : ℕ} {rows pairs : List ℕ} (cells : List ℕ) (s : SameKeys n rows pairs) where
  from_on : (k m : ℕ) → k + m ≤ n → ons_at rows cells k m ≡ keys_at cells pairs k m
  unfolding list_at on_at key_at keys_at
  from_on k zero h = refl
  from_on k (suc m) h =
      ap₂ ◌∷◌ (ap₂ on (ap (expr_at cells) (sym (s.left k (omega arith)))) (ap (expr_at cells) (sym (s.right k (omega arith)))))
      (ap (λ j. list_at (on_at rows cells) one j m) (add-one k) ∙ from_on (suc k) m (omega arith))

  pub same-list : ons_at rows cells 0 n ≡ keys_at cells pairs 0 n
  same-list = from_on 0 n (omega arith)

  -- the rows of pairs that are well formed are
  pub rows_ok : n * 4 ≤ length rows → KeysOk cells pairs 0 n → EachOk (OnOk rows cells) rows 0 n
  rows_ok h o = record {
    room = omega arith;
    each = λ k a b. record {
      inside = omega arith;
      left = subst (λ j. Wf cells (j + 1)) (s.left k (omega arith)) (o.left k a b);
      right = subst (λ j. Wf cells (j + 1)) (s.right k (omega arith)) (o.right k a b);
    };
  }

-- the pairs of rows whose nodes are among the first m
pub keys_in : {n m : ℕ} {rows pairs : List ℕ} → SameKeys n rows pairs → n * 2 ≤ length pairs → ((k : ℕ) → k < n → (mark_at rows k < m) × (root_at rows k < m)) → KeysIn m pairs 0 n
keys_in s h f = record {
  room = omega arith;
  left = λ k a b. let l = f k (omega arith) in omega (arith, s.left k (omega arith), l.0);
  right = λ k a b. let l = f k (omega arith) in omega (arith, s.right k (omega arith), l.1);
}
