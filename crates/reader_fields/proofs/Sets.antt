-- Laws of stores and of right answers. Assumes nothing.
use Prim.Native.Nat.{ℕ, suc, ◌+◌, ◌*◌, ◌≤◌, ◌<◌}
use mathlib.Core.Path.{◌≡◌, refl, sym, ap, ◌∙◌}
use mathlib.Core.List.{List, [], ◌∷◌, ◌++◌}
use native.Mathlib.Omega.{arith}
use native.Mathlib.Nat.{add-zero}
use lib.ListN.{length, set, length-append, take, drop}
use lib.Seq.{sets, sets-eq}
use borrow.Rule.Slice.PartMut.{put_mid}
use Rattle.std.proofs.lemmas.List.{take_all}
use Rattle.std.proofs.lemmas.Slice.{put_mid-paste}
use Rattle.std.specs.Prelude.{Result, Ok, Err}
use Rattle.cpl.specs.Plan.{pair, Expr, col, lit, miss, un, bin}
use Rattle.cpl.specs.Exprs.{expr_tags}
use Rattle.cpl.specs.Read.{Res}
use Rattle.tree.specs.Layout.{Store, expr_cells}
use Rattle.reader_fields.specs.Answers.{Right}
use Rattle.refusals.specs.declared.Refusal.{Refusal}
use Rattle.reader_fields.specs.declared.Spot.{Spot}

-- stores that follow one another are the stores of both lists
pub sets_append : (xs l : List ℕ) (i j : ℕ) (ys : List ℕ) → j ≡ i + length xs → sets (sets l i xs) j ys ≡ sets l i (xs ++ ys)
sets_append [] l i j ys e = ap (λ (k : ℕ). sets l k ys) (e ∙ add-zero i)
sets_append (x ∷ xs) l i j ys e = sets_append xs (set l i x) (suc i) j ys (omega (arith, e))

-- what was copied into a part of a list is stored there
pub sets_copied : (i k : ℕ) (l ys vs : List ℕ) → ys ≡ vs → k ≡ length vs → i + length vs ≤ length l → put_mid i k l ys ≡ sets l i vs
sets_copied i k l ys vs e n h =
    put_mid-paste i k l ys vs (length vs) e (sym n) refl ∙ ap (λ (zs : List ℕ). take i l ++ zs ++ drop (i + length vs) l) (take_all (length vs) vs (omega arith)) ∙ sym (sets-eq vs l i h)

-- one store after the other, by their equations
pub sets_then : (xs ys l l' l'' : List ℕ) (i j : ℕ) → l' ≡ sets l i xs → l'' ≡ sets l' j ys → j ≡ i + length xs → l'' ≡ sets l i (xs ++ ys)
sets_then xs ys l l' l'' i j e f h = f ∙ ap (λ (m : List ℕ). sets m j ys) e ∙ sets_append xs l i j ys h

pub expr_some : (e : Expr) → 0 < expr_tags e
unfolding expr_tags
expr_some (col c) = omega arith
expr_some (lit z) = omega arith
expr_some miss = omega arith
expr_some (un o a) = omega arith
expr_some (bin o a b) = omega arith

pub expr_long : (made : ℕ) (e : Expr) → length (expr_cells made e) ≡ 3 * expr_tags e
unfolding expr_tags expr_cells
expr_long made (col (pair q n)) = refl
expr_long made (lit z) = refl
expr_long made miss = refl
expr_long made (un o a) = simp length-append (omega (arith, expr_long made a))
expr_long made (bin o a b) = simp length-append (omega (arith, expr_long made a, expr_long (made + expr_tags a) b))

-- a right answer, where the reader started from another offset or counted tags before
pub right_as : {A : Type 0} (s : Store A) (from from' : Spot) (cells cells' rows rows' : List ℕ) (n : ℕ) {x x' : Res A} (r : Result Spot Refusal) →
    from'.made ≡ from.made → from'.row ≡ from.row → from'.tags ≤ from.tags → x' ≡ x →
    Right s from cells cells' rows rows' n x r → Right s from' cells cells' rows rows' n x' r
right_as s from from' cells cells' rows rows' n (Ok t) m w l e h =
    record {
      value = h.value;
      is = e ∙ h.is;
      made_is = h.made_is ∙ ap (λ (k : ℕ). k + s.nodes_in h.value) (sym m);
      row_is = h.row_is ∙ ap (λ (k : ℕ). k + s.rows_held h.value) (sym w);
      cells_are = rw m h.cells_are;
      rows_are = rw (m, w) h.rows_are;
      grown = omega (arith, h.grown);
      few = h.few;
    }
right_as s from from' cells cells' rows rows' n (Err e') m w l e h = e ∙ h
