-- The table of marks: a name that is marked stays so, and a field whose name's slot is not marked is in conflict with none. Assumes nothing.
use mathlib.Core.Path.{◌≡◌, refl, sym, ap, ◌∙◌}
use mathlib.Core.Bool.{Bool, true, false, ◌&&◌, ◌||◌, true≢false}
use mathlib.Core.List.{List}
use Prim.Native.Nat.{ℕ, zero, suc, ◌+◌, ◌≤◌, ◌<◌}
use native.Mathlib.Omega.{arith}
use native.Mathlib.Numerals.{add-one}
use lib.Dec.{eqb}
use lib.ListN.{length, get_or, set, length-set}
use lib.Seq.{get_or-set_same, get_or-set_other}
use borrow.Author.Tests.{eqb-true, eqb-false, ne_eqb}
use Rattle.cpl.specs.Accept.{conflict}
use Rattle.cpl.specs.Plan.{pair}
use Rattle.cpl.specs.Tests.{any_b}
use Rattle.lookup.specs.Fields.{field_at, row_at}
use Rattle.lookup.specs.Marks.{slots, slot_of, name_at, Marked, Marks}
use Rattle.lookup.proofs.Clash.{conflict-is}
use Rattle.lookup.proofs.Lists.{Missed, left-none, missed_all, missed_more}

pub mark_set : (seen : List Bool) (n x : ℕ) → length seen ≡ slots → x ≡ slot_of n → Marks n seen (set seen x true)
mark_set seen n x l e = record { long = length-set seen x true; here = there (slot_of n) (sym e); stays = λ y m. by y m (eqb y x) refl }
  where
    there : (y : ℕ) → y ≡ x → get_or (set seen x true) y false ≡ true
    there y d = rw d (get_or-set_same seen x true false (omega arith))

    by : (y : ℕ) → get_or seen y false ≡ true → (b : Bool) → eqb y x ≡ b → get_or (set seen x true) y false ≡ true
    by y m true d = there y (eqb-true y x d)
    by y m false d = get_or-set_other seen x y true false (eqb-false y x d) ∙ m

-- fields of two names
apart : (q n r m : ℕ) → (n ≡ m → ⊥) → false ≡ conflict (pair q n) (pair r m)
apart q n r m h = sym (ap (◌&& ((eqb q r || eqb q 0) || eqb r 0)) (ne_eqb n m h)) ∙ conflict-is q n r m

name_of : {q n r m : ℕ} → pair q n ≡ pair r m → n ≡ m
name_of e = cc

module _ (s : List ℕ) (k : ℕ) where
  pub marked-none : {seen : List Bool} → length seen ≡ slots → Marked seen s k 0
  marked-none l = record { long = l; marks = λ j h. absurd (omega arith) }

  pub marked_more : {seen seen' : List Bool} (i : ℕ) {q n : ℕ} → Marked seen s k i → pair q n ≡ field_at s (k + i) → Marks n seen seen' → Marked seen' s k (i + 1)
  marked_more {seen} {seen'} i {q} {n} m e v = record { long = v.long ∙ m.long; marks = λ j h. by j h (eqb j i) refl }
    where
      by : (j : ℕ) → j < i + 1 → (b : Bool) → eqb j i ≡ b → get_or seen' (slot_of (name_at s (k + j))) false ≡ true
      by j h true t =
          let d : name_at s (k + j) ≡ n = ap (λ x. name_at s (k + x)) (eqb-true j i t) ∙ sym (name_of e) in
          rw d v.here
      by j h false t =
          let d = eqb-false j i t in
          v.stays _ (m.marks j (omega arith))

  pub unmarked : (seen : List Bool) (w q n : ℕ) → Marked seen s k w → get_or seen (slot_of n) false ≡ false → false ≡ any_b (conflict (pair q n)) (row_at s k w)
  unmarked seen w q n m z = missed_all _ _ _ _ w (go w (omega arith)) (omega arith)
    where
      other : (i : ℕ) → i < w → n ≡ name_at s (k + i) → ⊥
      other i h e = true≢false (sym (m.marks i h) ∙ sym (ap (λ x. get_or seen (slot_of x) false) e) ∙ z)

      go : (i : ℕ) → i ≤ w → Missed (conflict (pair q n)) (field_at s) k w i
      go zero h = left-none _ _ _ _
      go (suc i) h = rw (add-one i) at (missed_more (conflict (pair q n)) (field_at s) k w i (go i (omega arith)) (omega arith) (apart q n _ _ (other i (omega arith))))
