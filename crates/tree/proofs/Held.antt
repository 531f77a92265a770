-- Numbers that stand in an array from some place on. Assumes nothing.
use mathlib.Core.Path.{◌≡◌, refl, ap, subst, ◌∙◌}
use mathlib.Core.List.{List, [], ◌∷◌, ◌++◌}
use Prim.Native.Nat.{ℕ, zero, suc, ◌+◌, ◌<◌, ◌≤◌}
use native.Mathlib.Omega.{arith}
use lib.ListN.{length, get_or, length-append, length-set, get_or-append}
use lib.Seq.{get_or-append-add, get_or-set_other, get_or-set_same, length-sets, sets}

pub record Held (s : List ℕ) (at : ℕ) (xs : List ℕ) : Type 0 where
  pub room : at + length xs ≤ length s
  pub same : (i : ℕ) → i < length xs → get_or s (at + i) 0 ≡ get_or xs i 0

-- where they stand may be written in another way
pub moved : {s xs : List ℕ} {i j : ℕ} → i ≡ j → Held s i xs → Held s j xs
moved {s} {xs} e h = subst (λ k. Held s k xs) e h

-- the first of them
pub held-left : {s : List ℕ} {at : ℕ} (xs ys : List ℕ) → Held s at (xs ++ ys) → Held s at xs
held-left xs ys h = record {
  room = omega (arith, h.room, length-append xs ys);
  same = λ i l. h.same i (omega (arith, length-append xs ys)) ∙ get_or-append xs ys 0 i l;
}

-- those after the first n
pub held-right : {s : List ℕ} {at : ℕ} (xs ys : List ℕ) (n : ℕ) → length xs ≡ n → Held s at (xs ++ ys) → Held s (at + n) ys
held-right {s} {at} xs ys n e h = record {
  room = omega (arith, h.room, length-append xs ys);
  same = λ i l.
      let p : at + n + i ≡ at + (length xs + i) = omega arith in
      ap (λ k. get_or s k 0) p ∙ h.same (length xs + i) (omega (arith, length-append xs ys)) ∙ get_or-append-add xs ys i 0;
}

-- what a store leaves before it
before : (xs s : List ℕ) (at k : ℕ) → k < at → get_or (sets s at xs) k 0 ≡ get_or s k 0
before [] s at k h = refl
before (x ∷ xs) s at k h = before xs _ (suc at) k (omega arith) ∙ get_or-set_other s at k x 0 (λ e. omega arith)

stored : (xs s : List ℕ) (at i : ℕ) → at + length xs ≤ length s → i < length xs → get_or (sets s at xs) (at + i) 0 ≡ get_or xs i 0
stored [] s at i r h = absurd (omega arith)
stored (x ∷ xs) s at zero r h =
    let p : at + 0 ≡ at = omega arith in
    rw p (before xs _ (suc at) at (omega arith) ∙ get_or-set_same s at x 0 (omega arith))
stored (x ∷ xs) s at (suc i) r h =
    let p : at + suc i ≡ suc at + i = omega arith in
    rw p (stored xs _ (suc at) i (simp length-set (omega arith)) (omega arith))

-- what was stored stands there
pub held-sets : (s : List ℕ) (at : ℕ) (xs : List ℕ) → at + length xs ≤ length s → Held (sets s at xs) at xs
held-sets s at xs r = record { room = simp length-sets r; same = λ i l. stored xs s at i r l }
