-- The four numbers and the set of a record, once they are read or stored. Assumes nothing.
use mathlib.Core.Path.{◌≡◌, refl, sym, ap, ap₂, ◌∙◌}
use mathlib.Core.List.{List, [], ◌∷◌}
use Prim.Native.Nat.{ℕ, suc, ◌+◌, ◌*◌, ◌<◌, ◌≤◌, min}
use native.Mathlib.Omega.{arith}
use borrow.Author.Tests.{ne_eqb}
use lib.ListN.{length, get_or, take, drop, set, length-set, length-take}
use lib.Seq.{paste, drop-drop, get_or-drop, get_or-set_same, get_or-set_other}
use Rattle.required_indices.specs.Request.{words_n, words_of, set_of, stored, stored_at}
use Rattle.required_indices.specs.Words.{number}
use Rattle.required_indices.specs.declared.RequiredIndices.{RequiredIndices}
use Rattle.required_indices.proofs.Stored.{paste-below, paste-long, paste-part}
use Rattle.result.specs.Result.{first_at, form_at, old_at, record_n, second_at}
use Rattle.result.specs.Records.{Appended, Stored, record_at, record_of}
use Rattle.result.specs.declared.Record.{Record}
use Rattle.result.specs.declared.Record.TheVariants.{Columns, Items, Nothing}
use Rattle.result.specs.declared.Record.TheVariants

-- a record by its form
module _ (s : List ℕ) (i : ℕ) where
  pub form_kept : form_at s i ≡ 0 → TheVariants.Kept (old_at s i) (first_at s i) (second_at s i) ≡ record_at s i
  unfolding record_at
  form_kept e = rw e

  pub form_columns : form_at s i ≡ 1 → Columns (old_at s i) (first_at s i) ≡ record_at s i
  unfolding record_at
  form_columns e = rw e

  pub form_items : form_at s i ≡ 2 → Items (old_at s i) (second_at s i) (first_at s i) ≡ record_at s i
  unfolding record_at
  form_items e = rw e

  pub form_nothing : (form_at s i ≡ 0 → ⊥) → (form_at s i ≡ 1 → ⊥) → (form_at s i ≡ 2 → ⊥) → Nothing ≡ record_at s i
  unfolding record_at
  form_nothing f g h = simp (ne_eqb _ _ f, ne_eqb _ _ g, ne_eqb _ _ h)

-- a list that starts with x and then has the n numbers ws
starts : (xs : List ℕ) (x n : ℕ) (ws : List ℕ) → take (suc n) xs ≡ x ∷ ws → (get_or xs 0 0 ≡ x) × (take n (drop 1 xs) ≡ ws)
starts [] x n ws e = absurd (let z : 0 ≡ suc (length ws) = ap length e in omega arith)
starts (y ∷ ys) x n ws e = (ap (λ (z : List ℕ). get_or z 0 0) e, ap (drop 1) e)

-- the set that was stored from `at` on, with at most `words_n` words in use
pasted : (s : List ℕ) (at : ℕ) (r : RequiredIndices) → at + length (stored r) ≤ length s → length (words_of r) ≤ words_n → stored_at (paste s at (stored r) (length (stored r))) at ≡ set_of r
pasted s at r room few =
    let all = paste s at (stored r) (length (stored r)) in
    let p = starts (drop at all) (length (words_of r)) (length (words_of r)) (words_of r) (paste-part s at (stored r) (length (stored r)) room refl) in
    let c : get_or all at 0 ≡ length (words_of r) = ap (λ (y : ℕ). get_or all y 0) (let z : at ≡ at + 0 = omega arith in z) ∙ sym (get_or-drop at all 0 0) ∙ p.0 in
    let m : min (get_or all at 0) words_n ≡ length (words_of r) = omega (arith, c) in
    ap₂ (λ (y : ℕ) (z : List ℕ). number (take y z)) m (sym (drop-drop 1 at all)) ∙ ap number p.1

-- four numbers and a set, stored from `at` on
module _ (s : List ℕ) (at form old first second : ℕ) (r : RequiredIndices) (long : length r.indices ≡ words_n) (room : at + record_n ≤ length s) where
  one : List ℕ
  one = set s at form

  two : List ℕ
  two = set one (at + 1) old

  three : List ℕ
  three = set two (at + 2) first

  four : List ℕ
  four = set three (at + 3) second

  after : List ℕ
  after = paste four (at + 4) (stored r) (length (stored r))

  few : length (words_of r) ≤ words_n
  few = omega (arith, length-take r.used r.indices)

  four_long : length four ≡ length s
  unfolding one two three four
  four_long = simp length-set

  low : (k : ℕ) → k < at + 4 → get_or after k 0 ≡ get_or four k 0
  unfolding after
  low k h = paste-below four (at + 4) (stored r) (length (stored r)) (omega (arith, four_long, few)) refl k h

  at_0 : get_or four at 0 ≡ form
  unfolding one two three four
  at_0 =
      get_or-set_other three (at + 3) at second 0 (omega arith) ∙ get_or-set_other two (at + 2) at first 0 (omega arith)
      ∙ get_or-set_other one (at + 1) at old 0 (omega arith) ∙ get_or-set_same s at form 0 (omega arith)

  at_1 : get_or four (at + 1) 0 ≡ old
  unfolding one two three four
  at_1 =
      get_or-set_other three (at + 3) (at + 1) second 0 (omega arith) ∙ get_or-set_other two (at + 2) (at + 1) first 0 (omega arith)
      ∙ get_or-set_same one (at + 1) old 0 (simp length-set (omega arith))

  at_2 : get_or four (at + 2) 0 ≡ first
  unfolding one two three four
  at_2 = get_or-set_other three (at + 3) (at + 2) second 0 (omega arith) ∙ get_or-set_same two (at + 2) first 0 (simp length-set (omega arith))

  at_3 : get_or four (at + 3) 0 ≡ second
  unfolding one two three four
  at_3 = get_or-set_same three (at + 3) second 0 (simp length-set (omega arith))

  below : (k : ℕ) → k < at → get_or four k 0 ≡ get_or s k 0
  unfolding one two three four
  below k h =
      get_or-set_other three (at + 3) k second 0 (omega arith) ∙ get_or-set_other two (at + 2) k first 0 (omega arith)
      ∙ get_or-set_other one (at + 1) k old 0 (omega arith) ∙ get_or-set_other s at k form 0 (omega arith)

  pub record_stored : (i : ℕ) → at ≡ i * record_n → (s' : List ℕ) → s' ≡ paste (set (set (set (set s at form) (at + 1) old) (at + 2) first) (at + 3) second) (at + 4) (stored r) (length (stored r)) →
      Stored s s' i form old first second (set_of r)
  unfolding after one two three four
  record_stored i e s' f =
      record {
        kept = record {
          same = λ k h. ap (λ (x : List ℕ). get_or x k 0) f ∙ low k (omega arith) ∙ below k (omega arith);
          long = ap length f ∙ paste-long four (at + 4) (stored r) (length (stored r)) (omega (arith, four_long, few)) refl ∙ four_long;
        };
        form_is = ap₂ (λ (x : List ℕ) (y : ℕ). get_or x y 0) f (sym e) ∙ low at (omega arith) ∙ at_0;
        old_is = ap₂ (λ (x : List ℕ) (y : ℕ). get_or x (y + 1) 0) f (sym e) ∙ low (at + 1) (omega arith) ∙ at_1;
        first_is = ap₂ (λ (x : List ℕ) (y : ℕ). get_or x (y + 2) 0) f (sym e) ∙ low (at + 2) (omega arith) ∙ at_2;
        second_is = ap₂ (λ (x : List ℕ) (y : ℕ). get_or x (y + 3) 0) f (sym e) ∙ low (at + 3) (omega arith) ∙ at_3;
        set_is =
            ap₂ (λ (x : List ℕ) (y : ℕ). stored_at x (y + 4)) f (sym e) ∙ pasted four (at + 4) r (omega (arith, four_long, few)) few;
      }

-- a record whose four numbers were stored is appended
pub appended : {s s' : List ℕ} {i form old first second set : ℕ} (x : Record) → record_of form old first second ≡ x → Stored s s' i form old first second set → Appended s s' i x set
unfolding record_at
appended x e o = record { kept = o.kept; is = rw (o.form_is, o.old_is, o.first_is, o.second_is) e; set_is = o.set_is }
