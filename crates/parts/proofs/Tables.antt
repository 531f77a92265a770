-- The tables in their array. Assumes nothing.
use mathlib.Core.Path.{◌≡◌, refl, sym, ap, ap₂, ◌∙◌}
use mathlib.Core.List.{List, [], ◌∷◌, map}
use Prim.Native.Nat.{ℕ, zero, suc, ◌+◌, ◌*◌, ◌<◌, ◌≤◌}
use native.Mathlib.Omega.{arith}
use lib.ListN.{length, get_or, drop, length-drop}
use lib.Seq.{get_or-take, get_or-drop, length-take-le}
use Rattle.cpl.specs.Fields.{scan_field}
use Rattle.cpl.specs.Plan.{pair}
use Rattle.cpl.specs.Tests.{iota}
use Rattle.tree.specs.Rows.{list_at, one}
use Rattle.lookup.proofs.Lists.{list_length}
use Rattle.parts.specs.Catalogue.{catalogue_at, column_count, table_at, TableIn}

pub table-length : (s : List ℕ) (t : ℕ) → TableIn s t → column_count s t ≡ length (table_at s t)
unfolding table_at
table-length s t i = sym (length-take-le (column_count s t) (drop (t * 513 + 1) s) (simp length-drop (omega (arith, i.inside, i.few))))

pub table-few : (s : List ℕ) (t : ℕ) → TableIn s t → length (table_at s t) ≤ 512
table-few s t i = omega (arith, table-length s t i, i.few)

pub table-name : (s : List ℕ) (t i : ℕ) → TableIn s t → i < length (table_at s t) → get_or s (t * 513 + 1 + i) 0 ≡ get_or (table_at s t) i 0
unfolding table_at
table-name s t i o h = sym (get_or-take (column_count s t) (drop (t * 513 + 1) s) i 0 (omega (arith, table-length s t o)) ∙ get_or-drop (t * 513 + 1) s i 0)

-- table t of the catalogue
pub catalogue-length : (s : List ℕ) (n : ℕ) → length (catalogue_at s n) ≡ n
unfolding catalogue_at
catalogue-length s n = list_length (table_at s) one 0 n

pub catalogue_at_lem : (s : List ℕ) (n t : ℕ) → t < n → get_or (catalogue_at s n) t [] ≡ table_at s t
unfolding catalogue_at list_at
catalogue_at_lem s n t h = from 0 n t h ∙ (let e : 0 + t ≡ t = omega arith in ap (table_at s) e)
  where
    from : (f n t : ℕ) → t < n → get_or (list_at (table_at s) one f n) t [] ≡ table_at s (f + t)
    from f zero t h = absurd (omega arith)
    from f (suc n) zero h = let e : f ≡ f + zero = omega arith in ap (table_at s) e
    from f (suc n) (suc t) h = from (f + 1) n t (omega arith) ∙ (let e : f + 1 + t ≡ f + suc t = omega arith in ap (table_at s) e)

-- from, from + 1, ..
pub iota-list : {A : Type 0} (g : ℕ → A) (f n : ℕ) → list_at g one f n ≡ map g (iota f n)
unfolding list_at iota
iota-list g f zero = refl
iota-list g f (suc n) = let e : f + 1 ≡ suc f = omega arith in ap (g f ∷◌) (ap (λ x. list_at g one x n) e ∙ iota-list g (suc f) n)

-- all columns of a table, name by name
names_from : (g : ℕ → ℕ) (T : List ℕ) (f : ℕ) → ((i : ℕ) → i < length T → g (f + i) ≡ get_or T i 0) → (q : ℕ) → map (λ i. pair q (g i)) (iota f (length T)) ≡ map (pair q) T
unfolding iota
names_from g [] f h q = refl
names_from g (x ∷ T) f h q =
    let e : f + 0 ≡ f = omega arith in
    let d = ap g (sym e) ∙ h 0 (omega arith) in
    ap₂ ◌∷◌ (ap (pair q) d) (names_from g T (suc f) (λ i l. (let b : suc f + i ≡ f + suc i = omega arith in ap g b) ∙ h (suc i) (omega arith)) q)

pub scan-table : (T : List ℕ) (q : ℕ) → map (scan_field T q) (iota 0 (length T)) ≡ map (pair q) T
unfolding scan_field
scan-table T q = names_from (λ i. get_or T i 0) T 0 (λ i l. let e : 0 + i ≡ i = omega arith in ap (λ j. get_or T j 0) e) q
