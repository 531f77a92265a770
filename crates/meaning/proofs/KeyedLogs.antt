-- Document 02's premise gives what the proof needs: rows of which none lacks a value at the key, and no two share the key, differ at the key. Without
-- keys nothing is asked of a log.
use mathlib.Core.Path.{◌≡◌, subst, subst⁻¹}
use mathlib.Core.List.{List, [], ◌∷◌, head-eq_of_cons-eq, tail-eq_of_cons-eq}
use mathlib.Core.Bool.{not}
use Prim.Native.Nat.{ℕ}
use lib.Dec.{T, T_not}
use lib.ListN.{get_or}
use Rattle.cpl.specs.Tests.{all_b}
use Rattle.cpl.specs.Lists.{All, a[], ◌a∷◌}
use Rattle.cpl.specs.Plan.{o_eq, Catalogue}
use Rattle.cpl.proofs.Bools.{halves, both-T}
use Rattle.cpl.proofs.Lists.{All_map}
use Rattle.meaning.specs.Value.{missing, Row, Log, yes?, missing?, op2}
use Rattle.meaning.specs.Meaning.{table_rows, row_at}
use Rattle.meaning.specs.Keyed.{Pairwise, p[], ◌p∷◌, share, filled, Unique, Keyed, KeysDiffer, Differ}
use Rattle.meaning.proofs.Same.{equal_yes}

-- a row that lacks no value at the columns shares them with each row that has the same values there
same-share : (is : List ℕ) (r s : Row) → T (filled is r) → row_at is r ≡ row_at is s → T (share is r s)
unfolding filled share row_at all_b
same-share [] r s t e = tt
same-share (i ∷ is) r s t e =
    let h = halves (not (missing? (get_or r i missing))) (all_b (λ i. not (missing? (get_or r i missing))) is) t in
    both-T (yes? (op2 o_eq (get_or r i missing) (get_or s i missing))) (all_b (λ i. yes? (op2 o_eq (get_or r i missing) (get_or s i missing))) is)
    (subst (λ w. T (yes? (op2 o_eq (get_or r i missing) w))) (head-eq_of_cons-eq e) (equal_yes (get_or r i missing) h.0)) (same-share is r s h.1 (tail-eq_of_cons-eq e))

unique_differ : (is : List ℕ) {rs : List Row} → Pairwise (λ r s. T (not (share is r s))) rs → All (λ r. T (filled is r)) rs → Pairwise (Differ is) rs
unique_differ is p[] a[] = p[]
unique_differ is (◌p∷◌ {x = r} h hs) (t a∷ ts) = All_map (λ s n e. T_not (share is r s) n (same-share is r s t e)) h p∷ unique_differ is hs ts

module _ (C : Catalogue) (D : Log) where
  pub keys_differ : Keyed C D → KeysDiffer C D
  keys_differ h = All_map (λ k u. unique_differ k.columns u.no_two u.none_missing) h

  pub without-keys : C.keys ≡ [] → Keyed C D
  without-keys e = subst⁻¹ (All (λ k. Unique k.columns (table_rows D k.table))) e a[]
