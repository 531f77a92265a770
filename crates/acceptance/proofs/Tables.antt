-- The catalogue that the reader stored is the one that acceptance reads.
use mathlib.Core.Path.{◌≡◌, refl, sym, ◌∙◌, ap, ap₂, subst}
use mathlib.Core.List.{List, ◌∷◌}
use Prim.Native.Nat.{ℕ, zero, suc, ◌+◌, ◌*◌, ◌≤◌, ◌<◌}
use native.Mathlib.Omega.{arith}
use native.Mathlib.Numerals.{add-one}
use lib.ListN.{length, get_or, take, drop}
use lib.Seq.{drop-cons}
use Rattle.cpl.specs.Lists.{All, ◌a∷◌}
use Rattle.cpl.specs.Plan.{Catalogue}
use Rattle.cpl.specs.Writable.{FitList, FitName, FitCatalogue}
use Rattle.versions.proofs.Small.{small}
use Rattle.catalogue.specs.Tables as read
use Rattle.catalogue.specs.Tables.{names_at, tables_at}
use Rattle.tree.specs.Rows.{list_at, one}
use Rattle.parts.specs.Catalogue.{table_at, catalogue_at, NamesOk}

names_length : (names : List ℕ) (at k : ℕ) → length (names_at names at k) ≡ k
unfolding names_at
names_length names at zero = refl
names_length names at (suc k) = ap suc (names_length names (at + 1) k)

names_take : (names : List ℕ) (at k : ℕ) → at + k ≤ length names → names_at names at k ≡ take k (drop at names)
unfolding names_at
names_take names at zero l = refl
names_take names at (suc k) l =
    ap (get_or names at 0 ∷◌) (names_take names (at + 1) k (omega arith) ∙ ap (λ i. take k (drop i names)) (add-one at))
    ∙ sym (ap (take (suc k)) (drop-cons names at 0 (omega arith)))

table_same : (names : List ℕ) (t : ℕ) → get_or names (513 * t) 0 ≤ 512 → 513 * t + 513 ≤ length names → read.table_at names t ≡ table_at names t
unfolding read.table_at table_at
table_same names t w l =
    let e : 513 * t ≡ t * 513 = omega arith in
    names_take names (513 * t + 1) (get_or names (513 * t) 0) (omega arith) ∙ ap (λ i. take (get_or names i 0) (drop (i + 1) names)) e

-- each table has at most so many columns as its version lets it have, and so at most 512
few-columns : (most : ℕ) → most ≤ 512 → (names : List ℕ) (t k : ℕ) → All (FitList FitName most) (tables_at names t k) → (i : ℕ) → t ≤ i → i < t + k → get_or names (513 * i) 0 ≤ 512
unfolding tables_at read.table_at FitList
few-columns most m names t zero a i l h = absurd (omega arith)
few-columns most m names t (suc k) (a a∷ more) i l h = go (native.Mathlib.Decide.ℕ_discrete t i)
    (λ n. few-columns most m names (t + 1) k more i (omega (arith, n)) (omega arith))
  where
    go : Dec (t ≡ i) → (¬ (t ≡ i) → get_or names (513 * i) 0 ≤ 512) → get_or names (513 * i) 0 ≤ 512
    go (yes e) f = let few = a.0 in let c = names_length names (513 * t + 1) (get_or names (513 * t) 0) in let d : get_or names (513 * t) 0 ≤ 512 = omega arith in subst (λ j. get_or names (513 * j) 0 ≤ 512) e d
    go (no n) f = f n

tables-same : (names : List ℕ) (t k : ℕ) → ((i : ℕ) → t ≤ i → i < t + k → get_or names (513 * i) 0 ≤ 512) → 513 * (t + k) ≤ length names → tables_at names t k ≡ list_at (table_at names) one t k
unfolding tables_at list_at
tables-same names t zero w l = refl
tables-same names t (suc k) w l = ap₂ ◌∷◌ (table_same names t (w t (omega arith) (omega arith)) (omega arith)) (tables-same names (t + 1) k (λ i a b. w i (omega arith) (omega arith)) (omega arith))

-- ── the whole catalogue ─────────────────────────────────────────────────────────────────────

module _ (C : Catalogue) (names : List ℕ) (tables : ℕ) (are : C.tables ≡ tables_at names 0 tables) (fit : FitCatalogue C) (few : tables ≤ 16)
    (long : 8208 ≤ length names) where
  columns-few : (i : ℕ) → i < tables → get_or names (513 * i) 0 ≤ 512
  unfolding FitList
  columns-few i h = few-columns C.version.max_columns (small fit.version_is).columns-small names 0 tables
      (subst (All (FitList FitName C.version.max_columns)) are fit.tables_fit.1) i (omega arith) (omega arith)

  pub catalogue-same : C.tables ≡ catalogue_at names tables
  unfolding catalogue_at
  catalogue-same = are ∙ tables-same names 0 tables (λ i a b. columns-few i (omega arith)) (omega arith)

  pub names_ok : NamesOk names tables
  names_ok = record { each = λ t h. record { inside = omega arith; few = let e : 513 * t ≡ t * 513 = omega arith in subst (λ i. get_or names i 0 ≤ 512) e (columns-few t h) } }
