-- What keys say of a log: demand 3's premise of document 02's request 5, and the weaker one that the proof needs.
use Rattle.std.specs.Prelude.{◌≡◌, List, [], ◌∷◌, Bool, not, ℕ, T, get_or}
use Rattle.cpl.specs.Tests.{all_b}
use Rattle.cpl.specs.Lists.{All}
use Rattle.cpl.specs.Plan.{o_eq, Catalogue}
use Rattle.meaning.specs.Value.{missing, Row, Log, op2, yes?, missing?}
use Rattle.meaning.specs.Meaning.{table_rows, row_at}

-- each element with each that comes after it
pub data Pairwise {A : Type 0} (P : A → A → Type 0) : List A → Type 0 where
  p[] : Pairwise P []
  ◌p∷◌ : {x : A} {xs : List A} → All (P x) xs → Pairwise P xs → Pairwise P (x ∷ xs)

infixr 30 ◌p∷◌
-- ── document 02's premise ───────────────────────────────────────────────────────────────────

-- do two rows have the same value, a present one, in each of the columns?
unfoldable pub share : (columns : List ℕ) → Row → Row → Bool
share is r s = all_b (λ i. yes? (op2 o_eq (get_or r i missing) (get_or s i missing))) is

-- has the row a value in each of the columns?
unfoldable pub filled : (columns : List ℕ) → Row → Bool
filled is r = all_b (λ i. not (missing? (get_or r i missing))) is

-- "no two rows of a keyed table share the key and no key value is missing"
pub record Unique (columns : List ℕ) (rows : List Row) : Type 0 where
  pub no_two : Pairwise (λ r s. T (not (share columns r s))) rows
  pub none_missing : All (λ r. T (filled columns r)) rows

abbrev pub Keyed : Catalogue → Log → Type 0
Keyed C D = All (λ k. Unique k.columns (table_rows D k.table)) C.keys

-- ── what the proof needs ────────────────────────────────────────────────────────────────────

-- the rows differ in the columns, where missings count as equal
abbrev pub Differ : (columns : List ℕ) → Row → Row → Type 0
Differ is r s = ¬ (row_at is r ≡ row_at is s)

abbrev pub KeysDiffer : Catalogue → Log → Type 0
KeysDiffer C D = All (λ k. Pairwise (Differ k.columns) (table_rows D k.table)) C.keys
