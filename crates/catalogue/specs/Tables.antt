-- The catalogue's tables in the array of names: table t stands at 513 * t, its column count first, then its names. Assumes nothing: these are definitions.
use Rattle.std.specs.Prelude.{ℕ, zero, suc, ◌+◌, ◌*◌, ◌<◌, ◌≡◌, List, [], ◌∷◌, get_or, Result, Ok, Err}
use Rattle.cpl.specs.Limits.{Version}
use Rattle.cpl.specs.Read.{ok, bad, Reader, nonzero, any, counted}
use Rattle.refusals.specs.Codes.{code_of}
use Rattle.refusals.specs.declared.Refusal.{Refusal}

-- k numbers from `at` on
unfoldable pub names_at : (names : List ℕ) → (at k : ℕ) → List ℕ
names_at names at zero = []
names_at names at (suc k) = get_or names at 0 ∷ names_at names (at + 1) k

unfoldable pub table_at : (names : List ℕ) → (t : ℕ) → List ℕ
table_at names t = names_at names (513 * t + 1) (get_or names (513 * t) 0)

-- k tables from table t on
unfoldable pub tables_at : (names : List ℕ) → (t k : ℕ) → List (List ℕ)
tables_at names t zero = []
tables_at names t (suc k) = table_at names t ∷ tables_at names (t + 1) k

-- what stands below `to` has stayed
abbrev pub Kept : (to : ℕ) → (names names' : List ℕ) → Type 0
Kept to names names' = (i : ℕ) → i < to → get_or names' i 0 ≡ get_or names i 0

-- a table's columns
abbrev pub read_table : Version → Reader (List ℕ)
read_table v = counted v.wide any v.max_columns (nonzero 2)

-- the answer is the reader's, what was read is `found`, and what stands below `to` has stayed
abbrev pub NextIs : {A : Type 0} → Reader A → (file : List ℕ) → (at : ℕ) → (found : A) → (to : ℕ) → (names names' : List ℕ) → Result ℕ Refusal → Type 0
NextIs p file at found to names names' (Ok end) = ((tags n : ℕ) → p file at tags n ≡ ok found end tags n) × Kept to names names'
NextIs p file at found to names names' (Err e) = (tags n : ℕ) → p file at tags n ≡ bad (code_of e.reason) e.place
