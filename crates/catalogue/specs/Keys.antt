-- The answers for the keys of tables. Assumes nothing: these are definitions.
use Rattle.std.specs.Prelude.{ℕ, ◌<◌, ◌≡◌, true, false, ◌||◌, List, [], eqb, Result, Ok, Err}
use Rattle.cpl.specs.Tests.{any_b}
use Rattle.cpl.specs.Limits.{max_tables}
use Rattle.cpl.specs.Plan.{TableKey, keyed_tables}
use Rattle.rules.specs.Keys.{declared}
use Rattle.key_sets.specs.Slots.{KeySet, SlotIn, slot_at}
use Rattle.cpl.specs.Read.{ok, bad}
use Rattle.required_indices.specs.Set.{has}
use Rattle.required_indices.specs.Request.{set_of}
use Rattle.required_indices.specs.declared.RequiredIndices.{RequiredIndices}
use Rattle.reader_fields.specs.Answers.{Finds}
use Rattle.reader_fields.specs.declared.Field.{Field}
use Rattle.refusals.specs.Codes.{code_of}
use Rattle.refusals.specs.declared.Refusal.{Refusal}

-- the set has the numbers of the list, and no others
abbrev pub Stands : RequiredIndices → List ℕ → Type 0
Stands set xs = (x : ℕ) → has (set_of set) x ≡ any_b (eqb x) xs

-- a number that was read is not in the set
abbrev pub FreshIn : RequiredIndices → Result Field Refusal → Type 0
FreshIn set (Ok f) = has (set_of set) f.value ≡ false
FreshIn set (Err e) = Unit {0}

-- the answer is the reader's; of what was read Q holds
abbrev pub Found : {A : Type 0} → Finds A → (A → Type 0) → Result ℕ Refusal → Type 0
Found {A} p Q (Ok end) = (a : A) × ((tags n : ℕ) → p tags n ≡ ok a end tags n) × Q a
Found p Q (Err e) = (tags n : ℕ) → p tags n ≡ bad (code_of e.reason) e.place

-- the columns that were read and those before them are in a table's slot, and no other slot was touched
pub record KeyPut (keys keys' : List ℕ) (table : ℕ) (before columns : List ℕ) : Type 0 where
  pub columns_are : (i : ℕ) → has (slot_at keys' table) i ≡ (any_b (eqb i) columns || any_b (eqb i) before)
  pub others : (x : ℕ) → SlotIn keys x → (x ≡ table → ⊥) → slot_at keys' x ≡ slot_at keys x

-- the same of a key, of which the table is answered: it is none of those before, and its columns are in its slot
abbrev pub KeyIs : (tables : ℕ) → Finds TableKey → (keys keys' : List ℕ) → (before : List TableKey) → Result Field Refusal → Type 0
KeyIs tables p keys keys' before (Ok f) =
    (k : TableKey) × (k.table ≡ f.value) × (f.value < tables) × ((tags n : ℕ) → p tags n ≡ ok k f.next tags n) × (any_b (eqb k.table) (keyed_tables before) ≡ false) × KeyPut keys keys' k.table [] k.columns
KeyIs tables p keys keys' before (Err e) = (tags n : ℕ) → p tags n ≡ bad (code_of e.reason) e.place

-- keys were read after those before: what the tables of these have stays, and the others, where they had none, have what was read
pub record KeysPut (keys keys' : List ℕ) (before ks : List TableKey) : Type 0 where
  pub stays : (t : ℕ) → t < max_tables → any_b (eqb t) (keyed_tables before) ≡ true → slot_at keys' t ≡ slot_at keys t
  pub fresh_are : (t : ℕ) → t < max_tables → any_b (eqb t) (keyed_tables before) ≡ false → slot_at keys t ≡ 0 → KeySet (slot_at keys' t) (declared ks t)

-- the tables' slots have the keys
pub record TablesPut (keys : List ℕ) (ks : List TableKey) : Type 0 where
  pub each : (t : ℕ) → t < max_tables → KeySet (slot_at keys t) (declared ks t)
