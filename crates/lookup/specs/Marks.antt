-- A table of marks, with a slot for each remainder of a name: where the slot of a name is not marked, none of the marked fields has the name.
use Rattle.std.specs.Prelude.{◌≡◌, Bool, true, false, List, ℕ, ◌+◌, ◌*◌, ◌%◌, ◌<◌, length, get_or}

-- as many slots as the table of src/ has
abbrev pub slots : ℕ
slots = 256

abbrev pub slot_of : (name : ℕ) → ℕ
slot_of name = name % slots

-- the name of field j
abbrev pub name_at : List ℕ → ℕ → ℕ
name_at s j = get_or s (j * 2 + 1) 0

-- the slots of the names of `width` fields from field `first` on are marked
pub record Marked (seen : List Bool) (fields : List ℕ) (first width : ℕ) : Type 0 where
  pub long : length seen ≡ slots
  pub marks : (j : ℕ) → j < width → get_or seen (slot_of (name_at fields (first + j))) false ≡ true

-- a table became another: the slot of a name was marked, and no mark was lost
pub record Marks (name : ℕ) (seen seen' : List Bool) : Type 0 where
  pub long : length seen' ≡ length seen
  pub here : get_or seen' (slot_of name) false ≡ true
  pub stays : (x : ℕ) → get_or seen x false ≡ true → get_or seen' x false ≡ true
