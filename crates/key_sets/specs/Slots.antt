-- Keys as sets in a lent array: when a set is a key's, which slot is whose, and what a key that was put there changes.
use Rattle.std.specs.Prelude.{◌≡◌, List, ℕ, ◌+◌, ◌*◌, ◌<◌, ◌≤◌, eqb, length}
use Rattle.cpl.specs.Limits.{max_nodes, max_tables}
use Rattle.cpl.specs.Plan.{Catalogue}
use Rattle.cpl.specs.Tests.{any_b}
use Rattle.rules.specs.Keys.{declared}
use Rattle.required_indices.specs.Request.{stored_at, stored_n}
use Rattle.required_indices.specs.Set.{has}

-- the set has the places of the key and no other
pub record KeySet (set : ℕ) (key : List ℕ) : Type 0 where
  pub members : (i : ℕ) → has set i ≡ any_b (eqb i) key

-- the set in a slot
abbrev pub slot_at : List ℕ → ℕ → ℕ
slot_at s slot = stored_at s (slot * stored_n)

-- the slot lies in the array
abbrev pub SlotIn : List ℕ → ℕ → Type 0
SlotIn s slot = slot * stored_n + stored_n ≤ length s

-- table t has slot t, node k has slot 16 + k
abbrev pub node_slot : ℕ → ℕ
node_slot k = max_tables + k

-- how many numbers all slots take
abbrev pub keys_room : ℕ
keys_room = (max_tables + max_nodes) * stored_n

-- the slots of the tables have what these declare
pub record TableKeys (C : Catalogue) (s : List ℕ) : Type 0 where
  pub each : (t : ℕ) → t < max_tables → KeySet (slot_at s t) (declared C.keys t)

-- a set was put into a slot, and no other slot was touched
pub record PutKey (s s' : List ℕ) (slot set : ℕ) : Type 0 where
  pub long : length s' ≡ length s
  pub here : slot_at s' slot ≡ set
  pub others : (x : ℕ) → SlotIn s x → (x ≡ slot → ⊥) → slot_at s' x ≡ slot_at s x
