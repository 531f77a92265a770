-- The items of a list that are columns of a key, as sets.
use Rattle.std.specs.Prelude.{◌≡◌, Bool, ◌&&◌, List, [], ◌∷◌, ◌++◌, ℕ, ◌+◌, ◌*◌, ◌<◌, ◌≤◌, length, get_or, Some, None}
use Rattle.std.specs.Prelude
use Rattle.std.proofs.Math.Option.{Option, none}
use Rattle.cpl.specs.Tests.{any_b}
use Rattle.rules.specs.Keys.{carried, is_key_place, is_place, fresh_at, member}
use Rattle.required_indices.specs.Request.{set_of, words_n}
use Rattle.required_indices.specs.Set.{has}
use Rattle.required_indices.specs.declared.RequiredIndices.{RequiredIndices}
use Rattle.tree.specs.Rows.{EachOk, Inside, number_at}
use Rattle.lookup.specs.Answers.{place_of}
use Rattle.key_sets.specs.Slots.{KeySet}
use Rattle.node_keys.specs.declared.Found.{Found}

-- among items at the places ps: the key's columns that stand there, of each of these the first item, and all items that are one
pub record FoundIs (key : List ℕ) (ps : List (Option ℕ)) (f : Found) : Type 0 where
  pub seen_are : (j : ℕ) → has (set_of f.seen) j ≡ (member j key && any_b (is_place j) ps)
  pub firsts_are : (m : ℕ) → has (set_of f.firsts) m ≡ fresh_at key ps m
  pub all_are : (m : ℕ) → has (set_of f.all) m ≡ is_key_place key (get_or ps m none)

-- a set has room for the place
abbrev pub PlaceIn : Prelude.Option ℕ → Type 0
PlaceIn (Some j) = j < words_n * 64
PlaceIn None = Unit {0}

-- what is found among i items became what is found among these and one more
pub record Further (key : RequiredIndices) (i : ℕ) (place : Prelude.Option ℕ) (f f' : Found) : Type 0 where
  pub is : (ks : List ℕ) (ps : List (Option ℕ)) → KeySet (set_of key) ks → i ≡ length ps → FoundIs ks ps f → FoundIs ks (ps ++ (place_of place ∷ [])) f'

-- whatever list the key's set stands for
pub record Finds (key : RequiredIndices) (ps : List (Option ℕ)) (f : Found) : Type 0 where
  pub is : (ks : List ℕ) → KeySet (set_of key) ks → FoundIs ks ps f

-- the columns of a scan's list lie in the array, and a set has room for them
pub record ColumnsIn (rows : List ℕ) (first count : ℕ) : Type 0 where
  pub inside : EachOk (Inside rows) rows first count
  pub few : count ≤ words_n * 64
  pub small : (k : ℕ) → first ≤ k → k < first + count → number_at rows k < words_n * 64

-- the set is that of the key carried on
pub record Carries (key : RequiredIndices) (f : Found) (r : RequiredIndices) : Type 0 where
  pub is : (ks : List ℕ) (ps : List (Option ℕ)) → KeySet (set_of key) ks → FoundIs ks ps f → KeySet (set_of r) (carried ks ps)
