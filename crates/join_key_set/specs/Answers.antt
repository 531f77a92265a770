-- What filling a set and removing keys answer.
use Rattle.std.specs.Prelude as std
use Rattle.std.specs.Prelude.{◌≡◌, cond, List, ℕ, suc, ◌+◌, ◌*◌, ◌<◌, ◌≤◌, eqb, Result, Ok, Err, Some, None}
use Rattle.std.proofs.Math.Option.{Option, none, some}
use Rattle.cpl.specs.Plan.{o_add, o_sub, o_mul, o_eq, o_lt, o_and, o_or, Expr, col, lit, miss, un, bin}
use Rattle.arena.specs.Cells.{Wf, expr_at}
use Rattle.arena.specs.Kept.{Kept}
use Rattle.join_keys.specs.Keys as keys
use Rattle.join_key_set.specs.Pairs.{KeysIn, KeysOk, keys_at}
use Rattle.join_key_set.specs.declared.JoinKeySet.{JoinKeySet}
use Rattle.join_key_set.specs.declared.Pairs.{Pairs}
use Rattle.join_key_set.specs.declared.Left.{Left}

-- a pair that is inserted if the second set has it too
unfoldable pub insert_common : (second : keys.JoinKeySet) (left right : Expr) → keys.JoinKeySet → Option keys.JoinKeySet
insert_common s₂ l r s = cond (keys.contains s₂ l r) (keys.insert l r s) (some s)

-- the set from `start` on has become o, of at most `most` pairs; the pairs before it are kept
pub record Grown (o : Option keys.JoinKeySet) (cells pairs : List ℕ) (start most : ℕ) (s : JoinKeySet) (pairs' : List ℕ) : Type 0 where
  pub starts : s.start ≡ start
  pub is : o ≡ some (keys_at cells pairs' start s.size)
  pub few : s.size ≤ most
  pub ok : KeysOk cells pairs' start s.size
  pub kept : Kept (start * 2) pairs pairs'

abbrev pub Fills : Option keys.JoinKeySet → (cells pairs : List ℕ) (start most : ℕ) → Result JoinKeySet Pairs → List ℕ → Type 0
Fills o cells pairs start most (Ok s) pairs' = Grown o cells pairs start most s pairs'
Fills o cells pairs start most (Err e) pairs' = o ≡ none

-- a set that was made has its nodes among the first n
abbrev pub FilledIn : (n : ℕ) → Result JoinKeySet Pairs → (pairs' : List ℕ) → Type 0
FilledIn n (Ok s) pairs' = KeysIn n pairs' s.start s.size
FilledIn n (Err e) pairs' = Unit {0}

-- the `and`s and `or`s that are looked into: each may take a node
unfoldable pub joints : Expr → ℕ
joints (bin o_eq a b) = 0
joints (bin o_and a b) = suc (joints a + joints b)
joints (bin o_or a b) = suc (joints a + joints b)
joints (bin o_add a b) = 0
joints (bin o_sub a b) = 0
joints (bin o_mul a b) = 0
joints (bin o_lt a b) = 0
joints (col c) = 0
joints (lit z) = 0
joints miss = 0
joints (un o a) = 0

-- o is what is left; the `used` nodes are kept, and `more`, by at most `most`, are now in use
pub record Rest (o left : Option Expr) (cells : List ℕ) (used most more : ℕ) (cells' : List ℕ) : Type 0 where
  pub is : o ≡ left
  pub kept : Kept (used * 3) cells cells'
  pub grown : used ≤ more
  pub few : more ≤ used + most
  pub wf : Wf cells' more

-- of which there is a node, or nothing
abbrev pub LeavesNode : Option Expr → (cells : List ℕ) (used most more : ℕ) → std.Option ℕ → List ℕ → Type 0
LeavesNode o cells used most more None cells' = Rest o none cells used most more cells'
LeavesNode o cells used most more (Some node) cells' = (node < more) × Rest o (some (expr_at cells' node)) cells used most more cells'

abbrev pub Leaves : Option Expr → (cells : List ℕ) (used most : ℕ) → Left → List ℕ → Type 0
Leaves o cells used most l cells' = LeavesNode o cells used most l.used l.node cells'

-- what is left where only the node of the first side is: of an `or` (tag 11) nothing
unfoldable pub first_alone : (tag node : ℕ) → std.Option ℕ
first_alone t l = cond (eqb t 11) None (Some l)
