-- Keys and a predicate that were read, and what the second entry answers for them.
use Rattle.std.specs.Prelude.{List, [], ℕ, ◌+◌, ◌*◌, ◌<◌, ◌≤◌, length}
use Rattle.cpl.specs.Exprs.{expr_tags}
use Rattle.cpl.specs.Limits.{max_tags}
use Rattle.cpl.specs.Plan.{Expr}
use Rattle.rules.specs.Answer.{Answer}
use Rattle.arena.specs.Cells.{Wf, expr_at}
use Rattle.join_keys.specs.Keys.{JoinKeySet, insert_all}
use Rattle.join_keys.specs.Remove.{remove_join_expressions}
use Rattle.join_keys.specs.Entries.{after_set, answered, left_bytes, result}
use Rattle.join_key_set.specs.Pairs.{KeysIn}

-- a predicate at a node and n pairs among the first `used` nodes, with room for the nodes of what is left: one for each `and` and `or`
pub record Given (cells : List ℕ) (node used : ℕ) (pairs : List ℕ) (n : ℕ) : Type 0 where
  pub wf : Wf cells used
  pub inside : node < used
  pub keys : KeysIn used pairs 0 n
  pub few : expr_tags (expr_at cells node) ≤ max_tags
  pub room : 3 * used + 6141 ≤ length cells

-- "a key given twice, or with its mirror, is kept once"; then what is left, or "18 PAIRS"
unfoldable pub without : (keys : JoinKeySet) (e : Expr) (out : List ℕ) → Answer
without keys e out = answered (after_set (insert_all keys []) λ s. result (left_bytes (remove_join_expressions s e))) out
