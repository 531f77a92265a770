-- A list of pairs in two layouts: row k of a join's list has its nodes as mark and root, pair k as its two numbers.
use Rattle.std.specs.Prelude.{◌≡◌, List, ℕ, ◌<◌}
use Rattle.arena.specs.Rows.{mark_at, root_at}
use Rattle.join_key_set.specs.Pairs.{left_at, right_at}

-- the first n of both are the same
pub record SameKeys (n : ℕ) (rows pairs : List ℕ) : Type 0 where
  pub left : (k : ℕ) → k < n → left_at pairs k ≡ mark_at rows k
  pub right : (k : ℕ) → k < n → right_at pairs k ≡ root_at rows k
