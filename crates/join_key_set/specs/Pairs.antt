-- How a lent array of numbers stands for sets of pairs. Pair k is the two numbers at 2 * k: the nodes of its halves. A set is the pairs start,
-- start + 1, ..: size of them.
use Rattle.std.specs.Prelude.{◌≡◌, List, [], ◌∷◌, ℕ, zero, suc, ◌+◌, ◌*◌, ◌<◌, ◌≤◌, length, get_or, set}
use Rattle.cpl.specs.Plan.{On, on}
use Rattle.arena.specs.Cells.{Wf, expr_at}
use Rattle.join_keys.specs.Keys.{JoinKeySet}

abbrev pub left_at : List ℕ → ℕ → ℕ
left_at s k = get_or s (k * 2) 0

abbrev pub right_at : List ℕ → ℕ → ℕ
right_at s k = get_or s (k * 2 + 1) 0

-- l and r are the numbers of pair k
pub record KeyIs (s : List ℕ) (k l r : ℕ) : Type 0 where
  pub left_is : l ≡ left_at s k
  pub right_is : r ≡ right_at s k

-- the numbers of pair k
unfoldable pub put_key : List ℕ → (k left right : ℕ) → List ℕ
put_key s k l r = set (set s (k * 2) l) (k * 2 + 1) r

unfoldable pub key_at : (cells pairs : List ℕ) → ℕ → On
key_at cells s k = on (expr_at cells (left_at s k)) (expr_at cells (right_at s k))

unfoldable pub keys_at : (cells pairs : List ℕ) (start size : ℕ) → JoinKeySet
keys_at cells s k zero = []
keys_at cells s k (suc n) = key_at cells s k ∷ keys_at cells s (suc k) n

-- the pairs of a set lie in the array, and the nodes up to theirs are well formed
pub record KeysOk (cells s : List ℕ) (start size : ℕ) : Type 0 where
  pub room : (start + size) * 2 ≤ length s
  pub left : (k : ℕ) → start ≤ k → k < start + size → Wf cells (left_at s k + 1)
  pub right : (k : ℕ) → start ≤ k → k < start + size → Wf cells (right_at s k + 1)

-- the pairs of a set lie in the array, and their nodes are among the first n
pub record KeysIn (n : ℕ) (s : List ℕ) (start size : ℕ) : Type 0 where
  pub room : (start + size) * 2 ≤ length s
  pub left : (k : ℕ) → start ≤ k → k < start + size → left_at s k < n
  pub right : (k : ℕ) → start ≤ k → k < start + size → right_at s k < n

-- the numbers from m on are the same
unfoldable pub Behind : (m : ℕ) (s s' : List ℕ) → Type 0
Behind m s s' = (k : ℕ) → m ≤ k → get_or s' k 0 ≡ get_or s k 0
