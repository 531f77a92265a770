-- Text put into a lent buffer from a place on. What lies in the buffer is stored and all of it is counted, so that one function both counts a text,
-- in an empty buffer, and writes it.
use Rattle.std.specs.Prelude.{◌≡◌, List, [], ◌∷◌, ℕ, suc, ltb, set}
use Rattle.cpl.specs.Read.{pick}
use Rattle.plan_text.specs.Write.{Text}

-- the largest place that can be named: 2^64 - 1
abbrev pub last_place : ℕ
last_place = 18446744073709551615

-- the place after this one; behind the last place there is none
unfoldable pub past : ℕ → ℕ
past at = pick (ltb at last_place) (suc at) at

-- letters put one after the other from a place on: where that ends, and the buffer then. A letter behind the buffer's end is not stored
unfoldable pub run : List ℕ → (at : ℕ) (out : List ℕ) → ℕ × List ℕ
run [] at out = (at, out)
run (b ∷ bs) at out = run bs (past at) (set out at b)

-- the text t was put from `at` on: it ended at r, and the buffer xs became ys. Whatever text follows goes on from there
pub record Puts (t : Text) (at : ℕ) (xs : List ℕ) (r : ℕ) (ys : List ℕ) : Type 0 where
  pub leads : (rest : List ℕ) → run (t rest) at xs ≡ run rest r ys

-- on the way: from xs at `at` the text t is still u from ys at r
pub record Leads (t : Text) (at : ℕ) (xs : List ℕ) (u : Text) (r : ℕ) (ys : List ℕ) : Type 0 where
  pub same : (rest : List ℕ) → run (t rest) at xs ≡ run (u rest) r ys
