-- Lists of which some things are taken: their bytes one after the other, and what is summed over them.
use Rattle.std.specs.Prelude.{Bool, true, false, cond, Option, Some, None, ◌||◌, List, [], ◌++◌, ℕ, zero, suc, ◌+◌, ◌^◌, ◌<◌}
use Rattle.std.specs.Int.Count.{ones}
use Rattle.cpl.specs.Bytes.{bytes, win_bytes}
use Rattle.cpl.specs.Exprs.{win_tags}
use Rattle.required_indices.specs.Request.{set_of}
use Rattle.required_indices.specs.Set.{has}
use Rattle.required_indices.specs.declared.RequiredIndices.{RequiredIndices}
use Rattle.tree.specs.Rows.{WinOk, win_at, win_size}
use Rattle.writer_parts.specs.Parts.{PartOk, part_bytes, part_tags}
use Rattle.writer_parts.specs.declared.Part.{Part}

-- of the things i, i + 1, … : n of them, those that are taken
unfoldable pub chosen : (f : ℕ → List ℕ) (taken : ℕ → Bool) (i n : ℕ) → List ℕ
chosen f taken i zero = []
chosen f taken i (suc n) = cond (taken i) (f i) [] ++ chosen f taken (suc i) n

unfoldable pub chosen_sum : (f : ℕ → ℕ) (taken : ℕ → Bool) (i n : ℕ) → ℕ
chosen_sum f taken i zero = 0
chosen_sum f taken i (suc n) = cond (taken i) (f i) 0 + chosen_sum f taken (suc i) n

-- which things of a list are taken: all, or those of a set
pub record Which : Type 0 where
  pub all : Bool
  pub set : ℕ

abbrev pub which : (all : Bool) (set : ℕ) → Which
which b s = record { all = b; set = s }

-- all where no set is given, and otherwise those of the set
abbrev pub which_of : Option RequiredIndices → Which
which_of None = which true 0
which_of (Some r) = which false (set_of r)

-- is thing i taken?
abbrev pub takes : Which → ℕ → Bool
takes w i = w.all || has w.set i

-- how many are taken, where a set is one of things of the list
abbrev pub taken_count : Which → (n : ℕ) → ℕ
taken_count w n = cond w.all n (ones w.set)

-- the row of thing i, where the thing at row x takes `size x` rows
unfoldable pub row_from : (size : ℕ → ℕ) (first i : ℕ) → ℕ
row_from size first zero = first
row_from size first (suc i) = row_from size (first + size first) i

-- ── parts of one row ────────────────────────────────────────────────────────────────────────

abbrev pub list_bytes : Part → (rows cells : List ℕ) (first n : ℕ) → Which → List ℕ
list_bytes p s cells first n w = chosen (λ i. part_bytes p s cells (first + i)) (takes w) 0 n

abbrev pub list_tags : Part → (rows cells : List ℕ) (first n : ℕ) → Which → ℕ
list_tags p s cells first n w = chosen_sum (λ i. part_tags p s cells (first + i)) (takes w) 0 n

-- a count of k bytes, and the parts
abbrev pub counted_list : (k : ℕ) → Part → (rows cells : List ℕ) (first n : ℕ) → Which → List ℕ
counted_list k p s cells first n w = bytes k (taken_count w n) ++ list_bytes p s cells first n w

pub record PartsOk (p : Part) (s cells : List ℕ) (first n : ℕ) : Type 0 where
  pub fits : first + n < 2 ^ 64
  pub each : (k : ℕ) → k < n → PartOk p s cells (first + k)

-- ── windows ─────────────────────────────────────────────────────────────────────────────────

abbrev pub wins_bytes : (rows cells : List ℕ) (first n : ℕ) → Which → List ℕ
wins_bytes s cells first n w = chosen (λ i. win_bytes (win_at s cells (row_from (win_size s) first i))) (takes w) 0 n

abbrev pub wins_tags : (rows cells : List ℕ) (first n : ℕ) → Which → ℕ
wins_tags s cells first n w = chosen_sum (λ i. win_tags (win_at s cells (row_from (win_size s) first i))) (takes w) 0 n

pub record WinsOk (s cells : List ℕ) (first n : ℕ) : Type 0 where
  pub each : (k : ℕ) → k < n → WinOk s cells (row_from (win_size s) first k)
