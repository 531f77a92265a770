-- What stands in a vector's line, and when an answer is the vector's.
use Rattle.std.specs.Prelude.{cond, ltb, List, ℕ, ◌+◌, ◌≡◌, ◌≢◌, ◌<◌, ◌≤◌, ◌⊎◌, length, slice_index, Option, Some, None}
use Rattle.std.specs.Io.KnownBytes.{Consumes, IsAtEnd}
use Rattle.answers.specs.declared.Answer.{Answer}
use Rattle.vector_runs.specs.declared.Wanted.{Wanted}
use Rattle.vector_text.specs.Text.{field_of, number_of}

-- ── a line ──────────────────────────────────────────────────────────────────────────────────

-- a code below `codes`, a length and a place, where all three are numbers
abbrev pub wanted : (codes : ℕ) → (code length place : Option ℕ) → Option Wanted
wanted codes None n p = None
wanted codes (Some c) None p = None
wanted codes (Some c) (Some n) None = None
wanted codes (Some c) (Some n) (Some p) = cond (ltb c codes) (Some (record { code = c; length = n; place = p })) None

-- the answer that stands in a line from field k on
abbrev pub wanted_of : (codes k : ℕ) → List ℕ → Option Wanted
wanted_of codes k line = wanted codes (number_of (field_of k line)) (number_of (field_of (k + 1) line)) (number_of (field_of (k + 2) line))

-- ── an answer ───────────────────────────────────────────────────────────────────────────────

-- The buffer's front is a text, each byte as `gives` says how it stands there; every byte behind it is 165, as before the call.
abbrev pub Holds : (gives : ℕ → ℕ → Type 0) (out text : List ℕ) → Type 0
Holds gives out text =
    (length text ≤ length out)
    × ((k : ℕ) → k < length text → gives (slice_index text k) (slice_index out k))
    × ((k : ℕ) → length text ≤ k → k < length out → slice_index out k ≡ 165)

-- It is not: there is no room for the text, or some byte of it stands otherwise than `gives` says, or some byte behind it is another.
abbrev pub Misses : (gives : ℕ → ℕ → Type 0) (out text : List ℕ) → Type 0
Misses gives out text =
    (length out < length text)
    ⊎ ((k : ℕ) × (k < length text) × (y : ℕ) × (y < 256) × gives (slice_index text k) y × (slice_index out k ≢ y))
    ⊎ ((k : ℕ) × (length text ≤ k) × (k < length out) × (slice_index out k ≢ 165))

-- an answer is the one that is wanted, of a text of n bytes
abbrev pub Agrees : Answer → Wanted → (n : ℕ) → Type 0
Agrees a w n = (a.code ≡ w.code) × (a.length ≡ w.length) × (a.place ≡ w.place) × (n ≡ w.length)

-- ── an input ────────────────────────────────────────────────────────────────────────────────

-- what is known to be left of an input, before and after its next bytes are read: n at most, and all that are left where fewer are read
abbrev pub ReadUpTo : (n : ℕ) (old new : Option (List ℕ)) → Type 0
ReadUpTo n old new = (bytes : List ℕ) × (length bytes ≤ n) × Consumes old new bytes × (length bytes < n → IsAtEnd new)
