-- How a text is cut into lines, and how lines are read as the nodes of a plan: document 02, request 13, code 19.
use Rattle.std.specs.Prelude.{List, [], ◌∷◌, Bool, true, false, ℕ, suc, ◌≤◌, eqb, leb, length}
use Rattle.std.proofs.Math.Option.{Option, none, some}
use Rattle.cpl.specs.Plan.{scan, empty}
use Rattle.cpl.specs.Read.{pick}
use Rattle.cpl.specs.ReadPlan.{Head, h0, h1, h2}
use Rattle.plan_text.specs.Listing.{indent}
use Rattle.plan_text.specs.ReadText.{eat}
use Rattle.plan_text.specs.ReadParts.{read_head}

-- ── lines ───────────────────────────────────────────────────────────────────────────────────

-- lines that end in a newline (which is left out), and the piece after the last newline
pub data Lines : Type 0 where
  end : (piece : List ℕ) → Lines
  line : List ℕ → Lines → Lines

-- a letter put before the first line
unfoldable pub onto : ℕ → Lines → Lines
onto c (end piece) = end (c ∷ piece)
onto c (line l ls) = line (c ∷ l) ls

unfoldable pub lines_of : List ℕ → Lines
lines_of [] = end []
lines_of (c ∷ s) = let ls = lines_of s in pick (eqb c 10) (line [] ls) (onto c ls)

-- "no line over 4,096 bytes": the indent counts, the newline does not
abbrev pub max_line : ℕ
max_line = 4096

abbrev pub Short : Lines → Type 0
Short (end piece) = Unit {0}
Short (line l ls) = (length l ≤ max_line) × Short ls

-- ── a line of a form ────────────────────────────────────────────────────────────────────────

unfoldable pub indented : Option (List ℕ) → Option Head
indented none = none
indented (some form) = read_head form

-- the node of a line at this level, if it has a form
unfoldable pub head_at : (level : ℕ) (l : List ℕ) → Option Head
head_at level l = indented (eat (indent level []) l)

-- a node that version 1 has: a scan without filters
unfoldable pub unfiltered : Head → Bool
unfiltered (h0 (scan t q is [])) = true
unfiltered (h0 (scan t q is (e ∷ es))) = false
unfiltered (h0 (empty b cs)) = true
unfiltered (h1 h) = true
unfiltered (h2 h) = true

unfoldable pub version1_head : Option Head → Option Head
version1_head none = none
version1_head (some h) = pick (unfiltered h) (some h) none

-- the same of a line that is not too long and of version 1
unfoldable pub short_head_at : (level : ℕ) (l : List ℕ) → Option Head
short_head_at level l = let h = version1_head (head_at level l) in pick (leb (length l) max_line) h none

-- ── levels ──────────────────────────────────────────────────────────────────────────────────

-- nodes in prefix order, or the number of the first line at fault
pub data Formed : Type 0 where
  formed : List Head → Formed
  broken : (number : ℕ) → Formed

unfoldable pub headed : Head → Formed → Formed
headed h (formed hs) = formed (h ∷ hs)
headed h (broken n) = broken n

-- the levels of the inputs that wait to be read, when a node at this level was
unfoldable pub waiting : (level : ℕ) → Head → List ℕ → List ℕ
waiting level (h0 h) ws = ws
waiting level (h1 h) ws = suc level ∷ ws
waiting level (h2 h) ws = suc level ∷ suc level ∷ ws

-- no line is left over: "a lacking line counts as the next", and a piece without a newline is a line of no form
unfoldable pub ending : (ws : List ℕ) (n : ℕ) (piece : List ℕ) → Formed
ending [] n [] = formed []
ending [] n (c ∷ piece) = broken n
ending (w ∷ ws) n piece = broken n

unfoldable pub or_broken : (n : ℕ) → Option Head → (Head → Formed) → Formed
or_broken n none k = broken n
or_broken n (some h) k = headed h (k h)

-- the nodes of the lines from number n on, where inputs at the levels ws wait
unfoldable pub forms : (read : ℕ → List ℕ → Option Head) (ws : List ℕ) (n : ℕ) → Lines → Formed
forms read ws n (end piece) = ending ws n piece
forms read [] n (line l ls) = broken n
forms read (w ∷ ws) n (line l ls) = or_broken n (read w l) (λ h. forms read (waiting w h ws) (suc n) ls)
