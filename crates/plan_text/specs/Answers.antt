-- The whole answers of document 02's requests 1 and 13: `list_plan` and `read_listing`, beside document 01's `answer`.
use Rattle.std.specs.Prelude.{List, [], ◌∷◌, ◌++◌, ℕ}
use Rattle.std.proofs.Math.Option.{Option, none, some}
use Rattle.cpl.specs.Tests.{concat_map}
use Rattle.cpl.specs.Limits.{Version, version1}
use Rattle.cpl.specs.Codes.{MARK}
use Rattle.cpl.specs.Plan.{Catalogue, Source}
use Rattle.cpl.specs.Bytes.{leaf_bytes, unary_bytes, binary_bytes}
use Rattle.cpl.specs.Read.{Res, ok, bad, Reader, ◌>>=◌, give, pick}
use Rattle.cpl.specs.ReadPlan.{Head, h0, h1, h2, starts, mark_bytes, read_catalogue, read_end, read_file}
use Rattle.cpl.specs.Accept.{Fault, fault, check}
use Rattle.rules.specs.Answer.{Answer, refusal, written}
use Rattle.plan_text.specs.Listing.{listing}
use Rattle.plan_text.specs.Lines.{lines_of, Formed, formed, broken, short_head_at, forms}
use Rattle.plan_text.specs.Sizes.{size_fault}

-- "19 LINE"
abbrev pub LINE : ℕ
LINE = 19

-- a refusal, or the bytes to be written
pub data Outcome : Type 0 where
  refuses : (code place : ℕ) → Outcome
  yields : List ℕ → Outcome

-- "then 13"
unfoldable pub delivered : Outcome → (out : List ℕ) → Answer
delivered (refuses code place) out = refusal code place out
delivered (yields bs) out = written bs out

-- ── a file, read and checked ────────────────────────────────────────────────────────────────

-- codes 7 to 10
unfoldable pub faultless : List ℕ → Option Fault → Outcome
faultless bs none = yields bs
faultless bs (some (fault code node)) = refuses code node

-- codes 2 to 10, or the bytes that are made of an accepted source
unfoldable pub accepted : (Source → List ℕ) → Res Source → Outcome
accepted make (ok s next tags nodes) = faultless (make s) (check s.catalogue s.plan 0)
accepted make (bad code place) = refuses code place

-- ── request 1: "Export a plan as an indented listing … all into a lent buffer. Refusals: 2 to 10, then 13." ──

unfoldable pub list_of : (file : List ℕ) → Outcome
list_of file = accepted (λ s. listing s.plan) (read_file file)

unfoldable pub list_answer : (file out : List ℕ) → Answer
list_answer file out = delivered (list_of file) out

-- ── request 13: "Read a listing with a catalogue and produce the plan file." ────────────────

-- the mark of version 1: a listing is read for version 1 alone
unfoldable pub read_mark1 : Reader Version
read_mark1 file at tags nodes = pick (starts (mark_bytes version1) file) (ok version1 5 tags nodes) (bad MARK 0)

-- "2 to 5 for the catalogue, then 6 for bytes after it"
unfoldable pub read_tables : Reader Catalogue
read_tables = do
  v ← read_mark1
  C ← read_catalogue v
  z ← read_end
  give C

-- the bytes of a node without its inputs
unfoldable pub node_bytes : Version → Head → List ℕ
node_bytes v (h0 h) = leaf_bytes v h
node_bytes v (h1 h) = unary_bytes v h
node_bytes v (h2 h) = binary_bytes h

-- "then 7 to 10 … as for a file": of the very bytes that would be written
unfoldable pub file_outcome : (file : List ℕ) → Outcome
file_outcome file = accepted (λ s. file) (read_file file)

-- "then 4 and 5"
unfoldable pub sized : (catalogue : List ℕ) → List Head → Option Fault → Outcome
sized catalogue hs none = file_outcome (catalogue ++ concat_map (node_bytes version1) hs)
sized catalogue hs (some (fault code n)) = refuses code n

-- "at the line's number from 1, 19 LINE"
unfoldable pub lined : (catalogue : List ℕ) → Catalogue → Formed → Outcome
lined catalogue C (formed hs) = sized catalogue hs (size_fault C 1 0 hs)
lined catalogue C (broken n) = refuses LINE n

unfoldable pub tabled : (catalogue text : List ℕ) → Res Catalogue → Outcome
tabled catalogue text (ok C next tags nodes) = lined catalogue C (forms short_head_at (0 ∷ []) 1 (lines_of text))
tabled catalogue text (bad code place) = refuses code place

unfoldable pub read_listing : (catalogue text : List ℕ) → Outcome
read_listing catalogue text = tabled catalogue text (read_tables catalogue 0 0 0)

unfoldable pub read_answer : (catalogue text out : List ℕ) → Answer
read_answer catalogue text out = delivered (read_listing catalogue text) out
