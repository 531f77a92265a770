-- The text that the program of document 01 prints, byte by byte. "First line `PLAN` and the node count; then for each node its number, kind in small
-- letters, field count. A refusal prints one line: `REFUSED`, code, place." A text is a list of the numbers of its letters.
use Rattle.std.specs.Prelude.{List, [], ◌∷◌, ◌++◌, ℕ, ◌+◌, ◌*◌, eqb, length, get_or, take, drop, replicate}
use Rattle.cpl.specs.Exprs.{plan_nodes}
use Rattle.cpl.specs.Fields.{fields_of}
use Rattle.cpl.specs.Plan.{Catalogue, Leaf, scan, empty, Unary, projection, filter, sort, limit, aggregate, window, subquery_alias, distinct}
use Rattle.cpl.specs.Plan.{Binary, union, join, Plan, leaf, unary, binary, Source}
use Rattle.cpl.specs.Read.{pick}
use Rattle.cpl.specs.ReadPlan.{read_file}
use Rattle.cpl.specs.Tests.{iota}
use Rattle.rules.specs.Check.{Finding, accepted, faulty, finding}
use Rattle.rules.specs.Answer.{Answer, Verdict, answer_all, narrowed, refused, verdict}
use Rattle.plan_text.specs.Decimal.{decimal}

-- ── words ───────────────────────────────────────────────────────────────────────────────────

abbrev pub space : List ℕ
space = 32 ∷ []

-- "Every line ends in a newline"
abbrev pub newline : List ℕ
newline = 10 ∷ []

-- "kind in small letters": scan, empty
unfoldable pub leaf_kind : Leaf → List ℕ
leaf_kind (scan t q is es) = 115 ∷ 99 ∷ 97 ∷ 110 ∷ []
leaf_kind (empty b cs) = 101 ∷ 109 ∷ 112 ∷ 116 ∷ 121 ∷ []

-- projection, filter, sort, limit, aggregate, window, subqueryalias, distinct
unfoldable pub unary_kind : Unary → List ℕ
unary_kind (projection is) = 112 ∷ 114 ∷ 111 ∷ 106 ∷ 101 ∷ 99 ∷ 116 ∷ 105 ∷ 111 ∷ 110 ∷ []
unary_kind (filter e) = 102 ∷ 105 ∷ 108 ∷ 116 ∷ 101 ∷ 114 ∷ []
unary_kind (sort ks) = 115 ∷ 111 ∷ 114 ∷ 116 ∷ []
unary_kind (limit s n) = 108 ∷ 105 ∷ 109 ∷ 105 ∷ 116 ∷ []
unary_kind (aggregate gs vs) = 97 ∷ 103 ∷ 103 ∷ 114 ∷ 101 ∷ 103 ∷ 97 ∷ 116 ∷ 101 ∷ []
unary_kind (window ws) = 119 ∷ 105 ∷ 110 ∷ 100 ∷ 111 ∷ 119 ∷ []
unary_kind (subquery_alias q) = 115 ∷ 117 ∷ 98 ∷ 113 ∷ 117 ∷ 101 ∷ 114 ∷ 121 ∷ 97 ∷ 108 ∷ 105 ∷ 97 ∷ 115 ∷ []
unary_kind distinct = 100 ∷ 105 ∷ 115 ∷ 116 ∷ 105 ∷ 110 ∷ 99 ∷ 116 ∷ []

-- union, join
unfoldable pub binary_kind : Binary → List ℕ
binary_kind union = 117 ∷ 110 ∷ 105 ∷ 111 ∷ 110 ∷ []
binary_kind (join t os c) = 106 ∷ 111 ∷ 105 ∷ 110 ∷ []

-- the kind of a plan's top node
unfoldable pub kind_text : Plan → List ℕ
kind_text (leaf h) = leaf_kind h
kind_text (unary h p) = unary_kind h
kind_text (binary h p q) = binary_kind h

-- ── lines ───────────────────────────────────────────────────────────────────────────────────

-- "for each node its number, kind in small letters, field count"
unfoldable pub line_text : (number : ℕ) (kind : List ℕ) (width : ℕ) → List ℕ
line_text number kind width = decimal number ++ space ++ kind ++ space ++ decimal width ++ newline

-- the line of a plan's top node, whose number is k
unfoldable pub line_of : Catalogue → Plan → (k : ℕ) → List ℕ
line_of C p k = line_text k (kind_text p) (length (fields_of C p))

-- the lines of a plan whose top node has the number k. "Nodes are numbered in prefix order from 0."
unfoldable pub lines_of : Catalogue → Plan → (k : ℕ) → List ℕ
lines_of C (leaf h) k = line_of C (leaf h) k
lines_of C (unary h p) k = line_of C (unary h p) k ++ lines_of C p (k + 1)
lines_of C (binary h p q) k = line_of C (binary h p q) k ++ (lines_of C p (k + 1) ++ lines_of C q (k + 1 + plan_nodes p))

-- "First line `PLAN` and the node count"
unfoldable pub count_text : (count : ℕ) → List ℕ
count_text count = (80 ∷ 76 ∷ 65 ∷ 78 ∷ 32 ∷ []) ++ decimal count ++ newline

-- "then for each node …"
unfoldable pub plan_text : Catalogue → Plan → List ℕ
plan_text C p = count_text (plan_nodes p) ++ lines_of C p 0

-- "A refusal prints one line: `REFUSED`, code, place."
unfoldable pub refused_text : (code place : ℕ) → List ℕ
refused_text code place = (82 ∷ 69 ∷ 70 ∷ 85 ∷ 83 ∷ 69 ∷ 68 ∷ 32 ∷ []) ++ decimal code ++ space ++ decimal place ++ newline

-- ── files ───────────────────────────────────────────────────────────────────────────────────

-- an accepted plan, or a refusal
unfoldable pub finding_text : Finding → List ℕ
finding_text (accepted C p) = plan_text C p
finding_text (faulty code place) = refused_text code place

-- the listing of a plan file's plan, or of what is wrong with the file
unfoldable pub list_text : (file : List ℕ) → List ℕ
list_text file = finding_text (finding (read_file file))

-- ── the program ─────────────────────────────────────────────────────────────────────────────

-- "reads one mode byte, a u16 mask and a plan file from standard input": "Numbers are little-endian"; "Missing setting bytes are 0"
unfoldable pub mode_in : (input : List ℕ) → ℕ
mode_in input = get_or input 0 0

unfoldable pub mask_in : (input : List ℕ) → ℕ
mask_in input = get_or input 1 0 + 256 * get_or input 2 0

-- "it reads at most 65,536 plan bytes": what is behind them is not looked at
abbrev pub most_read : ℕ
most_read = 65536

unfoldable pub file_in : (input : List ℕ) → List ℕ
file_in input = take most_read (drop 3 input)

-- "and lends an output of 65,536"
abbrev pub lent_out : List ℕ
lent_out = replicate 65536 0

-- what is printed of the rules' verdict and of the answer that was delivered: the rewritten plan, node by node, where the code is 0; else the refusal
unfoldable pub answer_text : Verdict → Answer → List ℕ
answer_text (refused code place) a = refused_text a.code a.place
answer_text (narrowed s) a = pick (eqb a.code 0) (plan_text s.catalogue s.plan) (refused_text a.code a.place)

-- what is printed of settings and a plan file: the program "asks for all fields"
unfoldable pub printed_text : (mode mask : ℕ) (file : List ℕ) → List ℕ
printed_text mode mask file = answer_text (verdict mode mask file (λ width. iota 0 width)) (answer_all mode mask file lent_out)

-- all that the program prints
unfoldable pub program_text : (input : List ℕ) → List ℕ
program_text input = printed_text (mode_in input) (mask_in input) (file_in input)
