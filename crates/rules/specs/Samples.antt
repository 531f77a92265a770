-- Document 01's samples S1 to S8 as one table of files, settings, requests and results, down to the byte.
use Rattle.std.specs.Prelude.{◌≡◌, List, [], ◌∷◌, ◌++◌, ℕ, ◌≤◌, length}
use Rattle.std.proofs.Math.Option.{Option, none, some}
use Rattle.rules.specs.Answer.{Answer, answer, answer_all, success}

-- a request of none is one of all fields; plan and result are what stands behind the catalogue
pub data Sample : Type 0 where
  sample : (mode mask : ℕ) (plan : List ℕ) (request : Option (List ℕ)) (result : List ℕ) → Sample

-- "Scan S: table 0 with names 1, 2, 3": the mark, the version and the catalogue
abbrev pub header : List ℕ
header = 67 ∷ 80 ∷ 76 ∷ 1 ∷ 0 ∷ 1 ∷ 3 ∷ 1 ∷ 0 ∷ 2 ∷ 0 ∷ 3 ∷ 0 ∷ []

unfoldable pub asked : (mode mask : ℕ) (file : List ℕ) → Option (List ℕ) → (out : List ℕ) → Answer
asked mode mask file none out = answer_all mode mask file out
asked mode mask file (some request) out = answer mode mask file request out

-- the sample's answer, in every buffer that is long enough, is code 0 and the result
unfoldable pub Right : Sample → Type 0
Right (sample mode mask plan request result) = (out : List ℕ) → length (header ++ result) ≤ length out → asked mode mask (header ++ plan) request out ≡ success (header ++ result) out

-- ── bytes of the samples' parts ─────────────────────────────────────────────────────────────

-- "qualifier 1; its columns a, b, c"
abbrev a : List ℕ
a = 0 ∷ 1 ∷ 0 ∷ 1 ∷ 0 ∷ []

abbrev b : List ℕ
b = 0 ∷ 1 ∷ 0 ∷ 2 ∷ 0 ∷ []

abbrev c : List ℕ
c = 0 ∷ 1 ∷ 0 ∷ 3 ∷ 0 ∷ []

-- y is the pair (0, 8), x (0, 7) and z (0, 9)
abbrev y : List ℕ
y = 0 ∷ 0 ∷ 0 ∷ 8 ∷ 0 ∷ []

-- an alias of that name without a qualifier; the pair alone, as an aggregate or a window has it
abbrev as_name : ℕ → List ℕ
as_name n = 12 ∷ 0 ∷ 0 ∷ n ∷ 0 ∷ []

abbrev name : ℕ → List ℕ
name n = 0 ∷ 0 ∷ n ∷ 0 ∷ []

abbrev literal : ℕ → List ℕ
literal n = 1 ∷ n ∷ 0 ∷ 0 ∷ 0 ∷ 0 ∷ 0 ∷ 0 ∷ 0 ∷ []

abbrev add : List ℕ → List ℕ → List ℕ
add d e = 5 ∷ (d ++ e)

-- a Projection of one item, over the plan
abbrev project : List ℕ → List ℕ → List ℕ
project i p = 1 ∷ 1 ∷ (i ++ p)

abbrev S : List ℕ
S = 11 ∷ 0 ∷ 1 ∷ 0 ∷ 0 ∷ []

abbrev scan1 : ℕ → List ℕ
scan1 i = 11 ∷ 0 ∷ 1 ∷ 0 ∷ 1 ∷ 1 ∷ i ∷ []

abbrev scan2 : ℕ → ℕ → List ℕ
scan2 i j = 11 ∷ 0 ∷ 1 ∷ 0 ∷ 1 ∷ 2 ∷ i ∷ j ∷ []

-- Filter(b = 5)
abbrev filter_b_lem : List ℕ
filter_b_lem = 2 ∷ 8 ∷ (b ++ literal 5)

-- Limit of 3 rows
abbrev limit_3 : List ℕ
limit_3 = 4 ∷ 0 ∷ 0 ∷ 0 ∷ 0 ∷ 3 ∷ 0 ∷ 0 ∷ 0 ∷ []

-- sum b as x, max c as y
abbrev sum_b : List ℕ
sum_b = name 7 ++ 2 ∷ b

abbrev max_c : List ℕ
max_c = name 8 ++ 4 ∷ c

-- Window(row number as x, partition a, order b)
abbrev row_number : List ℕ
row_number = 6 ∷ 1 ∷ (name 7 ++ 0 ∷ 1 ∷ (a ++ 1 ∷ 0 ∷ b))

-- [y+1 as y]
abbrev next_y : List ℕ → List ℕ
next_y p = project (as_name 8 ++ add y (literal 1)) p

-- [y+1 as y], [y+1 as y], [a as y], S
abbrev twice : List ℕ
twice = next_y (next_y (project (as_name 8 ++ a) S))

-- [y+y as z], [a+1 as y]
abbrev double : List ℕ → List ℕ
double p = project (as_name 9 ++ add y y) (project (as_name 8 ++ add a (literal 1)) p)

-- "Request all, mask 0, house mode unless said."
unfoldable pub samples : List Sample
samples =
    -- "S1 Projection[a] over S gives Scan[0]."
    sample 1 0 (project a S) none (scan1 0)
    -- "S2 Projection[a as x], Filter(b = 5), S: scan becomes [0,1], no top-up."
    ∷ sample 1 0 (project (as_name 7 ++ a) (filter_b_lem ++ S)) none (project (as_name 7 ++ a) (filter_b_lem ++ scan2 0 1))
    -- "S3 Limit, Aggregate(a; sum b, max c), S, request {2}: fields a and max; scan [0,2]."
    ∷ sample 1 0 (limit_3 ++ 5 ∷ 1 ∷ (a ++ 2 ∷ (sum_b ++ (max_c ++ S)))) (some (2 ∷ [])) (limit_3 ++ 5 ∷ 1 ∷ (a ++ 1 ∷ (max_c ++ scan2 0 2)))
    -- "S4 Aggregate(; count rows), S, request {}: one-row Empty."
    ∷ sample 1 0 (5 ∷ 0 ∷ 1 ∷ (name 7 ++ 0 ∷ S)) (some []) (12 ∷ 1 ∷ 0 ∷ [])
    -- "S5 Window(row number, partition a, order b), S, request {0}: Scan[0]. Request {3}: window stays, scan [0,1]."
    ∷ sample 1 0 (row_number ++ S) (some (0 ∷ [])) (scan1 0)
    ∷ sample 1 0 (row_number ++ S) (some (3 ∷ [])) (row_number ++ scan2 0 1)
    -- "S6 Scan[2,0], request {0}: Scan[2]."
    ∷ sample 1 0 (scan2 2 0) (some (0 ∷ [])) (scan1 2)
    -- "S7 [y+1 as y], [y+1 as y], [a as y], S: crate mode [a+1 as y]; house mode [(a+1)+1 as y]."
    ∷ sample 0 0 twice none (project (as_name 8 ++ add a (literal 1)) (scan1 0))
    ∷ sample 1 0 twice none (project (as_name 8 ++ add (add a (literal 1)) (literal 1)) (scan1 0))
    -- "S8 [y+y as z], [a+1 as y], S: not merged. Mask 32: [(a+1)+(a+1) as z]."
    ∷ sample 1 0 (double S) none (double (scan1 0))
    ∷ sample 1 32 (double S) none (project (as_name 9 ++ add (add a (literal 1)) (add a (literal 1))) (scan1 0))
    ∷ []
