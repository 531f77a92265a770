-- Files of version 2, with their results down to the byte and their refusals: what version 2 adds, once each.
use Rattle.std.specs.Prelude.{◌≡◌, List, [], ◌∷◌, ◌++◌, ℕ, ◌≤◌, length}
use Rattle.std.proofs.Math.Option.{Option, none, some}
use Rattle.rules.specs.Answer.{refusal, success}
use Rattle.rules.specs.Samples.{asked}

-- in house mode with mask 0; a request of none is one of all fields
pub data Sample2 : Type 0 where
  gives : (file : List ℕ) (request : Option (List ℕ)) (result : List ℕ) → Sample2
  refuses : (file : List ℕ) (code place : ℕ) → Sample2

unfoldable pub Right2 : Sample2 → Type 0
Right2 (gives file request result) = (out : List ℕ) → length result ≤ length out → asked 1 0 file request out ≡ success result out
Right2 (refuses file code place) = (out : List ℕ) → asked 1 0 file none out ≡ refusal code place out

-- ── bytes of the samples' parts ─────────────────────────────────────────────────────────────

-- the mark and table 0 with names 1, 2, 3; 14 bytes
abbrev tables : List ℕ
tables = 67 ∷ 80 ∷ 76 ∷ 2 ∷ 0 ∷ 1 ∷ 3 ∷ 0 ∷ 1 ∷ 0 ∷ 2 ∷ 0 ∷ 3 ∷ 0 ∷ []

-- without keys; 15 bytes
abbrev header : List ℕ
header = tables ++ 0 ∷ []

-- the mark, table 0 with names 1, 1, 2, no keys
abbrev twice : List ℕ
twice = 67 ∷ 80 ∷ 76 ∷ 2 ∷ 0 ∷ 1 ∷ 3 ∷ 0 ∷ 1 ∷ 0 ∷ 1 ∷ 0 ∷ 2 ∷ 0 ∷ 0 ∷ []

-- the scan of table 0, qualifier 1: its tag, table and qualifier
abbrev scan : List ℕ
scan = 11 ∷ 0 ∷ 1 ∷ 0 ∷ []

-- all columns, no filter
abbrev S : List ℕ
S = scan ++ 0 ∷ 0 ∷ []

-- "qualifier 1; its columns a, b, c"
abbrev a : List ℕ
a = 0 ∷ 1 ∷ 0 ∷ 1 ∷ 0 ∷ []

abbrev b : List ℕ
b = 0 ∷ 1 ∷ 0 ∷ 2 ∷ 0 ∷ []

abbrev c : List ℕ
c = 0 ∷ 1 ∷ 0 ∷ 3 ∷ 0 ∷ []

-- two filters: b < c, and c is missing
abbrev filters : List ℕ
filters = 2 ∷ 9 ∷ (b ++ (c ++ 4 ∷ c))

unfoldable pub samples2 : List Sample2
samples2 =
    -- Projection[a] over S gives Scan[0]: counts and column indices of two bytes
    gives (header ++ 1 ∷ 1 ∷ 0 ∷ (a ++ S)) none (header ++ (scan ++ 1 ∷ 1 ∷ 0 ∷ 0 ∷ 0 ∷ 0 ∷ []))
    -- filters stay, also where none of their columns is requested, and ask for none
    ∷ gives (header ++ (scan ++ 0 ∷ filters)) (some (0 ∷ [])) (header ++ (scan ++ 1 ∷ 1 ∷ 0 ∷ 0 ∷ 0 ∷ filters))
    ∷ gives (header ++ (scan ++ 1 ∷ 2 ∷ 0 ∷ 2 ∷ 0 ∷ 0 ∷ 0 ∷ filters)) (some (0 ∷ [])) (header ++ (scan ++ 1 ∷ 1 ∷ 0 ∷ 2 ∷ 0 ∷ filters))
    -- a key is read and written back: table 0, columns 2 and 0
    ∷ gives (tables ++ 1 ∷ 0 ∷ 2 ∷ 0 ∷ 2 ∷ 0 ∷ 0 ∷ 0 ∷ S) (some []) (tables ++ 1 ∷ 0 ∷ 2 ∷ 0 ∷ 2 ∷ 0 ∷ 0 ∷ 0 ∷ (scan ++ 1 ∷ 0 ∷ 0 ∷ 0 ∷ []))
    -- version 3 is no version; version 2 without a table count is cut
    ∷ refuses (67 ∷ 80 ∷ 76 ∷ 3 ∷ 0 ∷ []) 2 0
    ∷ refuses (67 ∷ 80 ∷ 76 ∷ 2 ∷ 0 ∷ []) 3 5
    -- 513 columns, 17 keys, a key of 513 columns, 513 items, 17 filters
    ∷ refuses (67 ∷ 80 ∷ 76 ∷ 2 ∷ 0 ∷ 1 ∷ 1 ∷ 2 ∷ []) 5 6
    ∷ refuses (tables ++ 17 ∷ []) 5 14
    ∷ refuses (tables ++ 1 ∷ 0 ∷ 1 ∷ 2 ∷ []) 5 16
    ∷ refuses (header ++ 1 ∷ 1 ∷ 2 ∷ []) 5 16
    ∷ refuses (header ++ (scan ++ 0 ∷ 17 ∷ [])) 5 20
    -- a key of a table that is not there, a second key of one table, an empty key, a column out of range, a column twice
    ∷ refuses (tables ++ 1 ∷ 1 ∷ []) 4 15
    ∷ refuses (tables ++ 2 ∷ 0 ∷ 1 ∷ 0 ∷ 0 ∷ 0 ∷ 0 ∷ []) 4 20
    ∷ refuses (tables ++ 1 ∷ 0 ∷ 0 ∷ 0 ∷ []) 4 16
    ∷ refuses (tables ++ 1 ∷ 0 ∷ 1 ∷ 0 ∷ 3 ∷ 0 ∷ []) 4 18
    ∷ refuses (tables ++ 1 ∷ 0 ∷ 2 ∷ 0 ∷ 2 ∷ 0 ∷ 2 ∷ 0 ∷ []) 4 20
    -- a column index that is cut; a scan that ends before its filters
    ∷ refuses (header ++ (scan ++ 1 ∷ 1 ∷ 0 ∷ 1 ∷ [])) 3 22
    ∷ refuses (header ++ (scan ++ 0 ∷ [])) 3 20
    -- Distinct over a scan whose filter names a column that the table lacks; and one with another qualifier
    ∷ refuses (header ++ 9 ∷ (scan ++ 0 ∷ 1 ∷ 0 ∷ 1 ∷ 0 ∷ 4 ∷ 0 ∷ [])) 8 1
    ∷ refuses (header ++ 9 ∷ (scan ++ 0 ∷ 1 ∷ 0 ∷ 2 ∷ 0 ∷ 1 ∷ 0 ∷ [])) 8 1
    -- a filter's name without a qualifier finds the column; two columns of that name are one too many, with the scan's qualifier too, though the
    -- scan gives neither
    ∷ gives (header ++ (scan ++ 0 ∷ 1 ∷ 0 ∷ 0 ∷ 0 ∷ 1 ∷ 0 ∷ [])) (some []) (header ++ (scan ++ 1 ∷ 0 ∷ 0 ∷ 1 ∷ 0 ∷ 0 ∷ 0 ∷ 1 ∷ 0 ∷ []))
    ∷ refuses (twice ++ 9 ∷ (scan ++ 1 ∷ 1 ∷ 0 ∷ 2 ∷ 0 ∷ 1 ∷ 0 ∷ 0 ∷ 0 ∷ 1 ∷ 0 ∷ [])) 17 1
    ∷ refuses (twice ++ 9 ∷ (scan ++ 1 ∷ 1 ∷ 0 ∷ 2 ∷ 0 ∷ 1 ∷ a)) 17 1
    ∷ []
