-- How short texts are read over the tables with the names 1, 2, 3 and 4: what request 13 leaves open, and how it is read here.
use Rattle.std.specs.Prelude.{List, [], ◌∷◌, ℕ}
use Rattle.plan_text.specs.Answers.{Outcome, refuses, yields}

-- mark, version and the two tables
abbrev pub two_tables : List ℕ
two_tables = 67 ∷ 80 ∷ 76 ∷ 1 ∷ 0 ∷ 2 ∷ 3 ∷ 1 ∷ 0 ∷ 2 ∷ 0 ∷ 3 ∷ 0 ∷ 1 ∷ 4 ∷ 0 ∷ []

pub record Reading : Type 0 where
  pub text : List ℕ
  pub result : Outcome

-- no text: the first line is lacking
--   ``
abbrev pub r1 : Reading
r1 = record { text = []; result = refuses 19 1 }

-- a line without a newline
--   `scan 0 as q1`
abbrev pub r2 : Reading
r2 = record { text = 115 ∷ 99 ∷ 97 ∷ 110 ∷ 32 ∷ 48 ∷ 32 ∷ 97 ∷ 115 ∷ 32 ∷ 113 ∷ 49 ∷ []; result = refuses 19 1 }

-- one input too few, one too many
--   `union`
--   `  scan 0 as q1`
abbrev pub r3 : Reading
r3 = record { text = 117 ∷ 110 ∷ 105 ∷ 111 ∷ 110 ∷ 10 ∷ 32 ∷ 32 ∷ 115 ∷ 99 ∷ 97 ∷ 110 ∷ 32 ∷ 48 ∷ 32 ∷ 97 ∷ 115 ∷ 32 ∷ 113 ∷ 49 ∷ 10 ∷ []; result = refuses 19 3 }

--   `filter 1`
--   `  scan 0 as q1`
--   `  scan 0 as q1`
abbrev pub r4 : Reading
r4 = record { text = 102 ∷ 105 ∷ 108 ∷ 116 ∷ 101 ∷ 114 ∷ 32 ∷ 49 ∷ 10 ∷ 32 ∷ 32 ∷ 115 ∷ 99 ∷ 97 ∷ 110 ∷ 32 ∷ 48 ∷ 32 ∷ 97 ∷ 115 ∷ 32 ∷ 113 ∷ 49 ∷ 10 ∷ 32 ∷ 32 ∷ 115 ∷ 99 ∷ 97 ∷ 110 ∷ 32 ∷ 48 ∷ 32 ∷ 97 ∷ 115 ∷ 32 ∷ 113 ∷ 49 ∷ 10 ∷ []; result = refuses 19 3 }

-- another level
--   `filter 1`
--   `    scan 0 as q1`
abbrev pub r5 : Reading
r5 = record { text = 102 ∷ 105 ∷ 108 ∷ 116 ∷ 101 ∷ 114 ∷ 32 ∷ 49 ∷ 10 ∷ 32 ∷ 32 ∷ 32 ∷ 32 ∷ 115 ∷ 99 ∷ 97 ∷ 110 ∷ 32 ∷ 48 ∷ 32 ∷ 97 ∷ 115 ∷ 32 ∷ 113 ∷ 49 ∷ 10 ∷ []; result = refuses 19 2 }

-- numerals: `01`, `-0`, and a minus sign elsewhere than before a literal, have no form
--   `filter 01`
--   `  scan 0 as q1`
abbrev pub r6 : Reading
r6 = record { text = 102 ∷ 105 ∷ 108 ∷ 116 ∷ 101 ∷ 114 ∷ 32 ∷ 48 ∷ 49 ∷ 10 ∷ 32 ∷ 32 ∷ 115 ∷ 99 ∷ 97 ∷ 110 ∷ 32 ∷ 48 ∷ 32 ∷ 97 ∷ 115 ∷ 32 ∷ 113 ∷ 49 ∷ 10 ∷ []; result = refuses 19 1 }

--   `filter -0`
--   `  scan 0 as q1`
abbrev pub r7 : Reading
r7 = record { text = 102 ∷ 105 ∷ 108 ∷ 116 ∷ 101 ∷ 114 ∷ 32 ∷ 45 ∷ 48 ∷ 10 ∷ 32 ∷ 32 ∷ 115 ∷ 99 ∷ 97 ∷ 110 ∷ 32 ∷ 48 ∷ 32 ∷ 97 ∷ 115 ∷ 32 ∷ 113 ∷ 49 ∷ 10 ∷ []; result = refuses 19 1 }

--   `limit -1 0`
--   `  scan 0 as q1`
abbrev pub r8 : Reading
r8 = record { text = 108 ∷ 105 ∷ 109 ∷ 105 ∷ 116 ∷ 32 ∷ 45 ∷ 49 ∷ 32 ∷ 48 ∷ 10 ∷ 32 ∷ 32 ∷ 115 ∷ 99 ∷ 97 ∷ 110 ∷ 32 ∷ 48 ∷ 32 ∷ 97 ∷ 115 ∷ 32 ∷ 113 ∷ 49 ∷ 10 ∷ []; result = refuses 19 1 }

-- 19 anywhere comes before 4
--   `filter c0`
--   `  scan 0 as q1 x`
abbrev pub r9 : Reading
r9 = record { text = 102 ∷ 105 ∷ 108 ∷ 116 ∷ 101 ∷ 114 ∷ 32 ∷ 99 ∷ 48 ∷ 10 ∷ 32 ∷ 32 ∷ 115 ∷ 99 ∷ 97 ∷ 110 ∷ 32 ∷ 48 ∷ 32 ∷ 97 ∷ 115 ∷ 32 ∷ 113 ∷ 49 ∷ 32 ∷ 120 ∷ 10 ∷ []; result = refuses 19 2 }

-- numbers and lengths that no file holds have a form all the same
--   `sort []`
--   `  scan 0 as q1`
abbrev pub r10 : Reading
r10 = record { text = 115 ∷ 111 ∷ 114 ∷ 116 ∷ 32 ∷ 91 ∷ 93 ∷ 10 ∷ 32 ∷ 32 ∷ 115 ∷ 99 ∷ 97 ∷ 110 ∷ 32 ∷ 48 ∷ 32 ∷ 97 ∷ 115 ∷ 32 ∷ 113 ∷ 49 ∷ 10 ∷ []; result = refuses 4 1 }

--   `aggregate [] []`
--   `  scan 0 as q1`
abbrev pub r11 : Reading
r11 = record { text = 97 ∷ 103 ∷ 103 ∷ 114 ∷ 101 ∷ 103 ∷ 97 ∷ 116 ∷ 101 ∷ 32 ∷ 91 ∷ 93 ∷ 32 ∷ 91 ∷ 93 ∷ 10 ∷ 32 ∷ 32 ∷ 115 ∷ 99 ∷ 97 ∷ 110 ∷ 32 ∷ 48 ∷ 32 ∷ 97 ∷ 115 ∷ 32 ∷ 113 ∷ 49 ∷ 10 ∷ []; result = refuses 4 1 }

--   `filter q0.c1`
--   `  scan 0 as q1`
abbrev pub r12 : Reading
r12 = record { text = 102 ∷ 105 ∷ 108 ∷ 116 ∷ 101 ∷ 114 ∷ 32 ∷ 113 ∷ 48 ∷ 46 ∷ 99 ∷ 49 ∷ 10 ∷ 32 ∷ 32 ∷ 115 ∷ 99 ∷ 97 ∷ 110 ∷ 32 ∷ 48 ∷ 32 ∷ 97 ∷ 115 ∷ 32 ∷ 113 ∷ 49 ∷ 10 ∷ []; result = refuses 4 1 }

--   `filter c0`
--   `  scan 0 as q1`
abbrev pub r13 : Reading
r13 = record { text = 102 ∷ 105 ∷ 108 ∷ 116 ∷ 101 ∷ 114 ∷ 32 ∷ 99 ∷ 48 ∷ 10 ∷ 32 ∷ 32 ∷ 115 ∷ 99 ∷ 97 ∷ 110 ∷ 32 ∷ 48 ∷ 32 ∷ 97 ∷ 115 ∷ 32 ∷ 113 ∷ 49 ∷ 10 ∷ []; result = refuses 4 1 }

--   `limit 0 4294967295`
--   `  scan 0 as q1`
abbrev pub r14 : Reading
r14 = record { text = 108 ∷ 105 ∷ 109 ∷ 105 ∷ 116 ∷ 32 ∷ 48 ∷ 32 ∷ 52 ∷ 50 ∷ 57 ∷ 52 ∷ 57 ∷ 54 ∷ 55 ∷ 50 ∷ 57 ∷ 53 ∷ 10 ∷ 32 ∷ 32 ∷ 115 ∷ 99 ∷ 97 ∷ 110 ∷ 32 ∷ 48 ∷ 32 ∷ 97 ∷ 115 ∷ 32 ∷ 113 ∷ 49 ∷ 10 ∷ []; result = refuses 4 1 }

--   `filter 9223372036854775808`
--   `  scan 0 as q1`
abbrev pub r15 : Reading
r15 = record { text = 102 ∷ 105 ∷ 108 ∷ 116 ∷ 101 ∷ 114 ∷ 32 ∷ 57 ∷ 50 ∷ 50 ∷ 51 ∷ 51 ∷ 55 ∷ 50 ∷ 48 ∷ 51 ∷ 54 ∷ 56 ∷ 53 ∷ 52 ∷ 55 ∷ 55 ∷ 53 ∷ 56 ∷ 48 ∷ 56 ∷ 10 ∷ 32 ∷ 32 ∷ 115 ∷ 99 ∷ 97 ∷ 110 ∷ 32 ∷ 48 ∷ 32 ∷ 97 ∷ 115 ∷ 32 ∷ 113 ∷ 49 ∷ 10 ∷ []; result = refuses 4 1 }

--   `scan 2 as q1`
abbrev pub r16 : Reading
r16 = record { text = 115 ∷ 99 ∷ 97 ∷ 110 ∷ 32 ∷ 50 ∷ 32 ∷ 97 ∷ 115 ∷ 32 ∷ 113 ∷ 49 ∷ 10 ∷ []; result = refuses 4 1 }

--   `scan 0 as q1 [3]`
abbrev pub r17 : Reading
r17 = record { text = 115 ∷ 99 ∷ 97 ∷ 110 ∷ 32 ∷ 48 ∷ 32 ∷ 97 ∷ 115 ∷ 32 ∷ 113 ∷ 49 ∷ 32 ∷ 91 ∷ 51 ∷ 93 ∷ 10 ∷ []; result = refuses 4 1 }

-- a count comes before its list, the list before what follows it in the file
--   `sort [c0, c0, c0, c0, c0, c0, c0, c0, c0, c0, c0, c0, c0, c0, c0, c0, c0]`
--   `  empty []`
abbrev pub r18 : Reading
r18 = record { text = 115 ∷ 111 ∷ 114 ∷ 116 ∷ 32 ∷ 91 ∷ 99 ∷ 48 ∷ 44 ∷ 32 ∷ 99 ∷ 48 ∷ 44 ∷ 32 ∷ 99 ∷ 48 ∷ 44 ∷ 32 ∷ 99 ∷ 48 ∷ 44 ∷ 32 ∷ 99 ∷ 48 ∷ 44 ∷ 32 ∷ 99 ∷ 48 ∷ 44 ∷ 32 ∷ 99 ∷ 48 ∷ 44 ∷ 32 ∷ 99 ∷ 48 ∷ 44 ∷ 32 ∷ 99 ∷ 48 ∷ 44 ∷ 32 ∷ 99 ∷ 48 ∷ 44 ∷ 32 ∷ 99 ∷ 48 ∷ 44 ∷ 32 ∷ 99 ∷ 48 ∷ 44 ∷ 32 ∷ 99 ∷ 48 ∷ 44 ∷ 32 ∷ 99 ∷ 48 ∷ 44 ∷ 32 ∷ 99 ∷ 48 ∷ 44 ∷ 32 ∷ 99 ∷ 48 ∷ 44 ∷ 32 ∷ 99 ∷ 48 ∷ 93 ∷ 10 ∷ 32 ∷ 32 ∷ 101 ∷ 109 ∷ 112 ∷ 116 ∷ 121 ∷ 32 ∷ 91 ∷ 93 ∷ 10 ∷ []; result = refuses 5 1 }

--   `window [sum(c0) by [c1, c1, c1, c1, c1, c1, c1, c1, c1, c1, c1, c1, c1, c1, c1, c1, c1] order [] as c9]`
--   `  empty []`
abbrev pub r19 : Reading
r19 = record { text = 119 ∷ 105 ∷ 110 ∷ 100 ∷ 111 ∷ 119 ∷ 32 ∷ 91 ∷ 115 ∷ 117 ∷ 109 ∷ 40 ∷ 99 ∷ 48 ∷ 41 ∷ 32 ∷ 98 ∷ 121 ∷ 32 ∷ 91 ∷ 99 ∷ 49 ∷ 44 ∷ 32 ∷ 99 ∷ 49 ∷ 44 ∷ 32 ∷ 99 ∷ 49 ∷ 44 ∷ 32 ∷ 99 ∷ 49 ∷ 44 ∷ 32 ∷ 99 ∷ 49 ∷ 44 ∷ 32 ∷ 99 ∷ 49 ∷ 44 ∷ 32 ∷ 99 ∷ 49 ∷ 44 ∷ 32 ∷ 99 ∷ 49 ∷ 44 ∷ 32 ∷ 99 ∷ 49 ∷ 44 ∷ 32 ∷ 99 ∷ 49 ∷ 44 ∷ 32 ∷ 99 ∷ 49 ∷ 44 ∷ 32 ∷ 99 ∷ 49 ∷ 44 ∷ 32 ∷ 99 ∷ 49 ∷ 44 ∷ 32 ∷ 99 ∷ 49 ∷ 44 ∷ 32 ∷ 99 ∷ 49 ∷ 44 ∷ 32 ∷ 99 ∷ 49 ∷ 44 ∷ 32 ∷ 99 ∷ 49 ∷ 93 ∷ 32 ∷ 111 ∷ 114 ∷ 100 ∷ 101 ∷ 114 ∷ 32 ∷ 91 ∷ 93 ∷ 32 ∷ 97 ∷ 115 ∷ 32 ∷ 99 ∷ 57 ∷ 93 ∷ 10 ∷ 32 ∷ 32 ∷ 101 ∷ 109 ∷ 112 ∷ 116 ∷ 121 ∷ 32 ∷ 91 ∷ 93 ∷ 10 ∷ []; result = refuses 5 1 }

--   `window [sum(c0) by [c1, c1, c1, c1, c1, c1, c1, c1, c1, c1, c1, c1, c1, c1, c1, c1, c1] order [] as c0]`
--   `  empty []`
abbrev pub r20 : Reading
r20 = record { text = 119 ∷ 105 ∷ 110 ∷ 100 ∷ 111 ∷ 119 ∷ 32 ∷ 91 ∷ 115 ∷ 117 ∷ 109 ∷ 40 ∷ 99 ∷ 48 ∷ 41 ∷ 32 ∷ 98 ∷ 121 ∷ 32 ∷ 91 ∷ 99 ∷ 49 ∷ 44 ∷ 32 ∷ 99 ∷ 49 ∷ 44 ∷ 32 ∷ 99 ∷ 49 ∷ 44 ∷ 32 ∷ 99 ∷ 49 ∷ 44 ∷ 32 ∷ 99 ∷ 49 ∷ 44 ∷ 32 ∷ 99 ∷ 49 ∷ 44 ∷ 32 ∷ 99 ∷ 49 ∷ 44 ∷ 32 ∷ 99 ∷ 49 ∷ 44 ∷ 32 ∷ 99 ∷ 49 ∷ 44 ∷ 32 ∷ 99 ∷ 49 ∷ 44 ∷ 32 ∷ 99 ∷ 49 ∷ 44 ∷ 32 ∷ 99 ∷ 49 ∷ 44 ∷ 32 ∷ 99 ∷ 49 ∷ 44 ∷ 32 ∷ 99 ∷ 49 ∷ 44 ∷ 32 ∷ 99 ∷ 49 ∷ 44 ∷ 32 ∷ 99 ∷ 49 ∷ 44 ∷ 32 ∷ 99 ∷ 49 ∷ 93 ∷ 32 ∷ 111 ∷ 114 ∷ 100 ∷ 101 ∷ 114 ∷ 32 ∷ 91 ∷ 93 ∷ 32 ∷ 97 ∷ 115 ∷ 32 ∷ 99 ∷ 48 ∷ 93 ∷ 10 ∷ 32 ∷ 32 ∷ 101 ∷ 109 ∷ 112 ∷ 116 ∷ 121 ∷ 32 ∷ 91 ∷ 93 ∷ 10 ∷ []; result = refuses 4 1 }

-- what a file is refused for, at the node
--   `filter c9`
--   `  scan 0 as q1`
abbrev pub r21 : Reading
r21 = record { text = 102 ∷ 105 ∷ 108 ∷ 116 ∷ 101 ∷ 114 ∷ 32 ∷ 99 ∷ 57 ∷ 10 ∷ 32 ∷ 32 ∷ 115 ∷ 99 ∷ 97 ∷ 110 ∷ 32 ∷ 48 ∷ 32 ∷ 97 ∷ 115 ∷ 32 ∷ 113 ∷ 49 ∷ 10 ∷ []; result = refuses 8 0 }

--   `union`
--   `  scan 0 as q1`
--   `  scan 1 as q2`
abbrev pub r22 : Reading
r22 = record { text = 117 ∷ 110 ∷ 105 ∷ 111 ∷ 110 ∷ 10 ∷ 32 ∷ 32 ∷ 115 ∷ 99 ∷ 97 ∷ 110 ∷ 32 ∷ 48 ∷ 32 ∷ 97 ∷ 115 ∷ 32 ∷ 113 ∷ 49 ∷ 10 ∷ 32 ∷ 32 ∷ 115 ∷ 99 ∷ 97 ∷ 110 ∷ 32 ∷ 49 ∷ 32 ∷ 97 ∷ 115 ∷ 32 ∷ 113 ∷ 50 ∷ 10 ∷ []; result = refuses 9 0 }

--   `join inner on []`
--   `  scan 0 as q1`
--   `  scan 0 as q1`
abbrev pub r23 : Reading
r23 = record { text = 106 ∷ 111 ∷ 105 ∷ 110 ∷ 32 ∷ 105 ∷ 110 ∷ 110 ∷ 101 ∷ 114 ∷ 32 ∷ 111 ∷ 110 ∷ 32 ∷ 91 ∷ 93 ∷ 10 ∷ 32 ∷ 32 ∷ 115 ∷ 99 ∷ 97 ∷ 110 ∷ 32 ∷ 48 ∷ 32 ∷ 97 ∷ 115 ∷ 32 ∷ 113 ∷ 49 ∷ 10 ∷ 32 ∷ 32 ∷ 115 ∷ 99 ∷ 97 ∷ 110 ∷ 32 ∷ 48 ∷ 32 ∷ 97 ∷ 115 ∷ 32 ∷ 113 ∷ 49 ∷ 10 ∷ []; result = refuses 7 0 }

-- what is accepted
--   `scan 0 as q1`
abbrev pub r24 : Reading
r24 = record { text = 115 ∷ 99 ∷ 97 ∷ 110 ∷ 32 ∷ 48 ∷ 32 ∷ 97 ∷ 115 ∷ 32 ∷ 113 ∷ 49 ∷ 10 ∷ []; result = yields (67 ∷ 80 ∷ 76 ∷ 1 ∷ 0 ∷ 2 ∷ 3 ∷ 1 ∷ 0 ∷ 2 ∷ 0 ∷ 3 ∷ 0 ∷ 1 ∷ 4 ∷ 0 ∷ 11 ∷ 0 ∷ 1 ∷ 0 ∷ 0 ∷ []) }

--   `limit 3 none`
--   `  filter (q1.c1 < -9223372036854775808)`
--   `    scan 0 as q1 [0, 2]`
abbrev pub r25 : Reading
r25 = record { text = 108 ∷ 105 ∷ 109 ∷ 105 ∷ 116 ∷ 32 ∷ 51 ∷ 32 ∷ 110 ∷ 111 ∷ 110 ∷ 101 ∷ 10 ∷ 32 ∷ 32 ∷ 102 ∷ 105 ∷ 108 ∷ 116 ∷ 101 ∷ 114 ∷ 32 ∷ 40 ∷ 113 ∷ 49 ∷ 46 ∷ 99 ∷ 49 ∷ 32 ∷ 60 ∷ 32 ∷ 45 ∷ 57 ∷ 50 ∷ 50 ∷ 51 ∷ 51 ∷ 55 ∷ 50 ∷ 48 ∷ 51 ∷ 54 ∷ 56 ∷ 53 ∷ 52 ∷ 55 ∷ 55 ∷ 53 ∷ 56 ∷ 48 ∷ 56 ∷ 41 ∷ 10 ∷ 32 ∷ 32 ∷ 32 ∷ 32 ∷ 115 ∷ 99 ∷ 97 ∷ 110 ∷ 32 ∷ 48 ∷ 32 ∷ 97 ∷ 115 ∷ 32 ∷ 113 ∷ 49 ∷ 32 ∷ 91 ∷ 48 ∷ 44 ∷ 32 ∷ 50 ∷ 93 ∷ 10 ∷ []; result = yields (67 ∷ 80 ∷ 76 ∷ 1 ∷ 0 ∷ 2 ∷ 3 ∷ 1 ∷ 0 ∷ 2 ∷ 0 ∷ 3 ∷ 0 ∷ 1 ∷ 4 ∷ 0 ∷ 4 ∷ 3 ∷ 0 ∷ 0 ∷ 0 ∷ 255 ∷ 255 ∷ 255 ∷ 255 ∷ 2 ∷ 9 ∷ 0 ∷ 1 ∷ 0 ∷ 1 ∷ 0 ∷ 1 ∷ 0 ∷ 0 ∷ 0 ∷ 0 ∷ 0 ∷ 0 ∷ 0 ∷ 128 ∷ 11 ∷ 0 ∷ 1 ∷ 0 ∷ 1 ∷ 2 ∷ 0 ∷ 2 ∷ []) }

-- a scan of version 2
--   `scan 0 as q1 where [q1.c1]`
abbrev pub r26 : Reading
r26 = record { text = 115 ∷ 99 ∷ 97 ∷ 110 ∷ 32 ∷ 48 ∷ 32 ∷ 97 ∷ 115 ∷ 32 ∷ 113 ∷ 49 ∷ 32 ∷ 119 ∷ 104 ∷ 101 ∷ 114 ∷ 101 ∷ 32 ∷ 91 ∷ 113 ∷ 49 ∷ 46 ∷ 99 ∷ 49 ∷ 93 ∷ 10 ∷ []; result = refuses 19 1 }

abbrev pub readings : List Reading
readings = r1 ∷ r2 ∷ r3 ∷ r4 ∷ r5 ∷ r6 ∷ r7 ∷ r8 ∷ r9 ∷ r10 ∷ r11 ∷ r12 ∷ r13 ∷ r14 ∷ r15 ∷ r16 ∷ r17 ∷ r18 ∷ r19 ∷ r20 ∷ r21 ∷ r22 ∷ r23 ∷ r24 ∷ r25 ∷ r26 ∷ []
