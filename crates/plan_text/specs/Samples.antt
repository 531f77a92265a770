-- A plan with every kind, and its listing.
use Rattle.std.specs.Prelude.{List, [], ◌∷◌, ◌++◌, true, false, ℕ, pos, negsuc}
use Rattle.std.proofs.Math.Option.{none, some}
use Rattle.cpl.specs.Plan.{pair, o_not, o_missing, o_add, o_sub, o_mul, o_eq, o_lt, o_and, o_or, Expr, col, lit, miss, un, bin, bare, named, key, f_sum, f_max, rows, over, agg, win, j_left, on, scan, empty, projection, filter, sort, limit, aggregate, window, subquery_alias, distinct, union, join, Plan, leaf, unary, binary, Catalogue, keyless, Source}

-- tables with the names 1, 2, 3 and 4
abbrev pub sample_tables : Catalogue
sample_tables = keyless ((1 ∷ 2 ∷ 3 ∷ []) ∷ (4 ∷ []) ∷ [])

abbrev pub sample_plan : Plan
sample_plan =
    binary union
    (unary (limit 0 none)
    (unary (sort (key true true (col (pair 9 8)) ∷ key false true (un o_missing (col (pair 9 1))) ∷ []))
    (unary (subquery_alias 9)
    (unary (projection (bare (pair 1 1) ∷ named (pair 0 8) (bin o_add (col (pair 0 5)) (lit (negsuc 65535))) ∷ []))
    (unary distinct
    (unary (aggregate (bare (pair 1 1) ∷ named (pair 0 5) (bin o_sub (col (pair 1 2)) (lit (pos 1))) ∷ []) (agg (pair 0 6) rows ∷ agg (pair 3 7) (over f_max (col (pair 0 51))) ∷ []))
    (unary (limit 7 (some 20))
    (unary (filter (bin o_and (bin o_eq (col (pair 1 1)) (lit (pos 10))) (un o_not (bin o_lt (col (pair 2 4)) (lit (pos 0))))))
    (binary (join j_left (on (col (pair 1 1)) (col (pair 2 4)) ∷ []) (some (bin o_or (col (pair 1 2)) (miss))))
    (leaf (scan 0 1 (some (0 ∷ 1 ∷ [])) []))
    (unary (window (win (pair 0 50) rows (col (pair 2 4) ∷ []) (key true false (col (pair 2 4)) ∷ []) ∷ win (pair 0 51) (over f_sum (bin o_mul (col (pair 2 4)) (lit (pos 2)))) ([]) ([]) ∷ []))
    (leaf (scan 1 2 none []))))))))))))
    (leaf (empty true (pair 0 1 ∷ pair 2 3 ∷ [])))

abbrev pub sample_source : Source
sample_source = record { catalogue = sample_tables; plan = sample_plan }

-- `union`
abbrev pub line1 : List ℕ
line1 = 117 ∷ 110 ∷ 105 ∷ 111 ∷ 110 ∷ 10 ∷ []

-- `  limit 0 none`
abbrev pub line2 : List ℕ
line2 = 32 ∷ 32 ∷ 108 ∷ 105 ∷ 109 ∷ 105 ∷ 116 ∷ 32 ∷ 48 ∷ 32 ∷ 110 ∷ 111 ∷ 110 ∷ 101 ∷ 10 ∷ []

-- `    sort [q9.c8 down first, (is-missing q9.c1) first]`
abbrev pub line3 : List ℕ
line3 = 32 ∷ 32 ∷ 32 ∷ 32 ∷ 115 ∷ 111 ∷ 114 ∷ 116 ∷ 32 ∷ 91 ∷ 113 ∷ 57 ∷ 46 ∷ 99 ∷ 56 ∷ 32 ∷ 100 ∷ 111 ∷ 119 ∷ 110 ∷ 32 ∷ 102 ∷ 105 ∷ 114 ∷ 115 ∷ 116 ∷ 44 ∷ 32 ∷ 40 ∷ 105 ∷ 115 ∷ 45 ∷ 109 ∷ 105 ∷ 115 ∷ 115 ∷ 105 ∷ 110 ∷ 103 ∷ 32 ∷ 113 ∷ 57 ∷ 46 ∷ 99 ∷ 49 ∷ 41 ∷ 32 ∷ 102 ∷ 105 ∷ 114 ∷ 115 ∷ 116 ∷ 93 ∷ 10 ∷ []

-- `      subqueryalias q9`
abbrev pub line4 : List ℕ
line4 = 32 ∷ 32 ∷ 32 ∷ 32 ∷ 32 ∷ 32 ∷ 115 ∷ 117 ∷ 98 ∷ 113 ∷ 117 ∷ 101 ∷ 114 ∷ 121 ∷ 97 ∷ 108 ∷ 105 ∷ 97 ∷ 115 ∷ 32 ∷ 113 ∷ 57 ∷ 10 ∷ []

-- `        projection [q1.c1, (c5 + -65536) as c8]`
abbrev pub line5 : List ℕ
line5 = 32 ∷ 32 ∷ 32 ∷ 32 ∷ 32 ∷ 32 ∷ 32 ∷ 32 ∷ 112 ∷ 114 ∷ 111 ∷ 106 ∷ 101 ∷ 99 ∷ 116 ∷ 105 ∷ 111 ∷ 110 ∷ 32 ∷ 91 ∷ 113 ∷ 49 ∷ 46 ∷ 99 ∷ 49 ∷ 44 ∷ 32 ∷ 40 ∷ 99 ∷ 53 ∷ 32 ∷ 43 ∷ 32 ∷ 45 ∷ 54 ∷ 53 ∷ 53 ∷ 51 ∷ 54 ∷ 41 ∷ 32 ∷ 97 ∷ 115 ∷ 32 ∷ 99 ∷ 56 ∷ 93 ∷ 10 ∷ []

-- `          distinct`
abbrev pub line6 : List ℕ
line6 = 32 ∷ 32 ∷ 32 ∷ 32 ∷ 32 ∷ 32 ∷ 32 ∷ 32 ∷ 32 ∷ 32 ∷ 100 ∷ 105 ∷ 115 ∷ 116 ∷ 105 ∷ 110 ∷ 99 ∷ 116 ∷ 10 ∷ []

-- `            aggregate [q1.c1, (q1.c2 - 1) as c5] [rows() as c6, max(c51) as q3.c7]`
abbrev pub line7 : List ℕ
line7 = 32 ∷ 32 ∷ 32 ∷ 32 ∷ 32 ∷ 32 ∷ 32 ∷ 32 ∷ 32 ∷ 32 ∷ 32 ∷ 32 ∷ 97 ∷ 103 ∷ 103 ∷ 114 ∷ 101 ∷ 103 ∷ 97 ∷ 116 ∷ 101 ∷ 32 ∷ 91 ∷ 113 ∷ 49 ∷ 46 ∷ 99 ∷ 49 ∷ 44 ∷ 32 ∷ 40 ∷ 113 ∷ 49 ∷ 46 ∷ 99 ∷ 50 ∷ 32 ∷ 45 ∷ 32 ∷ 49 ∷ 41 ∷ 32 ∷ 97 ∷ 115 ∷ 32 ∷ 99 ∷ 53 ∷ 93 ∷ 32 ∷ 91 ∷ 114 ∷ 111 ∷ 119 ∷ 115 ∷ 40 ∷ 41 ∷ 32 ∷ 97 ∷ 115 ∷ 32 ∷ 99 ∷ 54 ∷ 44 ∷ 32 ∷ 109 ∷ 97 ∷ 120 ∷ 40 ∷ 99 ∷ 53 ∷ 49 ∷ 41 ∷ 32 ∷ 97 ∷ 115 ∷ 32 ∷ 113 ∷ 51 ∷ 46 ∷ 99 ∷ 55 ∷ 93 ∷ 10 ∷ []

-- `              limit 7 20`
abbrev pub line8 : List ℕ
line8 = 32 ∷ 32 ∷ 32 ∷ 32 ∷ 32 ∷ 32 ∷ 32 ∷ 32 ∷ 32 ∷ 32 ∷ 32 ∷ 32 ∷ 32 ∷ 32 ∷ 108 ∷ 105 ∷ 109 ∷ 105 ∷ 116 ∷ 32 ∷ 55 ∷ 32 ∷ 50 ∷ 48 ∷ 10 ∷ []

-- `                filter ((q1.c1 = 10) and (not (q2.c4 < 0)))`
abbrev pub line9 : List ℕ
line9 = 32 ∷ 32 ∷ 32 ∷ 32 ∷ 32 ∷ 32 ∷ 32 ∷ 32 ∷ 32 ∷ 32 ∷ 32 ∷ 32 ∷ 32 ∷ 32 ∷ 32 ∷ 32 ∷ 102 ∷ 105 ∷ 108 ∷ 116 ∷ 101 ∷ 114 ∷ 32 ∷ 40 ∷ 40 ∷ 113 ∷ 49 ∷ 46 ∷ 99 ∷ 49 ∷ 32 ∷ 61 ∷ 32 ∷ 49 ∷ 48 ∷ 41 ∷ 32 ∷ 97 ∷ 110 ∷ 100 ∷ 32 ∷ 40 ∷ 110 ∷ 111 ∷ 116 ∷ 32 ∷ 40 ∷ 113 ∷ 50 ∷ 46 ∷ 99 ∷ 52 ∷ 32 ∷ 60 ∷ 32 ∷ 48 ∷ 41 ∷ 41 ∷ 41 ∷ 10 ∷ []

-- `                  join left on [q1.c1 = q2.c4] if (q1.c2 or missing)`
abbrev pub line10 : List ℕ
line10 = 32 ∷ 32 ∷ 32 ∷ 32 ∷ 32 ∷ 32 ∷ 32 ∷ 32 ∷ 32 ∷ 32 ∷ 32 ∷ 32 ∷ 32 ∷ 32 ∷ 32 ∷ 32 ∷ 32 ∷ 32 ∷ 106 ∷ 111 ∷ 105 ∷ 110 ∷ 32 ∷ 108 ∷ 101 ∷ 102 ∷ 116 ∷ 32 ∷ 111 ∷ 110 ∷ 32 ∷ 91 ∷ 113 ∷ 49 ∷ 46 ∷ 99 ∷ 49 ∷ 32 ∷ 61 ∷ 32 ∷ 113 ∷ 50 ∷ 46 ∷ 99 ∷ 52 ∷ 93 ∷ 32 ∷ 105 ∷ 102 ∷ 32 ∷ 40 ∷ 113 ∷ 49 ∷ 46 ∷ 99 ∷ 50 ∷ 32 ∷ 111 ∷ 114 ∷ 32 ∷ 109 ∷ 105 ∷ 115 ∷ 115 ∷ 105 ∷ 110 ∷ 103 ∷ 41 ∷ 10 ∷ []

-- `                    scan 0 as q1 [0, 1]`
abbrev pub line11 : List ℕ
line11 = 32 ∷ 32 ∷ 32 ∷ 32 ∷ 32 ∷ 32 ∷ 32 ∷ 32 ∷ 32 ∷ 32 ∷ 32 ∷ 32 ∷ 32 ∷ 32 ∷ 32 ∷ 32 ∷ 32 ∷ 32 ∷ 32 ∷ 32 ∷ 115 ∷ 99 ∷ 97 ∷ 110 ∷ 32 ∷ 48 ∷ 32 ∷ 97 ∷ 115 ∷ 32 ∷ 113 ∷ 49 ∷ 32 ∷ 91 ∷ 48 ∷ 44 ∷ 32 ∷ 49 ∷ 93 ∷ 10 ∷ []

-- `                    window [number() by [q2.c4] order [q2.c4 down] as c50, sum((q2.c4 * 2)) by [] order [] as c51]`
abbrev pub line12 : List ℕ
line12 = 32 ∷ 32 ∷ 32 ∷ 32 ∷ 32 ∷ 32 ∷ 32 ∷ 32 ∷ 32 ∷ 32 ∷ 32 ∷ 32 ∷ 32 ∷ 32 ∷ 32 ∷ 32 ∷ 32 ∷ 32 ∷ 32 ∷ 32 ∷ 119 ∷ 105 ∷ 110 ∷ 100 ∷ 111 ∷ 119 ∷ 32 ∷ 91 ∷ 110 ∷ 117 ∷ 109 ∷ 98 ∷ 101 ∷ 114 ∷ 40 ∷ 41 ∷ 32 ∷ 98 ∷ 121 ∷ 32 ∷ 91 ∷ 113 ∷ 50 ∷ 46 ∷ 99 ∷ 52 ∷ 93 ∷ 32 ∷ 111 ∷ 114 ∷ 100 ∷ 101 ∷ 114 ∷ 32 ∷ 91 ∷ 113 ∷ 50 ∷ 46 ∷ 99 ∷ 52 ∷ 32 ∷ 100 ∷ 111 ∷ 119 ∷ 110 ∷ 93 ∷ 32 ∷ 97 ∷ 115 ∷ 32 ∷ 99 ∷ 53 ∷ 48 ∷ 44 ∷ 32 ∷ 115 ∷ 117 ∷ 109 ∷ 40 ∷ 40 ∷ 113 ∷ 50 ∷ 46 ∷ 99 ∷ 52 ∷ 32 ∷ 42 ∷ 32 ∷ 50 ∷ 41 ∷ 41 ∷ 32 ∷ 98 ∷ 121 ∷ 32 ∷ 91 ∷ 93 ∷ 32 ∷ 111 ∷ 114 ∷ 100 ∷ 101 ∷ 114 ∷ 32 ∷ 91 ∷ 93 ∷ 32 ∷ 97 ∷ 115 ∷ 32 ∷ 99 ∷ 53 ∷ 49 ∷ 93 ∷ 10 ∷ []

-- `                      scan 1 as q2`
abbrev pub line13 : List ℕ
line13 = 32 ∷ 32 ∷ 32 ∷ 32 ∷ 32 ∷ 32 ∷ 32 ∷ 32 ∷ 32 ∷ 32 ∷ 32 ∷ 32 ∷ 32 ∷ 32 ∷ 32 ∷ 32 ∷ 32 ∷ 32 ∷ 32 ∷ 32 ∷ 32 ∷ 32 ∷ 115 ∷ 99 ∷ 97 ∷ 110 ∷ 32 ∷ 49 ∷ 32 ∷ 97 ∷ 115 ∷ 32 ∷ 113 ∷ 50 ∷ 10 ∷ []

-- `  empty one-row [c1, q2.c3]`
abbrev pub line14 : List ℕ
line14 = 32 ∷ 32 ∷ 101 ∷ 109 ∷ 112 ∷ 116 ∷ 121 ∷ 32 ∷ 111 ∷ 110 ∷ 101 ∷ 45 ∷ 114 ∷ 111 ∷ 119 ∷ 32 ∷ 91 ∷ 99 ∷ 49 ∷ 44 ∷ 32 ∷ 113 ∷ 50 ∷ 46 ∷ 99 ∷ 51 ∷ 93 ∷ 10 ∷ []

abbrev pub sample_text : List ℕ
sample_text = line1 ++ (line2 ++ (line3 ++ (line4 ++ (line5 ++ (line6 ++ (line7 ++ (line8 ++ (line9 ++ (line10 ++ (line11 ++ (line12 ++ (line13 ++ (line14)))))))))))))

-- ── scans of version 2 ──────────────────────────────────────────────────────────────────────

abbrev pub sample_filters : List Expr
sample_filters = bin o_lt (col (pair 1 3)) (lit (pos 7)) ∷ col (pair 1 1) ∷ []

-- `scan 0 as q1 [0, 1] where [(q1.c3 < 7), q1.c1]`
abbrev pub filtered_text : List ℕ
filtered_text = 115 ∷ 99 ∷ 97 ∷ 110 ∷ 32 ∷ 48 ∷ 32 ∷ 97 ∷ 115 ∷ 32 ∷ 113 ∷ 49 ∷ 32 ∷ 91 ∷ 48 ∷ 44 ∷ 32 ∷ 49 ∷ 93 ∷ 32 ∷ 119 ∷ 104 ∷ 101 ∷ 114 ∷ 101 ∷ 32 ∷ 91 ∷ 40 ∷ 113 ∷ 49 ∷ 46 ∷ 99 ∷ 51 ∷ 32 ∷ 60 ∷ 32 ∷ 55 ∷ 41 ∷ 44 ∷ 32 ∷ 113 ∷ 49 ∷ 46 ∷ 99 ∷ 49 ∷ 93 ∷ 10 ∷ []

-- `scan 0 as q1 where [(q1.c3 < 7), q1.c1]`
abbrev pub all_filtered_text : List ℕ
all_filtered_text = 115 ∷ 99 ∷ 97 ∷ 110 ∷ 32 ∷ 48 ∷ 32 ∷ 97 ∷ 115 ∷ 32 ∷ 113 ∷ 49 ∷ 32 ∷ 119 ∷ 104 ∷ 101 ∷ 114 ∷ 101 ∷ 32 ∷ 91 ∷ 40 ∷ 113 ∷ 49 ∷ 46 ∷ 99 ∷ 51 ∷ 32 ∷ 60 ∷ 32 ∷ 55 ∷ 41 ∷ 44 ∷ 32 ∷ 113 ∷ 49 ∷ 46 ∷ 99 ∷ 49 ∷ 93 ∷ 10 ∷ []
