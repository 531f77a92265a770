-- The words of a listing, each once: both the writing and the reading of text take them from here. A text is a list of the numbers of its letters.
use Rattle.std.specs.Prelude.{List, [], ◌∷◌, ℕ}

-- ── kinds ─────────────────────────────────────────────────────────────────────────────────

-- `projection `
abbrev pub w_projection : List ℕ
w_projection = 112 ∷ 114 ∷ 111 ∷ 106 ∷ 101 ∷ 99 ∷ 116 ∷ 105 ∷ 111 ∷ 110 ∷ 32 ∷ []

-- `filter `
abbrev pub w_filter : List ℕ
w_filter = 102 ∷ 105 ∷ 108 ∷ 116 ∷ 101 ∷ 114 ∷ 32 ∷ []

-- `sort `
abbrev pub w_sort : List ℕ
w_sort = 115 ∷ 111 ∷ 114 ∷ 116 ∷ 32 ∷ []

-- `limit `
abbrev pub w_limit : List ℕ
w_limit = 108 ∷ 105 ∷ 109 ∷ 105 ∷ 116 ∷ 32 ∷ []

-- `aggregate `
abbrev pub w_aggregate : List ℕ
w_aggregate = 97 ∷ 103 ∷ 103 ∷ 114 ∷ 101 ∷ 103 ∷ 97 ∷ 116 ∷ 101 ∷ 32 ∷ []

-- `window `
abbrev pub w_window : List ℕ
w_window = 119 ∷ 105 ∷ 110 ∷ 100 ∷ 111 ∷ 119 ∷ 32 ∷ []

-- `subqueryalias q`
abbrev pub w_subqueryalias : List ℕ
w_subqueryalias = 115 ∷ 117 ∷ 98 ∷ 113 ∷ 117 ∷ 101 ∷ 114 ∷ 121 ∷ 97 ∷ 108 ∷ 105 ∷ 97 ∷ 115 ∷ 32 ∷ 113 ∷ []

-- `union`
abbrev pub w_union : List ℕ
w_union = 117 ∷ 110 ∷ 105 ∷ 111 ∷ 110 ∷ []

-- `distinct`
abbrev pub w_distinct : List ℕ
w_distinct = 100 ∷ 105 ∷ 115 ∷ 116 ∷ 105 ∷ 110 ∷ 99 ∷ 116 ∷ []

-- `join `
abbrev pub w_join : List ℕ
w_join = 106 ∷ 111 ∷ 105 ∷ 110 ∷ 32 ∷ []

-- `scan `
abbrev pub w_scan : List ℕ
w_scan = 115 ∷ 99 ∷ 97 ∷ 110 ∷ 32 ∷ []

-- `empty `
abbrev pub w_empty : List ℕ
w_empty = 101 ∷ 109 ∷ 112 ∷ 116 ∷ 121 ∷ 32 ∷ []

-- ── pairs and expressions ─────────────────────────────────────────────────────────────────

-- `q`
abbrev pub w_q : List ℕ
w_q = 113 ∷ []

-- `c`
abbrev pub w_c : List ℕ
w_c = 99 ∷ []

-- `.c`
abbrev pub w_dot_c : List ℕ
w_dot_c = 46 ∷ 99 ∷ []

-- `-`
abbrev pub w_minus : List ℕ
w_minus = 45 ∷ []

-- `missing`
abbrev pub w_missing : List ℕ
w_missing = 109 ∷ 105 ∷ 115 ∷ 115 ∷ 105 ∷ 110 ∷ 103 ∷ []

-- `(`
abbrev pub w_open : List ℕ
w_open = 40 ∷ []

-- `)`
abbrev pub w_close : List ℕ
w_close = 41 ∷ []

-- ` `
abbrev pub w_space : List ℕ
w_space = 32 ∷ []

-- `not `
abbrev pub w_not : List ℕ
w_not = 110 ∷ 111 ∷ 116 ∷ 32 ∷ []

-- `is-missing `
abbrev pub w_is_missing : List ℕ
w_is_missing = 105 ∷ 115 ∷ 45 ∷ 109 ∷ 105 ∷ 115 ∷ 115 ∷ 105 ∷ 110 ∷ 103 ∷ 32 ∷ []

-- `+ `
abbrev pub w_add : List ℕ
w_add = 43 ∷ 32 ∷ []

-- `- `
abbrev pub w_sub : List ℕ
w_sub = 45 ∷ 32 ∷ []

-- `* `
abbrev pub w_mul : List ℕ
w_mul = 42 ∷ 32 ∷ []

-- `= `
abbrev pub w_eq : List ℕ
w_eq = 61 ∷ 32 ∷ []

-- `< `
abbrev pub w_lt : List ℕ
w_lt = 60 ∷ 32 ∷ []

-- `and `
abbrev pub w_and : List ℕ
w_and = 97 ∷ 110 ∷ 100 ∷ 32 ∷ []

-- `or `
abbrev pub w_or : List ℕ
w_or = 111 ∷ 114 ∷ 32 ∷ []

-- ── lists and what stands in them ─────────────────────────────────────────────────────────

-- `[`
abbrev pub w_open_list : List ℕ
w_open_list = 91 ∷ []

-- `]`
abbrev pub w_close_list : List ℕ
w_close_list = 93 ∷ []

-- `, `
abbrev pub w_comma : List ℕ
w_comma = 44 ∷ 32 ∷ []

-- ` as `
abbrev pub w_as : List ℕ
w_as = 32 ∷ 97 ∷ 115 ∷ 32 ∷ []

-- ` down`
abbrev pub w_down : List ℕ
w_down = 32 ∷ 100 ∷ 111 ∷ 119 ∷ 110 ∷ []

-- ` first`
abbrev pub w_first : List ℕ
w_first = 32 ∷ 102 ∷ 105 ∷ 114 ∷ 115 ∷ 116 ∷ []

-- `rows()`
abbrev pub w_rows : List ℕ
w_rows = 114 ∷ 111 ∷ 119 ∷ 115 ∷ 40 ∷ 41 ∷ []

-- `number()`
abbrev pub w_number : List ℕ
w_number = 110 ∷ 117 ∷ 109 ∷ 98 ∷ 101 ∷ 114 ∷ 40 ∷ 41 ∷ []

-- `count(`
abbrev pub w_count : List ℕ
w_count = 99 ∷ 111 ∷ 117 ∷ 110 ∷ 116 ∷ 40 ∷ []

-- `sum(`
abbrev pub w_sum : List ℕ
w_sum = 115 ∷ 117 ∷ 109 ∷ 40 ∷ []

-- `min(`
abbrev pub w_min : List ℕ
w_min = 109 ∷ 105 ∷ 110 ∷ 40 ∷ []

-- `max(`
abbrev pub w_max : List ℕ
w_max = 109 ∷ 97 ∷ 120 ∷ 40 ∷ []

-- ` by `
abbrev pub w_by : List ℕ
w_by = 32 ∷ 98 ∷ 121 ∷ 32 ∷ []

-- ` order `
abbrev pub w_order : List ℕ
w_order = 32 ∷ 111 ∷ 114 ∷ 100 ∷ 101 ∷ 114 ∷ 32 ∷ []

-- ` = `
abbrev pub w_equals : List ℕ
w_equals = 32 ∷ 61 ∷ 32 ∷ []

-- ── the rest of a node ────────────────────────────────────────────────────────────────────

-- `none`
abbrev pub w_none : List ℕ
w_none = 110 ∷ 111 ∷ 110 ∷ 101 ∷ []

-- ` [`
abbrev pub w_columns : List ℕ
w_columns = 32 ∷ 91 ∷ []

-- ` as q`
abbrev pub w_as_q : List ℕ
w_as_q = 32 ∷ 97 ∷ 115 ∷ 32 ∷ 113 ∷ []

-- ` where [`
abbrev pub w_where : List ℕ
w_where = 32 ∷ 119 ∷ 104 ∷ 101 ∷ 114 ∷ 101 ∷ 32 ∷ 91 ∷ []

-- `one-row `
abbrev pub w_one_row : List ℕ
w_one_row = 111 ∷ 110 ∷ 101 ∷ 45 ∷ 114 ∷ 111 ∷ 119 ∷ 32 ∷ []

-- ` if `
abbrev pub w_if : List ℕ
w_if = 32 ∷ 105 ∷ 102 ∷ 32 ∷ []

-- `inner on `
abbrev pub w_inner : List ℕ
w_inner = 105 ∷ 110 ∷ 110 ∷ 101 ∷ 114 ∷ 32 ∷ 111 ∷ 110 ∷ 32 ∷ []

-- `left on `
abbrev pub w_left : List ℕ
w_left = 108 ∷ 101 ∷ 102 ∷ 116 ∷ 32 ∷ 111 ∷ 110 ∷ 32 ∷ []

-- `right on `
abbrev pub w_right : List ℕ
w_right = 114 ∷ 105 ∷ 103 ∷ 104 ∷ 116 ∷ 32 ∷ 111 ∷ 110 ∷ 32 ∷ []

-- `full on `
abbrev pub w_full : List ℕ
w_full = 102 ∷ 117 ∷ 108 ∷ 108 ∷ 32 ∷ 111 ∷ 110 ∷ 32 ∷ []

-- `leftsemi on `
abbrev pub w_leftsemi : List ℕ
w_leftsemi = 108 ∷ 101 ∷ 102 ∷ 116 ∷ 115 ∷ 101 ∷ 109 ∷ 105 ∷ 32 ∷ 111 ∷ 110 ∷ 32 ∷ []

-- `leftanti on `
abbrev pub w_leftanti : List ℕ
w_leftanti = 108 ∷ 101 ∷ 102 ∷ 116 ∷ 97 ∷ 110 ∷ 116 ∷ 105 ∷ 32 ∷ 111 ∷ 110 ∷ 32 ∷ []

-- `rightsemi on `
abbrev pub w_rightsemi : List ℕ
w_rightsemi = 114 ∷ 105 ∷ 103 ∷ 104 ∷ 116 ∷ 115 ∷ 101 ∷ 109 ∷ 105 ∷ 32 ∷ 111 ∷ 110 ∷ 32 ∷ []

-- `rightanti on `
abbrev pub w_rightanti : List ℕ
w_rightanti = 114 ∷ 105 ∷ 103 ∷ 104 ∷ 116 ∷ 97 ∷ 110 ∷ 116 ∷ 105 ∷ 32 ∷ 111 ∷ 110 ∷ 32 ∷ []

-- ── lines ─────────────────────────────────────────────────────────────────────────────────

-- a newline
abbrev pub w_newline : List ℕ
w_newline = 10 ∷ []

-- `  `
abbrev pub w_level : List ℕ
w_level = 32 ∷ 32 ∷ []
