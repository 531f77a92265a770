-- How text is read as the parts of a plan and as a node without its inputs. Numbers and lists are as large as they are written: what a file cannot hold is
-- refused afterwards (Sizes).
use Rattle.std.specs.Prelude.{List, [], ◌∷◌, ℕ, zero, suc, length}
use Rattle.std.proofs.Math.Option.{Option, none, some}
use Rattle.cpl.specs.Plan.{Pair, pair, o_not, o_missing, Op2, o_add, o_sub, o_mul, o_eq, o_lt, o_and, o_or, Expr, col, lit, miss, un, bin, Item, bare, named, Key, key, Fn, f_count, f_sum, f_min, f_max, Call, rows, over, Agg, agg, Win, win, JoinType, j_inner, j_left, j_right, j_full, j_lsemi, j_lanti, j_rsemi, j_ranti, On, on, scan, empty, projection, filter, sort, limit, aggregate, window, subquery_alias, distinct, union, join}
use Rattle.cpl.specs.ReadPlan.{Head, h0, h1, h2}
use Rattle.plan_text.specs.Words.{w_projection, w_filter, w_sort, w_limit, w_aggregate, w_window, w_subqueryalias, w_union, w_distinct, w_join, w_scan, w_empty, w_q, w_c, w_dot_c, w_missing, w_open, w_close, w_space, w_not, w_is_missing, w_add, w_sub, w_mul, w_eq, w_lt, w_and, w_or, w_as, w_down, w_first, w_rows, w_number, w_count, w_sum, w_min, w_max, w_by, w_order, w_equals, w_none, w_columns, w_as_q, w_where, w_one_row, w_if, w_inner, w_left, w_right, w_full, w_leftsemi, w_leftanti, w_rightsemi, w_rightanti}
use Rattle.plan_text.specs.ReadText.{Got, got, lost, TextReader, ◌>>=◌, give, fail, after, need, flag, Entry, one_of, read_number, read_integer, members_of, many_of}

-- ── pairs and expressions ───────────────────────────────────────────────────────────────────

-- `q0.c1` is no pair: a qualifier that is written is not 0. It has the form of one all the same, and is read as a pair that no file can hold.
unfoldable pub qualified : (qualifier name : ℕ) → Pair
qualified zero n = pair 0 0
qualified (suc q) n = pair (suc q) n

-- a pair put into f, or else r
unfoldable pub pair_or : {A : Type 0} → (Pair → A) → TextReader A → TextReader A
pair_or f r =
    after w_q (read_number >>= λ q. need w_dot_c (read_number >>= λ n. give (f (qualified q n))))
    (after w_c (read_number >>= λ n. give (f (pair 0 n))) r)

unfoldable pub read_pair : TextReader Pair
read_pair = pair_or (λ c. c) fail

abbrev pub op2_words : List (Entry Op2)
op2_words =
    record { means = o_add; spelled = w_add } ∷ record { means = o_sub; spelled = w_sub } ∷ record { means = o_mul; spelled = w_mul }
    ∷ record { means = o_eq; spelled = w_eq } ∷ record { means = o_lt; spelled = w_lt } ∷ record { means = o_and; spelled = w_and }
    ∷ record { means = o_or; spelled = w_or } ∷ []

-- what follows an opening bracket, where operands are read by e
unfoldable pub bracket : TextReader Expr → TextReader Expr
bracket e =
    after w_not (e >>= λ a. need w_close (give (un o_not a)))
    (after w_is_missing (e >>= λ a. need w_close (give (un o_missing a)))
    (e >>= λ a. need w_space (one_of op2_words >>= λ o. e >>= λ b. need w_close (give (bin o a b)))))

unfoldable pub read_literal : TextReader Expr
read_literal = read_integer >>= λ z. give (lit z)

unfoldable pub expr_form : TextReader Expr → TextReader Expr
expr_form e = after w_open (bracket e) (after w_missing (give miss) (pair_or col read_literal))

-- an expression nested less than `deep` deep
unfoldable pub expr_to : (deep : ℕ) → TextReader Expr
expr_to zero = fail
expr_to (suc deep) = expr_form (λ s. expr_to deep s)

-- no expression is nested deeper than its text is long
unfoldable pub read_expr : TextReader Expr
read_expr s = expr_to (length s) s

-- ── members of lists ────────────────────────────────────────────────────────────────────────

-- an item without `as` has to be a column
unfoldable pub bare_of : Expr → TextReader Item
bare_of (col c) = give (bare c)
bare_of (lit z) = fail
bare_of miss = fail
bare_of (un o a) = fail
bare_of (bin o a b) = fail

unfoldable pub read_item : TextReader Item
read_item = read_expr >>= λ e. after w_as (read_pair >>= λ c. give (named c e)) (bare_of e)

unfoldable pub read_key : TextReader Key
read_key = read_expr >>= λ e. flag w_down >>= λ d. flag w_first >>= λ m. give (key d m e)

abbrev pub fn_words : List (Entry Fn)
fn_words =
    record { means = f_count; spelled = w_count } ∷ record { means = f_sum; spelled = w_sum } ∷ record { means = f_min; spelled = w_min }
    ∷ record { means = f_max; spelled = w_max } ∷ []

-- a call, where the function without E has the word w
unfoldable pub read_call : List ℕ → TextReader Call
read_call w = after w (give rows) (one_of fn_words >>= λ f. read_expr >>= λ e. need w_close (give (over f e)))

unfoldable pub read_agg : TextReader Agg
read_agg = read_call w_rows >>= λ g. need w_as (read_pair >>= λ c. give (agg c g))

unfoldable pub read_win : TextReader Win
read_win =
    read_call w_number >>= λ g.
    need w_by (many_of read_expr >>= λ ps.
    need w_order (many_of read_key >>= λ ks.
    need w_as (read_pair >>= λ c. give (win c g ps ks))))

unfoldable pub read_on : TextReader On
read_on = read_expr >>= λ a. need w_equals (read_expr >>= λ b. give (on a b))

-- ── nodes ───────────────────────────────────────────────────────────────────────────────────

unfoldable pub read_cond : TextReader (Option Expr)
read_cond = after w_if (read_expr >>= λ e. give (some e)) (give none)

unfoldable pub read_columns : TextReader (Option (List ℕ))
read_columns = after w_columns (members_of read_number >>= λ is. give (some is)) (give none)

-- ` where []` is never written
unfoldable pub some_filters : List Expr → TextReader (List Expr)
some_filters [] = fail
some_filters (e ∷ es) = give (e ∷ es)

unfoldable pub read_filters : TextReader (List Expr)
read_filters = after w_where (members_of read_expr >>= some_filters) (give [])

unfoldable pub read_fetch : TextReader (Option ℕ)
read_fetch = after w_none (give none) (read_number >>= λ n. give (some n))

abbrev pub join_words : List (Entry JoinType)
join_words =
    record { means = j_inner; spelled = w_inner } ∷ record { means = j_left; spelled = w_left } ∷ record { means = j_right; spelled = w_right }
    ∷ record { means = j_full; spelled = w_full } ∷ record { means = j_lsemi; spelled = w_leftsemi } ∷ record { means = j_lanti; spelled = w_leftanti }
    ∷ record { means = j_rsemi; spelled = w_rightsemi } ∷ record { means = j_ranti; spelled = w_rightanti } ∷ []

-- a node without its inputs, by its kind
unfoldable pub head_form : TextReader Head
head_form =
    after w_projection (many_of read_item >>= λ is. give (h1 (projection is)))
    (after w_filter (read_expr >>= λ e. give (h1 (filter e)))
    (after w_sort (many_of read_key >>= λ ks. give (h1 (sort ks)))
    (after w_limit (read_number >>= λ s. need w_space (read_fetch >>= λ n. give (h1 (limit s n))))
    (after w_aggregate (many_of read_item >>= λ gs. need w_space (many_of read_agg >>= λ vs. give (h1 (aggregate gs vs))))
    (after w_window (many_of read_win >>= λ ws. give (h1 (window ws)))
    (after w_subqueryalias (read_number >>= λ q. give (h1 (subquery_alias q)))
    (after w_union (give (h2 union))
    (after w_distinct (give (h1 distinct))
    (after w_join (one_of join_words >>= λ t. many_of read_on >>= λ os. read_cond >>= λ c. give (h2 (join t os c)))
    (after w_scan (read_number >>= λ t. need w_as_q (read_number >>= λ q. read_columns >>= λ is. read_filters >>= λ es. give (h0 (scan t q is es))))
    (need w_empty (flag w_one_row >>= λ b. many_of read_pair >>= λ cs. give (h0 (empty b cs))))))))))))))

-- all of a text is one value
unfoldable pub ended : {A : Type 0} → Got A → Option A
ended (got a []) = some a
ended (got a (c ∷ s)) = none
ended lost = none

-- the node that a line without its indent and newline is
unfoldable pub read_head : List ℕ → Option Head
read_head line = ended (head_form line)
