-- No text of a node has a newline in it, and every text is itself followed by the rest. Assumes nothing.
use mathlib.Core.Path.{◌≡◌, refl, sym, ap, ◌∙◌}
use mathlib.Core.List.{List, [], ◌∷◌, ◌++◌, append_assoc, append-nil}
use mathlib.Core.Bool.{Bool, true, false, not}
use mathlib.Core.Option.{Option, none, some}
use Prim.Native.Nat.{ℕ, zero, suc, ◌+◌, ◌/◌, ◌%◌, ◌<◌}
use native.Mathlib.Decide.{dec_lt}
use native.Mathlib.Omega.{arith}
use borrow.Author.Tests.{ne_eqb}
use lib.Dec.{T, eqb}
use lib.IntN.{ℤ, pos, negsuc}
use Rattle.cpl.specs.Lists.{All, a[], ◌a∷◌}
use Rattle.cpl.specs.Tests.{all_b}
use Rattle.cpl.specs.Plan.{Pair, pair, Op1, o_not, o_missing, Op2, o_add, o_sub, o_mul, o_eq, o_lt, o_and, o_or, Expr, col, lit, miss, un, bin, Item, bare, named, Key, key, Fn, f_count, f_sum, f_min, f_max, Call, rows, over, Agg, agg, Win, win, JoinType, j_inner, j_left, j_right, j_full, j_lsemi, j_lanti, j_rsemi, j_ranti, On, on, scan, empty, projection, filter, sort, limit, aggregate, window, subquery_alias, distinct, union, join}
use Rattle.cpl.specs.ReadPlan.{Head, h0, h1, h2}
use Rattle.cpl.proofs.Bools.{is_false}
use Rattle.cpl.proofs.Lists.{All_++, All_map, all-T}
use Rattle.plan_text.specs.Decimal.{decimal}
use Rattle.plan_text.specs.Words.{w_projection, w_filter, w_sort, w_limit, w_aggregate, w_window, w_subqueryalias, w_union, w_distinct, w_join, w_scan, w_empty, w_q, w_c, w_dot_c, w_minus, w_missing, w_open, w_close, w_space, w_not, w_is_missing, w_add, w_sub, w_mul, w_eq, w_lt, w_and, w_or, w_open_list, w_close_list, w_comma, w_as, w_down, w_first, w_rows, w_number, w_count, w_sum, w_min, w_max, w_by, w_order, w_equals, w_none, w_columns, w_as_q, w_where, w_one_row, w_if, w_inner, w_left, w_right, w_full, w_leftsemi, w_leftanti, w_rightsemi, w_rightanti, w_level}
use Rattle.plan_text.specs.Write.{Text, ◌·◌, word, nothing, if, number, integer, more_text, members_text, list_text, pair_text, op1_text, op2_text, expr_text, item_text, key_text, fn_text, call_text, agg_text, win_text, on_text, cond_text, columns_text, filters_text, fetch_text, join_text, leaf_text, unary_text, binary_text, head_text}
use Rattle.plan_text.specs.Listing.{indent}
use Rattle.plan_text.proofs.Digits.{small, step}

abbrev pub Inline : ℕ → Type 0
Inline c = eqb c 10 ≡ false

-- letters, none of them a newline, and then the rest
pub record Plain (t : Text) : Type 0 where
  pub letters : List ℕ
  pub inline : All Inline letters
  pub same : (rest : List ℕ) → t rest ≡ letters ++ rest

pub plain_word : (w : List ℕ) → T (all_b (λ c. not (eqb c 10)) w) → Plain (word w)
plain_word w h = record { letters = w; inline = All_map (λ c t. is_false (eqb c 10) t) (all-T (λ c. not (eqb c 10)) w h); same = λ rest. refl }

pub plain-nothing : Plain nothing
plain-nothing = record { letters = []; inline = a[]; same = λ rest. refl }

pub plain_then : {t u : Text} → Plain t → Plain u → Plain (t · u)
plain_then {t} {u} p q =
    record {
      letters = p.letters ++ q.letters;
      inline = All_++ p.inline q.inline;
      same = λ rest. p.same (u rest) ∙ (ap (λ (s : List ℕ). p.letters ++ s) (q.same rest) ∙ sym (append_assoc p.letters q.letters rest));
    }

-- the letters of a text are the text with nothing after it
pub plain_letters : {t : Text} (p : Plain t) → p.letters ≡ t []
plain_letters p = sym (append-nil p.letters) ∙ sym (p.same [])

-- ── numbers and lists ───────────────────────────────────────────────────────────────────────

inline_digits : (fuel n : ℕ) → n < fuel → All Inline (decimal n)
inline_digits zero n h = absurd (omega arith)
inline_digits (suc fuel) n h = elim (dec_lt n 10) [
  | yes l ↦ rw (small n l) (ne_eqb (48 + n) 10 (omega arith) a∷ a[])
  | no l ↦ rw (step n (omega arith)) (All_++ (inline_digits fuel (n / 10) (omega arith)) (ne_eqb (48 + n % 10) 10 (omega arith) a∷ a[]))
]

pub plain-number : (n : ℕ) → Plain (number n)
unfolding number
plain-number n = record { letters = decimal n; inline = inline_digits (suc n) n (omega arith); same = λ rest. refl }

plain-integer : (z : ℤ) → Plain (integer z)
unfolding integer all_b
plain-integer (pos n) = plain-number n
plain-integer (negsuc n) = plain_then (plain_word w_minus tt) (plain-number (suc n))

plain-if : (b : Bool) {t : Text} → Plain t → Plain (if b t)
unfolding if
plain-if true p = p
plain-if false p = plain-nothing

plain_more : {A : Type 0} {t : A → Text} → ((x : A) → Plain (t x)) → (xs : List A) → Plain (more_text t xs)
unfolding more_text all_b
plain_more p [] = plain_word w_close_list tt
plain_more p (x ∷ xs) = plain_then (plain_word w_comma tt) (plain_then (p x) (plain_more p xs))

pub plain-members : {A : Type 0} {t : A → Text} → ((x : A) → Plain (t x)) → (xs : List A) → Plain (members_text t xs)
unfolding members_text all_b
plain-members p [] = plain_word w_close_list tt
plain-members p (x ∷ xs) = plain_then (p x) (plain_more p xs)

plain-list : {A : Type 0} {t : A → Text} → ((x : A) → Plain (t x)) → (xs : List A) → Plain (list_text t xs)
unfolding list_text all_b
plain-list p xs = plain_then (plain_word w_open_list tt) (plain-members p xs)

-- ── parts ───────────────────────────────────────────────────────────────────────────────────

plain-pair : (c : Pair) → Plain (pair_text c)
unfolding pair_text all_b
plain-pair (pair zero n) = plain_then (plain_word w_c tt) (plain-number n)
plain-pair (pair (suc q) n) = plain_then (plain_word w_q tt) (plain_then (plain-number (suc q)) (plain_then (plain_word w_dot_c tt) (plain-number n)))

plain-op1 : (o : Op1) → Plain (op1_text o)
unfolding op1_text all_b
plain-op1 o_not = plain_word w_not tt
plain-op1 o_missing = plain_word w_is_missing tt

plain-op2 : (o : Op2) → Plain (op2_text o)
unfolding op2_text all_b
plain-op2 o_add = plain_word w_add tt
plain-op2 o_sub = plain_word w_sub tt
plain-op2 o_mul = plain_word w_mul tt
plain-op2 o_eq = plain_word w_eq tt
plain-op2 o_lt = plain_word w_lt tt
plain-op2 o_and = plain_word w_and tt
plain-op2 o_or = plain_word w_or tt

plain_expr : (e : Expr) → Plain (expr_text e)
unfolding expr_text all_b
plain_expr (col c) = plain-pair c
plain_expr (lit z) = plain-integer z
plain_expr miss = plain_word w_missing tt
plain_expr (un o a) = plain_then (plain_word w_open tt) (plain_then (plain-op1 o) (plain_then (plain_expr a) (plain_word w_close tt)))
plain_expr (bin o a b) =
    plain_then (plain_word w_open tt)
    (plain_then (plain_expr a) (plain_then (plain_word w_space tt) (plain_then (plain-op2 o) (plain_then (plain_expr b) (plain_word w_close tt)))))

plain-item : (i : Item) → Plain (item_text i)
unfolding item_text all_b
plain-item (bare c) = plain-pair c
plain-item (named c e) = plain_then (plain_expr e) (plain_then (plain_word w_as tt) (plain-pair c))

plain-key : (k : Key) → Plain (key_text k)
unfolding key_text all_b
plain-key (key d m e) = plain_then (plain_expr e) (plain_then (plain-if d (plain_word w_down tt)) (plain-if m (plain_word w_first tt)))

plain_fn : (f : Fn) → Plain (fn_text f)
unfolding fn_text all_b
plain_fn f_count = plain_word w_count tt
plain_fn f_sum = plain_word w_sum tt
plain_fn f_min = plain_word w_min tt
plain_fn f_max = plain_word w_max tt

plain_call : (w : List ℕ) → Plain (word w) → (g : Call) → Plain (call_text w g)
unfolding call_text all_b
plain_call w p rows = p
plain_call w p (over f e) = plain_then (plain_fn f) (plain_then (plain_expr e) (plain_word w_close tt))

plain-agg : (a : Agg) → Plain (agg_text a)
unfolding agg_text all_b
plain-agg (agg c g) = plain_then (plain_call w_rows (plain_word w_rows tt) g) (plain_then (plain_word w_as tt) (plain-pair c))

plain-win : (a : Win) → Plain (win_text a)
unfolding win_text all_b
plain-win (win c g ps ks) =
    plain_then (plain_call w_number (plain_word w_number tt) g)
    (plain_then (plain_word w_by tt)
    (plain_then (plain-list plain_expr ps)
    (plain_then (plain_word w_order tt) (plain_then (plain-list plain-key ks) (plain_then (plain_word w_as tt) (plain-pair c))))))

plain-on : (o : On) → Plain (on_text o)
unfolding on_text all_b
plain-on (on a b) = plain_then (plain_expr a) (plain_then (plain_word w_equals tt) (plain_expr b))

plain-cond : (c : Option Expr) → Plain (cond_text c)
unfolding cond_text all_b
plain-cond none = plain-nothing
plain-cond (some e) = plain_then (plain_word w_if tt) (plain_expr e)

plain-columns : (is : Option (List ℕ)) → Plain (columns_text is)
unfolding columns_text all_b
plain-columns none = plain-nothing
plain-columns (some is) = plain_then (plain_word w_columns tt) (plain-members plain-number is)

plain-filters : (es : List Expr) → Plain (filters_text es)
unfolding filters_text all_b
plain-filters [] = plain-nothing
plain-filters (e ∷ es) = plain_then (plain_word w_where tt) (plain-members plain_expr (e ∷ es))

plain_fetch : (n : Option ℕ) → Plain (fetch_text n)
unfolding fetch_text all_b
plain_fetch none = plain_word w_none tt
plain_fetch (some n) = plain-number n

plain-join : (t : JoinType) → Plain (join_text t)
unfolding join_text all_b
plain-join j_inner = plain_word w_inner tt
plain-join j_left = plain_word w_left tt
plain-join j_right = plain_word w_right tt
plain-join j_full = plain_word w_full tt
plain-join j_lsemi = plain_word w_leftsemi tt
plain-join j_lanti = plain_word w_leftanti tt
plain-join j_rsemi = plain_word w_rightsemi tt
plain-join j_ranti = plain_word w_rightanti tt

-- ── nodes ───────────────────────────────────────────────────────────────────────────────────

pub plain-head : (h : Head) → Plain (head_text h)
unfolding head_text leaf_text unary_text binary_text all_b
plain-head (h0 (scan t q is es)) =
    plain_then (plain_word w_scan tt) (plain_then (plain-number t) (plain_then (plain_word w_as_q tt) (plain_then (plain-number q) (plain_then (plain-columns is) (plain-filters es)))))
plain-head (h0 (empty b cs)) = plain_then (plain_word w_empty tt) (plain_then (plain-if b (plain_word w_one_row tt)) (plain-list plain-pair cs))
plain-head (h1 (projection is)) = plain_then (plain_word w_projection tt) (plain-list plain-item is)
plain-head (h1 (filter e)) = plain_then (plain_word w_filter tt) (plain_expr e)
plain-head (h1 (sort ks)) = plain_then (plain_word w_sort tt) (plain-list plain-key ks)
plain-head (h1 (limit s n)) = plain_then (plain_word w_limit tt) (plain_then (plain-number s) (plain_then (plain_word w_space tt) (plain_fetch n)))
plain-head (h1 (aggregate gs vs)) =
    plain_then (plain_word w_aggregate tt) (plain_then (plain-list plain-item gs) (plain_then (plain_word w_space tt) (plain-list plain-agg vs)))
plain-head (h1 (window ws)) = plain_then (plain_word w_window tt) (plain-list plain-win ws)
plain-head (h1 (subquery_alias q)) = plain_then (plain_word w_subqueryalias tt) (plain-number q)
plain-head (h1 distinct) = plain_word w_distinct tt
plain-head (h2 union) = plain_word w_union tt
plain-head (h2 (join t os c)) = plain_then (plain_word w_join tt) (plain_then (plain-join t) (plain_then (plain-list plain-on os) (plain-cond c)))

pub plain-indent : (level : ℕ) → Plain (indent level)
unfolding indent all_b
plain-indent zero = plain-nothing
plain-indent (suc level) = plain_then (plain_word w_level tt) (plain-indent level)
