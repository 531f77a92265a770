-- A node without its inputs is read as it is written. Assumes nothing.
use mathlib.Core.Path.{◌≡◌, refl, ◌∙◌}
use mathlib.Core.List.{List, [], ◌∷◌, ◌++◌}
use mathlib.Core.Bool.{true, false}
use mathlib.Core.Option.{Option, none, some}
use Prim.Native.Nat.{ℕ}
use lib.ListN.{drop}
use Rattle.cpl.specs.Lists.{All, a[], ◌a∷◌}
use Rattle.cpl.specs.Plan.{Expr, JoinType, j_inner, j_left, j_right, j_full, j_lsemi, j_lanti, j_rsemi, j_ranti, scan, empty, projection, filter, sort, limit, aggregate, window, subquery_alias, distinct, union, join}
use Rattle.cpl.specs.ReadPlan.{Head, h0, h1, h2}
use Rattle.plan_text.specs.Words.{w_projection, w_filter, w_sort, w_limit, w_aggregate, w_window, w_subqueryalias, w_union, w_distinct, w_join, w_scan, w_empty, w_space, w_none, w_columns, w_as_q, w_where, w_one_row, w_if}
use Rattle.plan_text.specs.Write.{if, number, list_text, agg_text, on_text, cond_text, columns_text, filters_text, members_text, expr_text, fetch_text, join_text, leaf_text, unary_text, binary_text, head_text}
use Rattle.plan_text.specs.ReadText.{Got, got, lost, eat, is_digit, one_of}
use Rattle.plan_text.specs.ReadParts.{read_cond, read_columns, some_filters, read_filters, read_fetch, join_words, head_form, ended, read_head}
use Rattle.plan_text.proofs.Laws.{Stops, Closes, closes_stops, closes_eat, after_no, Back, Holds, Forth, forth_then, holds_after, holds-need, one_of_forth}
use Rattle.plan_text.proofs.NumberTrip.{no_number, Any, number_back, number_forth}
use Rattle.plan_text.proofs.ListTrip.{all_any, members_back, list_back, members_forth, list_forth}
use Rattle.plan_text.proofs.Named.{NamedExpr, NamedCond, NamedHead}
use Rattle.plan_text.proofs.ExprTrip.{expr_member, pair_back, expr_back, pair_forth, expr_forth}
use Rattle.plan_text.proofs.PartTrip.{number-member, pair-member, item-member, key-member, agg-member, win-member, on-member, closing, item_back, key_back, agg_back, win_back, on_back, item_forth, flag_forth, key_forth, agg_forth, win_forth, on_forth}

-- ── back ────────────────────────────────────────────────────────────────────────────────────

cond_back : Back Closes cond_text read_cond
unfolding cond_text read_cond eat
cond_back = record { reads = go }
  where
    go : (c : Option Expr) (rest : List ℕ) → Closes rest → read_cond (cond_text c rest) ≡ got c rest
    go none rest h = rw (closes_eat (drop 1 w_if) rest h)
    go (some e) rest h = rw (expr_back.reads e rest (closes_stops rest h))

filters_back : Back Closes filters_text read_filters
unfolding filters_text read_filters some_filters eat
filters_back = record { reads = go }
  where
    go : (es : List Expr) (rest : List ℕ) → Closes rest → read_filters (filters_text es rest) ≡ got es rest
    go [] rest h = rw (closes_eat (drop 1 w_where) rest h)
    go (e ∷ es) rest h = rw ((members_back (closing expr_back) expr_member).reads (e ∷ es) rest tt)

-- no column list is next
abbrev pub Unlisted : List ℕ → Type 0
Unlisted rest = eat w_columns rest ≡ none

filters_unlisted : (es : List Expr) (rest : List ℕ) → Closes rest → Unlisted (filters_text es rest)
unfolding filters_text eat
filters_unlisted [] rest h = closes_eat (drop 1 w_columns) rest h
filters_unlisted (e ∷ es) rest h = refl

filters_stop : (es : List Expr) (rest : List ℕ) → Closes rest → Stops (filters_text es rest)
unfolding filters_text is_digit
filters_stop [] rest h = closes_stops rest h
filters_stop (e ∷ es) rest h = refl

columns_back : Back Unlisted columns_text read_columns
unfolding columns_text read_columns eat
columns_back = record { reads = go }
  where
    go : (is : Option (List ℕ)) (rest : List ℕ) → Unlisted rest → read_columns (columns_text is rest) ≡ got is rest
    go none rest h = rw h
    go (some is) rest h = rw ((members_back (closing number_back) number-member).reads is rest tt)

columns_stop : (is : Option (List ℕ)) (rest : List ℕ) → Stops rest → Stops (columns_text is rest)
unfolding columns_text is_digit
columns_stop none rest h = h
columns_stop (some is) rest h = refl

fetch_back : Back Closes fetch_text read_fetch
unfolding fetch_text read_fetch eat is_digit
fetch_back = record { reads = go }
  where
    go : (n : Option ℕ) (rest : List ℕ) → Closes rest → read_fetch (fetch_text n rest) ≡ got n rest
    go none rest h = refl
    go (some n) rest h = after_no w_none _ _ (number n rest) (no_number 110 (drop 1 w_none) n rest refl) ∙ rw (number_back.reads n rest (closes_stops rest h))

read_join : (t : JoinType) (rest : List ℕ) → one_of join_words (join_text t rest) ≡ got t rest
unfolding one_of eat join_text
read_join j_inner rest = refl
read_join j_left rest = refl
read_join j_right rest = refl
read_join j_full rest = refl
read_join j_lsemi rest = refl
read_join j_lanti rest = refl
read_join j_rsemi rest = refl
read_join j_ranti rest = refl

-- a scan without filters, whatever follows that is neither a digit nor a column list nor filters
pub scan_read : (t q : ℕ) (is : Option (List ℕ)) (rest : List ℕ) → Stops rest → Unlisted rest → eat w_where rest ≡ none →
    head_form (head_text (h0 (scan t q is [])) rest) ≡ got (h0 (scan t q is [])) rest
unfolding head_form head_text leaf_text filters_text read_filters eat is_digit
scan_read t q is rest s u v =
    rw (number_back.reads t (w_as_q ++ number q (columns_text is rest)) refl, number_back.reads q (columns_text is rest) (columns_stop is rest s), columns_back.reads is rest u, v)

read_head_lem : (h : Head) (rest : List ℕ) → Closes rest → head_form (head_text h rest) ≡ got h rest
unfolding head_form head_text leaf_text unary_text binary_text eat is_digit if columns_text cond_text fetch_text list_text
read_head_lem (h0 (scan t q is es)) rest c =
    let after-columns = filters_text es rest in
    rw (
      number_back.reads t (w_as_q ++ number q (columns_text is after-columns)) refl,
      number_back.reads q (columns_text is after-columns) (columns_stop is after-columns (filters_stop es rest c)),
      columns_back.reads is after-columns (filters_unlisted es rest c),
      filters_back.reads es rest c,
    )
read_head_lem (h0 (empty true cs)) rest c = rw ((list_back (closing pair_back) pair-member).reads cs rest tt)
read_head_lem (h0 (empty false cs)) rest c = rw ((list_back (closing pair_back) pair-member).reads cs rest tt)
read_head_lem (h1 (projection is)) rest c = rw ((list_back item_back item-member).reads is rest tt)
read_head_lem (h1 (filter e)) rest c = rw (expr_back.reads e rest (closes_stops rest c))
read_head_lem (h1 (sort ks)) rest c = rw ((list_back key_back key-member).reads ks rest tt)
read_head_lem (h1 (limit s n)) rest c = rw (number_back.reads s (32 ∷ fetch_text n rest) refl, fetch_back.reads n rest c)
read_head_lem (h1 (aggregate gs vs)) rest c = rw ((list_back item_back item-member).reads gs (32 ∷ list_text agg_text vs rest) tt, (list_back agg_back agg-member).reads vs rest tt)
read_head_lem (h1 (window ws)) rest c = rw ((list_back win_back win-member).reads ws rest tt)
read_head_lem (h1 (subquery_alias q)) rest c = rw (number_back.reads q rest (closes_stops rest c))
read_head_lem (h1 distinct) rest c = refl
read_head_lem (h2 union) rest c = refl
read_head_lem (h2 (join t os e)) rest c =
    rw (read_join t (list_text on_text os (cond_text e rest)), (list_back on_back on-member).reads os (cond_text e rest) tt, cond_back.reads e rest c)

pub head_back : Back Closes head_text head_form
head_back = record { reads = read_head_lem }

pub head_read : (h : Head) → read_head (head_text h []) ≡ some h
unfolding read_head ended
head_read h = rw (read_head_lem h [] tt)

-- ── forth ───────────────────────────────────────────────────────────────────────────────────

cond_forth : Forth NamedCond cond_text read_cond
unfolding read_cond cond_text
cond_forth = record { was = λ s. holds_after _ w_if _ _ s (λ left e. forth_then expr_forth _ left _ λ a rest g good. (let h = g good in cc)) (λ good. refl) }

columns_forth : Forth Any columns_text read_columns
unfolding read_columns columns_text
columns_forth = record { was = λ s. holds_after _ w_columns _ _ s (λ left e. forth_then (members_forth number_forth) _ left _ λ is rest g good. (let h = g (all_any is) in cc)) (λ good. refl) }

filters_forth : Forth (All NamedExpr) filters_text read_filters
unfolding read_filters filters_text some_filters
filters_forth = record { was = λ s. holds_after _ w_where _ _ s (λ left e. forth_then (members_forth expr_forth) _ left _ λ es rest g. some_were s left e es rest g) (λ good. refl) }
  where
    some_were : (s left : List ℕ) → s ≡ w_where ++ left → (es : List Expr) (rest : List ℕ) → (All NamedExpr es → left ≡ members_text expr_text es rest) →
        Holds (λ es rest. All NamedExpr es → s ≡ filters_text es rest) (some_filters es rest)
    some_were s left e [] rest g = tt
    some_were s left e (x ∷ xs) rest g = λ good. (let h = g good in cc)

fetch_forth : Forth Any fetch_text read_fetch
unfolding read_fetch fetch_text
fetch_forth = record { was = λ s. holds_after _ w_none _ _ s (λ left e good. e) (forth_then number_forth _ s _ λ n rest g good. g tt) }

join_forth : Forth Any join_text (one_of join_words)
unfolding join_text
join_forth =
    one_of_forth join_words
    ((λ rest. refl) a∷ (λ rest. refl) a∷ (λ rest. refl) a∷ (λ rest. refl) a∷ (λ rest. refl) a∷ (λ rest. refl) a∷ (λ rest. refl) a∷ (λ rest. refl) a∷ a[])

pub head_forth : Forth NamedHead head_text head_form
unfolding head_form head_text leaf_text unary_text binary_text
head_forth = record { was = go }
  where
    go : (s : List ℕ) → Holds (λ h rest. NamedHead h → s ≡ head_text h rest) (head_form s)
    go s =
        holds_after _ w_projection _ _ s (λ left e. forth_then (list_forth item_forth) _ left _ λ is rest g good. (let a = g good in cc))
        (holds_after _ w_filter _ _ s (λ left e. forth_then expr_forth _ left _ λ x rest g good. (let a = g good in cc))
        (holds_after _ w_sort _ _ s (λ left e. forth_then (list_forth key_forth) _ left _ λ ks rest g good. (let a = g good in cc))
        (holds_after _ w_limit _ _ s
        (λ left e.
        forth_then number_forth _ left _ λ n rest g.
        holds-need _ w_space _ rest λ left₁ e₁.
        forth_then fetch_forth _ left₁ _ λ m rest₁ g₁ good. (let a = g tt in let b = g₁ tt in cc))
        (holds_after _ w_aggregate _ _ s
        (λ left e.
        forth_then (list_forth item_forth) _ left _ λ gs rest g.
        holds-need _ w_space _ rest λ left₁ e₁.
        forth_then (list_forth agg_forth) _ left₁ _ λ vs rest₁ g₁ good. (let a = g good.0 in let b = g₁ good.1 in cc))
        (holds_after _ w_window _ _ s (λ left e. forth_then (list_forth win_forth) _ left _ λ ws rest g good. (let a = g good in cc))
        (holds_after _ w_subqueryalias _ _ s (λ left e. forth_then number_forth _ left _ λ q rest g good. (let a = g tt in cc))
        (holds_after _ w_union _ _ s (λ left e good. e)
        (holds_after _ w_distinct _ _ s (λ left e good. e)
        (holds_after _ w_join _ _ s
        (λ left e.
        forth_then join_forth _ left _ λ t rest g.
        forth_then (list_forth on_forth) _ rest _ λ os rest₁ g₁.
        forth_then cond_forth _ rest₁ _ λ c rest₂ g₂ good. (let a = g tt in let b = g₁ good.0 in let d = g₂ good.1 in cc))
        (holds_after _ w_scan _ _ s
        (λ left e.
        forth_then number_forth _ left _ λ t rest g.
        holds-need _ w_as_q _ rest λ left₁ e₁.
        forth_then number_forth _ left₁ _ λ q rest₁ g₁.
        forth_then columns_forth _ rest₁ _ λ is rest₂ g₂.
        forth_then filters_forth _ rest₂ _ λ es rest₃ g₃ good. (let a = g tt in let b = g₁ tt in let d = g₂ tt in let f = g₃ good in cc))
        (holds-need _ w_empty _ s λ left e.
        forth_then (flag_forth w_one_row) _ left _ λ b rest g.
        forth_then (list_forth pair_forth) _ rest _ λ cs rest₁ g₁ good. (let a = g tt in let d = g₁ good in cc))))))))))))

-- a line that reads as a node, in which no pair is the one for `q0.c1`, is its text
pub head_was : (line : List ℕ) (h : Head) → read_head line ≡ some h → NamedHead h → line ≡ head_text h []
unfolding read_head ended
head_was line h e good = go (head_form line) (head_forth.was line) e
  where
    go : (g : Got Head) → Holds (λ h rest. NamedHead h → line ≡ head_text h rest) g → ended g ≡ some h → line ≡ head_text h []
    go (got a []) k e = let same : a ≡ h = cc in rw (← same) (k (rw (← same) at good))
    go (got a (c ∷ s)) k e = cc
    go lost k e = cc
