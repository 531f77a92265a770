-- House mode: one projection of the merged list gives the rows that the two projections gave.
use mathlib.Core.Path.{◌≡◌, refl, sym, ◌∙◌, ap, ap₂}
use mathlib.Core.List.{List, [], ◌∷◌, map, head-eq_of_cons-eq, tail-eq_of_cons-eq}
use mathlib.Core.Bool.{true, cond, not}
use lib.Dec.{T}
use Rattle.cpl.specs.Tests.{all_b}
use Rattle.cpl.specs.Plan.{Pair, Expr, col, lit, miss, un, bin, Item, bare, named, item_pair, item_expr}
use Rattle.cpl.specs.Exprs.{fits, columns?}
use Rattle.cpl.specs.Accepted.{Clear}
use Rattle.cpl.proofs.Bools.{halves, nor, cond-ap}
use Rattle.cpl.proofs.Lists.{map_cong, map-map, Fit-map, Fit_maps, Fit_trans}
use Rattle.rules.specs.Merge.{plain, def_of, replace, define, replace_item}
use Rattle.rules.proofs.MergeTidy.{Step, equal, put, replace_expr}
use Rattle.meaning.specs.Value.{Row, op1, op2}
use Rattle.meaning.specs.Eval.{lookup, eval, eval_all}
use Rattle.meaning.specs.Operators.{projection_rows}
use Rattle.meaning.proofs.Commute.{lookup-none, lookup_cons}
use Rattle.meaning.proofs.Columns.{all-columns}

-- ── definitions put in place ────────────────────────────────────────────────────────────────

module _ (fs : List Pair) (r : Row) where
  -- a column's definition has the value that the lower projection gave the column
  def_value : (is : List Item) (c : Pair) → eval fs r (def_of c is) ≡ lookup (map item_pair is) (eval_all fs r (map item_expr is)) c
  unfolding eval_all def_of eval
  def_value [] c = sym (lookup-none c [])
  def_value (i ∷ is) c =
      sym (cond-ap (eval fs r) (fits c (item_pair i)) (item_expr i) (def_of c is)) ∙ (ap (cond (fits c (item_pair i)) (eval fs r (item_expr i))) (def_value is c)
      ∙ sym (lookup_cons c (item_pair i) (map item_pair is) (eval fs r (item_expr i)) (eval_all fs r (map item_expr is))))

  define-value : (is : List Item) (e : Expr) → eval fs r (define is e) ≡ eval (map item_pair is) (eval_all fs r (map item_expr is)) e
  unfolding eval define replace
  define-value is (col c) = def_value is c
  define-value is (lit z) = refl
  define-value is miss = refl
  define-value is (un o a) = ap (op1 o) (define-value is a)
  define-value is (bin o a b) = ap₂ (op2 o) (define-value is a) (define-value is b)

  replaced_values : (is js : List Item) → eval_all fs r (map item_expr (map (replace_item is) js)) ≡ eval_all (map item_pair is) (eval_all fs r (map item_expr is)) (map item_expr js)
  unfolding eval_all
  replaced_values is js =
      ap (map (eval fs r)) (map-map item_expr (replace_item is) js ∙ (map_cong (replace_expr is) js ∙ sym (map-map (define is) item_expr js)))
      ∙ (map-map (eval fs r) (define is) (map item_expr js) ∙ map_cong (define-value is) (map item_expr js))

-- ── equal lists of plain items ──────────────────────────────────────────────────────────────

-- what uses no column has one value
constant : (e : Expr) → T (not (columns? e)) → (fs gs : List Pair) (r s : Row) → eval fs r e ≡ eval gs s e
unfolding eval columns?
constant (col c) t fs gs r s = absurd t
constant (lit z) t fs gs r s = refl
constant miss t fs gs r s = refl
constant (un o a) t fs gs r s = ap (op1 o) (constant a t fs gs r s)
constant (bin o a b) t fs gs r s = let h = nor (columns? a) (columns? b) t in ap₂ (op2 o) (constant a h.0 fs gs r s) (constant b h.1 fs gs r s)

module _ (fs gs : List Pair) (r s : Row) where
  plain_value : (j : Item) → T (plain j) → lookup gs s (item_pair j) ≡ eval fs r (item_expr j) → eval gs s (item_expr j) ≡ eval fs r (item_expr j)
  unfolding plain item_pair item_expr eval
  plain_value (bare c) t e = e
  plain_value (named c a) t e = constant a t gs fs s r

  -- where each item's pair holds the item's value
  plain_values : (js : List Item) → T (all_b plain js) → map (lookup gs s) (map item_pair js) ≡ eval_all fs r (map item_expr js) → eval_all gs s (map item_expr js) ≡ eval_all fs r (map item_expr js)
  unfolding all_b eval_all
  plain_values [] t e = refl
  plain_values (j ∷ js) t e =
      let h = halves (plain j) (all_b plain js) t in ap₂ ◌∷◌ (plain_value j h.0 (head-eq_of_cons-eq e)) (plain_values js h.1 (tail-eq_of_cons-eq e))

-- the list over its own values
own_values : (js : List Item) → Clear (map item_pair js) → T (all_b plain js) → (fs : List Pair) (r : Row) → eval_all fs r (map item_expr js) ≡ eval_all (map item_pair js) (eval_all fs r (map item_expr js)) (map item_expr js)
unfolding eval_all
own_values js nd t fs r =
    let s = eval_all fs r (map item_expr js) in
    sym (plain_values fs (map item_pair js) r s js t (all-columns nd (Fit_trans (Fit-map (eval fs r) (map item_expr js)) (Fit_maps item_expr item_pair js))))

-- ── the step ────────────────────────────────────────────────────────────────────────────────

step_values : {js is ks : List Item} → Clear (map item_pair js) → Step true js is ks → (fs : List Pair) (r : Row)
    → eval_all fs r (map item_expr ks) ≡ eval_all (map item_pair is) (eval_all fs r (map item_expr is)) (map item_expr js)
step_values {js} nd (equal e t) fs r = own_values js nd t fs r ∙ ap (λ is. eval_all (map item_pair is) (eval_all fs r (map item_expr is)) (map item_expr js)) e
step_values {js} {is} nd put fs r = replaced_values fs r is js

pub step-rows : {js is ks : List Item} → Clear (map item_pair js) → Step true js is ks → (fs : List Pair) (rs : List Row)
    → projection_rows ks fs rs ≡ projection_rows js (map item_pair is) (projection_rows is fs rs)
unfolding projection_rows
step-rows {js} {is} nd s fs rs = map_cong (step_values nd s fs) rs ∙ sym (map-map (λ r. eval_all (map item_pair is) r (map item_expr js)) (λ r. eval_all fs r (map item_expr is)) rs)
