-- Projections of columns by their own pairs: top-up, and the projection that changes nothing.
use mathlib.Core.Path.{◌≡◌, refl, sym, ◌∙◌, ap, ap₂}
use mathlib.Core.List.{List, ◌∷◌, map}
use mathlib.Core.Bool.{Bool, true, false, cond, not}
use lib.Dec.{T}
use Rattle.cpl.specs.Lists.{All, z[], ◌z∷◌, Fit}
use Rattle.cpl.specs.Plan.{Pair, col, Item, bare, projection, Plan, unary, Catalogue, item_pair, item_expr}
use Rattle.cpl.specs.Accept.{conflict}
use Rattle.cpl.specs.Fields.{unary_fields, fields_of}
use Rattle.cpl.specs.Accepted.{Clear, n[], ◌n∷◌}
use Rattle.cpl.proofs.Lists.{All_map, map_cong, map_cong_a, map-map, map_id, Fit-map, fit_self}
use Rattle.cpl.proofs.Lookup.{fits_self, apart}
use Rattle.rules.specs.Mask.{Mask, select, ones, LeM}
use Rattle.rules.specs.Rules.{same_columns, over_child}
use Rattle.rules.proofs.Masks.{select-map, select-select, select-ones, Fit-select, All_select}
use Rattle.rules.proofs.Covers.{Cov}
use Rattle.rules.proofs.Known.{bare-fields, clear-select}
use Rattle.rules.proofs.UnaryKinds.{same-columns}
use Rattle.meaning.specs.Value.{Val, Row, Log}
use Rattle.meaning.specs.Eval.{lookup, eval, eval_all}
use Rattle.meaning.specs.Operators.{projection_rows, unary_rows}
use Rattle.meaning.specs.Meaning.{meaning}
use Rattle.meaning.proofs.Commute.{lookup-here, lookup-past, eval_all-select}
use Rattle.meaning.proofs.Wide.{WideRows}

-- ── columns looked up by their own pairs ────────────────────────────────────────────────────

-- f is found by none of the fields behind it
others : (f : Pair) (v : Val) (fs : List Pair) (r : Row) {gs : List Pair} → All (λ g. T (not (conflict f g))) gs → map (lookup (f ∷ fs) (v ∷ r)) gs ≡ map (lookup fs r) gs
others f v fs r h = map_cong_a (All_map (λ g t. lookup-past g f fs v r (apart f g t).1) h)

pub own-columns : {fs : List Pair} {r : Row} {R : Mask} → Clear fs → Fit r fs → Fit R fs → map (lookup fs r) (select R fs) ≡ select R r
unfolding select
own-columns n[] z[] z[] = refl
own-columns (◌n∷◌ {f = f} {fs = fs} h hs) (◌z∷◌ {x = v} {xs = r} _ w) (◌z∷◌ {x = true} {xs = R} _ k) =
    ap₂ ◌∷◌ (lookup-here f f fs v r (fits_self f)) (others f v fs r (All_select R h) ∙ own-columns hs w k)
own-columns (◌n∷◌ {f = f} {fs = fs} h hs) (◌z∷◌ {x = v} {xs = r} _ w) (◌z∷◌ {x = false} {xs = R} _ k) = others f v fs r (All_select R h) ∙ own-columns hs w k

pub all-columns : {fs : List Pair} {r : Row} → Clear fs → Fit r fs → map (lookup fs r) fs ≡ r
unfolding ones
all-columns {fs} {r} nd h = ap (map (lookup fs r)) (sym (select-ones (fit_self fs))) ∙ (own-columns nd h (Fit-map (λ f. true) fs) ∙ select-ones h)

pub ones-rows : {fs : List Pair} {rs : List Row} → WideRows fs rs → map (select (ones fs)) rs ≡ rs
ones-rows {rs} w = map_cong_a (All_map (λ r h. select-ones h) w) ∙ map_id rs

bare_values : (cs fs : List Pair) (r : Row) → eval_all fs r (map item_expr (map bare cs)) ≡ map (lookup fs r) cs
unfolding eval_all eval item_expr
bare_values cs fs r = ap (map (eval fs r)) (map-map item_expr bare cs) ∙ map-map (eval fs r) col cs

-- ── projections ─────────────────────────────────────────────────────────────────────────────

-- the items at R, over narrowed rows
pub projection-select : {fs : List Pair} {K : Mask} (R : Mask) (is : List Item) → Cov (map item_expr (select R is)) fs K → (rs : List Row)
    → projection_rows (select R is) (select K fs) (map (select K) rs) ≡ map (select R) (projection_rows is fs rs)
unfolding projection_rows eval_all
projection-select {fs} {K} R is v rs =
    map-map (λ r. eval_all (select K fs) r (map item_expr (select R is))) (select K) rs ∙ (map_cong each rs ∙ sym (map-map (select R) (λ r. eval_all fs r (map item_expr is)) rs))
  where
    each : (r : Row) → eval_all (select K fs) (select K r) (map item_expr (select R is)) ≡ select R (eval_all fs r (map item_expr is))
    each r = eval_all-select (map item_expr (select R is)) v r ∙ (ap (map (eval fs r)) (sym (select-map item_expr R is)) ∙ sym (select-map (eval fs r) R (map item_expr is)))

-- the columns at R of rows that are narrowed to more
pub columns-rows : {fs : List Pair} {rs : List Row} {R K : Mask} → Clear fs → WideRows fs rs → Fit R fs → LeM R K → projection_rows (map bare (select R fs)) (select K fs) (map (select K) rs) ≡ map (select R) rs
unfolding projection_rows
columns-rows {fs} {rs} {R} {K} nd w f k = map-map (λ r. eval_all (select K fs) r (map item_expr (map bare (select R fs)))) (select K) rs ∙ map_cong_a (All_map each w)
  where
    each : (r : Row) → Fit r fs → eval_all (select K fs) (select K r) (map item_expr (map bare (select R fs))) ≡ select R r
    each r h =
        bare_values (select R fs) (select K fs) (select K r)
        ∙ (ap (map (lookup (select K fs) (select K r))) (sym (select-select k fs)) ∙ (own-columns (clear-select K nd) (Fit-select K h) (Fit-select K f) ∙ select-select k r))

projection_self : {fs : List Pair} {rs : List Row} → Clear fs → WideRows fs rs → projection_rows (map bare fs) fs rs ≡ rs
unfolding projection_rows
projection_self {fs} {rs} nd w = map_cong_a (All_map (λ r h. bare_values fs fs r ∙ all-columns nd h) w) ∙ map_id rs

-- dropped or not, the fields and the rows are the projection's
pub over_child_lem : (C : Catalogue) (D : Log) (is : List Item) (p' : Plan) → Clear (fields_of C p') → WideRows (fields_of C p') (meaning C D p')
    → (fields_of C (over_child C is p') ≡ map item_pair is) × (meaning C D (over_child C is p') ≡ projection_rows is (fields_of C p') (meaning C D p'))
unfolding over_child fields_of meaning unary_fields unary_rows
over_child_lem C D is p' nd w = go (same_columns is (fields_of C p')) (λ t. t)
  where
    go : (b : Bool) → (T b → T (same_columns is (fields_of C p')))
        → (fields_of C (cond b p' (unary (projection is) p')) ≡ map item_pair is) × (meaning C D (cond b p' (unary (projection is) p')) ≡ projection_rows is (fields_of C p') (meaning C D p'))
    go true t =
        let e = same-columns is (fields_of C p') (t tt) in
        (sym (ap (map item_pair) e ∙ bare-fields (fields_of C p')), sym (ap (λ js. projection_rows js (fields_of C p') (meaning C D p')) e ∙ projection_self nd w))
    go false t = (refl, refl)
