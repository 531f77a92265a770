-- Joins give the same over narrowed sides.
use mathlib.Core.Path.{◌≡◌, refl, sym, ◌∙◌, ap, ap₂}
use mathlib.Core.List.{List, [], ◌∷◌, ◌++◌, map}
use mathlib.Core.Bool.{Bool, not, ◌&&◌}
use mathlib.Core.Option.{Option, none, some}
use Rattle.cpl.specs.Tests.{any_b}
use Rattle.cpl.specs.Lists.{Fit}
use Rattle.cpl.specs.Plan.{Pair, o_eq, Expr, JoinType, j_inner, j_left, j_right, j_full, j_lsemi, j_lanti, j_rsemi, j_ranti, On, on, on_left, on_right}
use Rattle.cpl.specs.Exprs.{cond_exprs}
use Rattle.cpl.specs.Fields.{join_fields}
use Rattle.cpl.proofs.Lists.{All_map, always, map_cong, map_cong_a, map-map, map_++, Fit_trans, Fit-sym}
use Rattle.rules.specs.Mask.{Mask, select}
use Rattle.rules.specs.Rules.{join_exprs}
use Rattle.rules.proofs.Masks.{select-map, select_++}
use Rattle.rules.proofs.Covers.{Cov, used-head, used_tail, used-left, used-right, cov_both}
use Rattle.meaning.specs.Value.{missing, Row, op2, yes?}
use Rattle.meaning.specs.Eval.{eval}
use Rattle.meaning.specs.Lists.{filter_b, or_else}
use Rattle.meaning.specs.Joins.{on_match, cond_match, matches, missings, left_major, right_major, join_rows}
use Rattle.meaning.proofs.Commute.{filter_map, filter_map_a, any_map_a, or_else-map, concat_map_a, eval-select}
use Rattle.meaning.proofs.Wide.{WideRows, All_filter, missings-fit}

absent : (fs : List Pair) (ks : Mask) → missings (select ks fs) ≡ select ks (missings fs)
unfolding missings
absent fs ks = sym (select-map (λ f. missing) ks fs)

module _ (fl fr : List Pair) (kl kr : Mask) (fit : Fit kl fl) where
  -- a joined row, narrowed
  cut : (l r : Row) → Fit l fl → select kl l ++ select kr r ≡ select (kl ++ kr) (l ++ r)
  cut l r i = sym (select_++ (Fit_trans fit (Fit-sym i)) kr r)

  -- ── matches ───────────────────────────────────────────────────────────────────────────────

  on_match-select : (os : List On) → Cov (map on_left os) fl kl → Cov (map on_right os) fr kr → (l r : Row)
      → on_match os (select kl fl) (select kr fr) (select kl l) (select kr r) ≡ on_match os fl fr l r
  unfolding on_match on_left on_right
  on_match-select [] v w l r = refl
  on_match-select (on a b ∷ os) v w l r =
      ap₂ ◌&&◌ (ap₂ (λ x y. yes? (op2 o_eq x y)) (eval-select a (used-head a (map on_left os) v) l) (eval-select b (used-head b (map on_right os) w) r))
      (on_match-select os (used_tail a (map on_left os) v) (used_tail b (map on_right os) w) l r)

  cond_match-select : (c : Option Expr) → Cov (cond_exprs c) fl kl → Cov (cond_exprs c) fr kr → (l r : Row) → Fit l fl
      → cond_match c (select kl fl ++ select kr fr) (select kl l ++ select kr r) ≡ cond_match c (fl ++ fr) (l ++ r)
  unfolding cond_match cond_exprs
  cond_match-select none v w l r h = refl
  cond_match-select (some e) v w l r h =
      ap₂ (λ fs s. yes? (eval fs s e)) (sym (select_++ fit kr fr)) (cut l r h) ∙ ap yes? (eval-select e (used-head e [] (cov_both v w)) (l ++ r))

  pub matches-select : (os : List On) (c : Option Expr) → Cov (join_exprs os c) fl kl → Cov (join_exprs os c) fr kr → (l r : Row) → Fit l fl
      → matches os c (select kl fl) (select kr fr) (select kl l) (select kr r) ≡ matches os c fl fr l r
  unfolding matches join_exprs
  matches-select os c v w l r h =
      let lefts = map on_left os in
      let rights = map on_right os in
      let v' = used-right lefts (rights ++ cond_exprs c) v in
      let w' = used-right lefts (rights ++ cond_exprs c) w in
      ap₂ ◌&&◌ (on_match-select os (used-left lefts (rights ++ cond_exprs c) v) (used-left rights (cond_exprs c) w') l r)
      (cond_match-select c (used-right rights (cond_exprs c) v') (used-right rights (cond_exprs c) w') l r h)

  -- ── rows, for any two tests that agree ────────────────────────────────────────────────────

  module _ (m m' : Row → Row → Bool) (agree : (l r : Row) → Fit l fl → m' (select kl l) (select kr r) ≡ m l r) (ls rs : List Row) (hl : WideRows fl ls) where
    -- the matches of one left row
    row-left : (l : Row) → Fit l fl → map (λ s. select kl l ++ s) (filter_b (m' (select kl l)) (map (select kr) rs)) ≡ map (select (kl ++ kr)) (map (λ r. l ++ r) (filter_b (m l) rs))
    row-left l i =
        ap (map (λ s. select kl l ++ s)) (filter_map (select kr) (m l) (m' (select kl l)) (λ r. agree l r i) rs)
        ∙ (map-map (λ s. select kl l ++ s) (select kr) (filter_b (m l) rs)
        ∙ (map_cong (λ r. cut l r i) (filter_b (m l) rs) ∙ sym (map-map (select (kl ++ kr)) (λ r. l ++ r) (filter_b (m l) rs))))

    -- the matches of one right row
    row-right : (r : Row) → map (λ s. s ++ select kr r) (filter_b (λ s. m' s (select kr r)) (map (select kl) ls)) ≡ map (select (kl ++ kr)) (map (λ l. l ++ r) (filter_b (λ l. m l r) ls))
    row-right r =
        ap (map (λ s. s ++ select kr r)) (filter_map_a (select kl) (λ l. m l r) (λ s. m' s (select kr r)) (All_map (λ l i. agree l r i) hl))
        ∙ (map-map (λ s. s ++ select kr r) (select kl) (filter_b (λ l. m l r) ls)
        ∙ (map_cong_a (All_map (λ l i. cut l r i) (All_filter (λ l. m l r) hl)) ∙ sym (map-map (select (kl ++ kr)) (λ l. l ++ r) (filter_b (λ l. m l r) ls))))

    -- is there a match?
    some_left : (r : Row) → any_b (λ s. m' s (select kr r)) (map (select kl) ls) ≡ any_b (λ l. m l r) ls
    some_left r = any_map_a (select kl) (λ l. m l r) _ (All_map (λ l i. agree l r i) hl)

    some_right : (l : Row) → Fit l fl → any_b (m' (select kl l)) (map (select kr) rs) ≡ any_b (m l) rs
    some_right l i = any_map_a (select kr) (m l) (m' (select kl l)) (always (λ r. agree l r i) rs)

    -- the left side is absent
    none_left : (r : Row) → missings (select kl fl) ++ select kr r ≡ select (kl ++ kr) (missings fl ++ r)
    none_left r = ap (◌++ select kr r) (absent fl kl) ∙ cut (missings fl) r (missings-fit fl)

    left-rows : left_major m' (missings (select kr fr)) (map (select kl) ls) (map (select kr) rs) ≡ map (select (kl ++ kr)) (left_major m (missings fr) ls rs)
    unfolding left_major
    left-rows =
        concat_map_a (select kl) (select (kl ++ kr)) _ _ (λ l i. ap₂ or_else (row-left l i) (ap (select kl l ++◌) (absent fr kr) ∙ cut l (missings fr) i) ∙ or_else-map (select (kl ++ kr)) _ _) hl

    right-rows : right_major m' (missings (select kl fl)) (map (select kl) ls) (map (select kr) rs) ≡ map (select (kl ++ kr)) (right_major m (missings fl) ls rs)
    unfolding right_major
    right-rows =
        concat_map_a (select kr) (select (kl ++ kr)) _ _ (λ r u. ap₂ or_else (row-right r) (none_left r) ∙ or_else-map (select (kl ++ kr)) _ _) (always {P = λ r. Unit {0}} (λ r. tt) rs)

    -- the right rows without a match, behind an absent left side
    unmatched : map (λ s. missings (select kl fl) ++ s) (filter_b (λ s. not (any_b (λ l. m' l s) (map (select kl) ls))) (map (select kr) rs))
        ≡ map (select (kl ++ kr)) (map (λ r. missings fl ++ r) (filter_b (λ r. not (any_b (λ l. m l r) ls)) rs))
    unmatched =
        let us = filter_b (λ r. not (any_b (λ l. m l r) ls)) rs in
        ap (map (λ s. missings (select kl fl) ++ s)) (filter_map (select kr) (λ r. not (any_b (λ l. m l r) ls)) _ (λ r. ap not (some_left r)) rs)
        ∙ (map-map (λ s. missings (select kl fl) ++ s) (select kr) us ∙ (map_cong none_left us ∙ sym (map-map (select (kl ++ kr)) (λ r. missings fl ++ r) us)))

    pub join_rows-select : (t : JoinType)
        → join_rows t m' (missings (select kl fl)) (missings (select kr fr)) (map (select kl) ls) (map (select kr) rs) ≡ map (select (join_fields t kl kr)) (join_rows t m (missings fl) (missings fr) ls rs)
    unfolding join_rows join_fields
    join_rows-select j_inner = concat_map_a (select kl) (select (kl ++ kr)) _ _ row-left hl
    join_rows-select j_left = left-rows
    join_rows-select j_right = right-rows
    join_rows-select j_full = ap₂ ◌++◌ left-rows unmatched ∙ sym (map_++ (select (kl ++ kr)) (left_major m (missings fr) ls rs) _)
    join_rows-select j_lsemi = filter_map_a (select kl) _ _ (All_map some_right hl)
    join_rows-select j_lanti = filter_map_a (select kl) _ _ (All_map (λ l i. ap not (some_right l i)) hl)
    join_rows-select j_rsemi = filter_map (select kr) _ _ some_left rs
    join_rows-select j_ranti = filter_map (select kr) _ _ (λ r. ap not (some_left r)) rs
