-- Aggregate and Window give the same over narrowed rows.
use mathlib.Core.Path.{◌≡◌, refl, sym, ◌∙◌, ap, ap₂}
use mathlib.Core.List.{List, [], ◌∷◌, ◌++◌, map, append-nil}
use mathlib.Core.Bool.{true, not, ◌&&◌}
use Prim.Native.Nat.{suc, ◌+◌}
use lib.IntN.{pos}
use Rattle.cpl.specs.Tests.{concat_map}
use Rattle.cpl.specs.Lists.{Fit}
use Rattle.cpl.specs.Plan.{Pair, Expr, Key, rows, over, Agg, agg, Win, win, key_expr}
use Rattle.cpl.specs.Exprs.{call_exprs, agg_exprs, win_exprs}
use Rattle.cpl.proofs.Lists.{All_map, map_cong, map_cong_a, map-map, Fit-map, Fit_trans, Fit-sym}
use Rattle.rules.specs.Mask.{Mask, select, ones}
use Rattle.rules.proofs.Masks.{select-map, select-ones, select_++}
use Rattle.rules.proofs.Covers.{Cov, used-left, used-right}
use Rattle.meaning.specs.Value.{num, Row, same_row}
use Rattle.meaning.specs.Eval.{eval_all}
use Rattle.meaning.specs.Lists.{filter_b, firsts, around}
use Rattle.meaning.specs.Functions.{call_over}
use Rattle.meaning.specs.Operators.{group_keys, members, agg_value, group_row, aggregate_rows, same_part, row_number, win_value, win_row, window_rows}
use Rattle.meaning.proofs.Commute.{filter_map, count_map, around_map_a, eval_all-select, before-select, call_select}
use Rattle.meaning.proofs.Wide.{WideRows, wide-keys}

module _ {fs : List Pair} {ks : Mask} where
  -- ── Aggregate ─────────────────────────────────────────────────────────────────────────────

  keys-select : (gs : List Expr) → Cov gs fs ks → (rs : List Row) → group_keys gs (select ks fs) (map (select ks) rs) ≡ group_keys gs fs rs
  unfolding group_keys
  keys-select [] v rs = refl
  keys-select (g ∷ gs) v rs = ap (firsts same_row) (map-map (λ r. eval_all (select ks fs) r (g ∷ gs)) (select ks) rs ∙ map_cong (eval_all-select (g ∷ gs) v) rs)

  members-select : (gs : List Expr) → Cov gs fs ks → (rs : List Row) (k : Row) → members gs (select ks fs) (map (select ks) rs) k ≡ map (select ks) (members gs fs rs k)
  unfolding members
  members-select gs v rs k = filter_map (select ks) _ _ (λ r. ap (λ s. same_row s k) (eval_all-select gs v r)) rs

  agg_values_select : (vs : List Agg) → Cov (concat_map agg_exprs vs) fs ks → (ms : List Row) → map (agg_value (select ks fs) (map (select ks) ms)) vs ≡ map (agg_value fs ms) vs
  unfolding concat_map agg_exprs agg_value
  agg_values_select [] v ms = refl
  agg_values_select (agg c g ∷ vs) v ms =
      ap₂ ◌∷◌ (call_select g (used-left (call_exprs g) (concat_map agg_exprs vs) v) ms) (agg_values_select vs (used-right (call_exprs g) (concat_map agg_exprs vs) v) ms)

  module _ (gs : List Expr) (vs : List Agg) (A : Mask) (v : Cov gs fs ks) (w : Cov (concat_map agg_exprs (select A vs)) fs ks) (rs : List Row) where
    group_row-select : (k : Row) → Fit k gs → group_row gs (select A vs) (select ks fs) (map (select ks) rs) k ≡ select (ones gs ++ A) (group_row gs vs fs rs k)
    unfolding group_row ones
    group_row-select k h =
        let ms = members gs fs rs k in
        ap (k ++◌) (ap (λ ms. map (agg_value (select ks fs) ms) (select A vs)) (members-select gs v rs k) ∙ (agg_values_select (select A vs) w ms ∙ sym (select-map (agg_value fs ms) A vs)))
        ∙ sym (select_++ (Fit_trans (Fit-map (λ g. true) gs) (Fit-sym h)) A (map (agg_value fs ms) vs) ∙ ap (◌++ select A (map (agg_value fs ms) vs)) (select-ones h))

    -- all groups, and the aggregates at A
    pub aggregate-select : aggregate_rows gs (select A vs) (select ks fs) (map (select ks) rs) ≡ map (select (ones gs ++ A)) (aggregate_rows gs vs fs rs)
    unfolding aggregate_rows
    aggregate-select =
        ap (map (group_row gs (select A vs) (select ks fs) (map (select ks) rs))) (keys-select gs v rs)
        ∙ (map_cong_a (All_map group_row-select (wide-keys gs fs rs)) ∙ sym (map-map (select (ones gs ++ A)) (group_row gs vs fs rs) (group_keys gs fs rs)))

  -- ── Window ────────────────────────────────────────────────────────────────────────────────

  part-select : (ps : List Expr) → Cov ps fs ks → (r s : Row) → same_part (select ks fs) ps (select ks r) (select ks s) ≡ same_part fs ps r s
  unfolding same_part
  part-select ps v r s = ap₂ same_row (eval_all-select ps v r) (eval_all-select ps v s)

  number-select : (ps : List Expr) (os : List Key) → Cov ps fs ks → Cov (map key_expr os) fs ks → (pre : List Row) (r : Row) (post : List Row)
      → row_number (select ks fs) ps os (map (select ks) pre) (select ks r) (map (select ks) post) ≡ row_number fs ps os pre r post
  unfolding row_number
  number-select ps os v w pre r post =
      ap₂ (λ m n. suc (m + n)) (count_map (select ks) _ _ (λ s. ap₂ (λ a b. a && not b) (part-select ps v r s) (before-select os w r s)) pre)
      (count_map (select ks) _ _ (λ s. ap₂ ◌&&◌ (part-select ps v r s) (before-select os w s r)) post)

  win_value-select : (w : Win) → Cov (win_exprs w) fs ks → (all pre : List Row) (r : Row) (post : List Row)
      → win_value (select ks fs) (map (select ks) all) (map (select ks) pre) (select ks r) (map (select ks) post) w ≡ win_value fs all pre r post w
  unfolding win_value win_exprs call_exprs
  win_value-select (win c rows ps os) v all pre r post = ap (λ n. num (pos n)) (number-select ps os (used-left ps (map key_expr os) v) (used-right ps (map key_expr os) v) pre r post)
  win_value-select (win c (over g e) ps os) v all pre r post =
      let u = used-left ps (map key_expr os) (used-right (call_exprs (over g e)) (ps ++ map key_expr os) v) in
      ap (λ rs. call_over (select ks fs) rs (over g e)) (filter_map (select ks) (same_part fs ps r) _ (part-select ps u r) all)
      ∙ call_select (over g e) (used-left (call_exprs (over g e)) (ps ++ map key_expr os) v) (filter_b (same_part fs ps r) all)

  win_values_select : (ws : List Win) → Cov (concat_map win_exprs ws) fs ks → (all pre : List Row) (r : Row) (post : List Row)
      → map (win_value (select ks fs) (map (select ks) all) (map (select ks) pre) (select ks r) (map (select ks) post)) ws ≡ map (win_value fs all pre r post) ws
  unfolding concat_map
  win_values_select [] v all pre r post = refl
  win_values_select (w ∷ ws) v all pre r post =
      ap₂ ◌∷◌ (win_value-select w (used-left (win_exprs w) (concat_map win_exprs ws) v) all pre r post) (win_values_select ws (used-right (win_exprs w) (concat_map win_exprs ws) v) all pre r post)

  -- the input's fields at ks, and the windows at S
  pub window-select : (ws : List Win) (S : Mask) → Fit ks fs → Cov (concat_map win_exprs (select S ws)) fs ks → {rs : List Row} → WideRows fs rs
      → window_rows (select S ws) (select ks fs) (map (select ks) rs) ≡ map (select (ks ++ S)) (window_rows ws fs rs)
  unfolding window_rows win_row
  window-select ws S f v {rs} h = around_map_a (select ks) (select (ks ++ S)) _ _ each [] h
    where
      each : (pre : List Row) (r : Row) (post : List Row) → Fit r fs
          → win_row (select S ws) (select ks fs) (map (select ks) rs) (map (select ks) pre) (select ks r) (map (select ks) post) ≡ select (ks ++ S) (win_row ws fs rs pre r post)
      each pre r post i =
          ap (select ks r ++◌) (win_values_select (select S ws) v rs pre r post ∙ sym (select-map (win_value fs rs pre r post) S ws))
          ∙ sym (select_++ (Fit_trans f (Fit-sym i)) S (map (win_value fs rs pre r post) ws))

-- without windows the rows are the input's
pub window-none : (fs : List Pair) (rs : List Row) → window_rows [] fs rs ≡ rs
unfolding window_rows around win_row
window-none fs rs = go [] rs
  where
    go : (pre qs : List Row) → around (win_row [] fs rs) pre qs ≡ qs
    go pre [] = refl
    go pre (r ∷ qs) = ap₂ ◌∷◌ (append-nil r) (go (r ∷ pre) qs)
