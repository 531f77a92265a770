-- What a rule asks of its inputs grows with the request: one law for each kind of node. No plan need be accepted, and no merge is spoken of.
use mathlib.Core.Path.{refl}
use mathlib.Core.List.{List, [], ◌∷◌, map}
use mathlib.Core.Bool.{Bool, true, false, cond}
use mathlib.Core.Option.{Option}
use Prim.Native.Nat.{ℕ}
use lib.ListN.{length, take}
use Rattle.cpl.specs.Tests.{concat_map}
use Rattle.cpl.specs.Plan.{Pair, Item, Agg, Win, JoinType, j_inner, j_left, j_right, j_full, j_lsemi, j_lanti, j_rsemi, j_ranti, Leaf, scan, empty, Unary, projection, filter, sort, limit, aggregate, window, subquery_alias, distinct, Binary, union, join, Plan, Catalogue, item_expr}
use Rattle.cpl.specs.Exprs.{agg_exprs, win_exprs, unary_exprs}
use Rattle.cpl.specs.Fields.{columns_of}
use Rattle.rules.specs.Mask.{or_m, Mask, ones, zeros, LeM}
use Rattle.rules.specs.Keys.{places_of, has_all, is_key_place, kept_groups}
use Rattle.rules.specs.Rules.{leaf_rule, Job, done, ask, projection_job, aggregate_job, window_job, unary_job, left_part, right_part, left_ask, right_ask}
use Rattle.rules.specs.Scans.{leaf_scans, numbered, leaf_left, Into, i[], ◌i∷◌, pass, Part, narrower, NarrowerAt}
use Rattle.rules.proofs.Masks.{LeM_refl, LeM_trans}
use Rattle.rules.proofs.Parts.{Into_++, Part-map, Part_concat, select-more, take_more, drop_more, or_m-more, used-more, plus-more, plus-same, take-plus}

-- the second job walks the input where the first does, and asks it for no less
pub data More : Job → Job → Type 0 where
  not-walked : {p : Plan} {K : Mask} {j : Job} → More (done p K) j
  asks-more : {b b' t t' : Bool} {Q Q' : Mask} {n n' : Plan → Plan} {l l' : Mask → Mask} → LeM Q Q' → More (ask b Q t n l) (ask b' Q' t' n' l')

-- ── nodes with no input ─────────────────────────────────────────────────────────────────────

pub leaf-more : (C : Catalogue) (h : Leaf) (at : ℕ) (b b' : Bool) {R R' : Mask} → LeM R R' → Into (NarrowerAt C) (leaf_left C h at b R) (leaf_left C h at b' R')
unfolding leaf_left numbered leaf_scans leaf_rule columns_of
leaf-more C (scan t q is es) at b b' l = record { same_node = refl; scan_within = narrower (select-more l _) } i∷ i[]
leaf-more C (empty one cs) at b b' l = i[]

-- ── nodes with one input ────────────────────────────────────────────────────────────────────

pub projection-more : (C : Catalogue) (is : List Item) (fs : List Pair) {R R' : Mask} → LeM R R' → More (projection_job C is fs R) (projection_job C is fs R')
unfolding projection_job
projection-more C is fs l = asks-more (used-more (Part-map item_expr (select-more l is)) fs)

-- the expressions of a part of the groups and of the aggregates
aggregate_exprs : {gs gs' : List Item} {vs vs' : List Agg} → Part gs gs' → Part vs vs' → Part (unary_exprs (aggregate gs vs)) (unary_exprs (aggregate gs' vs'))
unfolding unary_exprs
aggregate_exprs s t = Into_++ (Part-map item_expr s) (Part_concat agg_exprs t)

no_part : {A : Type 0} {x : A} {xs : List A} → Part (x ∷ xs) [] → ⊥
no_part = elim [ ]

-- the groups that are left may grow too
aggregate-more : (gs gs' : List Item) (vs vs' : List Agg) → Part gs gs' → Part vs vs' → (fs : List Pair) (K K' : Mask) → More (aggregate_job gs vs fs K) (aggregate_job gs' vs' fs K')
unfolding aggregate_job
aggregate-more [] gs' [] vs' s t fs K K' = not-walked
aggregate-more [] [] (v ∷ vs) [] s t fs K K' = absurd (no_part t)
aggregate-more [] [] (v ∷ vs) (w ∷ ws) s t fs K K' = asks-more (used-more (aggregate_exprs s t) fs)
aggregate-more [] (g ∷ gs) (v ∷ vs) vs' s t fs K K' = asks-more (used-more (aggregate_exprs s t) fs)
aggregate-more (g ∷ gs) [] vs vs' s t fs K K' = absurd (no_part s)
aggregate-more (g ∷ gs) (h ∷ hs) vs vs' s t fs K K' = asks-more (used-more (aggregate_exprs s t) fs)

-- R and R' are the requests on the whole node
window_more : {ws ws' : List Win} → Part ws ws' → (fs : List Pair) (b b' : Bool) {R R' : Mask} (S S' : Mask) → LeM R R'
    → More (window_job ws fs b (take (length fs) R) S) (window_job ws' fs b' (take (length fs) R') S')
unfolding window_job unary_exprs
window_more i[] fs b b' S S' l = asks-more (take_more (length fs) l)
window_more (e i∷ hs) fs b b' S S' l = asks-more (plus-more (Part_concat win_exprs (e i∷ hs)) fs (take_more (length fs) l))
window_more (pass {y = w} {xs = []} {ys = ws} hs) fs b b' {R} {R'} S S' l = asks-more (LeM_trans (take_more (length fs) l) (take-plus (concat_map win_exprs (w ∷ ws)) fs R'))
window_more (pass {xs = v ∷ vs} hs) fs b b' S S' l = asks-more (plus-more (Part_concat win_exprs (pass hs)) fs (take_more (length fs) l))

-- keeps no fewer groups
pub groups_more : (key : List ℕ) (ps : List (Option ℕ)) {R R' : Mask} → LeM R R' → LeM (kept_groups key ps R) (kept_groups key ps R')
unfolding kept_groups
groups_more [] ps l = LeM_refl (ones ps)
groups_more (k ∷ ks) ps {R} {R'} l = go (has_all (k ∷ ks) ps)
  where
    own : Mask
    own = map (is_key_place (k ∷ ks)) ps

    go : (b : Bool) → LeM (cond b (or_m R own) (ones ps)) (cond b (or_m R' own) (ones ps))
    go true = or_m-more l (LeM_refl own)
    go false = LeM_refl (ones ps)

module _ (C : Catalogue) (key : List ℕ) (fs : List Pair) where
  pub unary-more : (h : Unary) (b b' : Bool) {R R' : Mask} → LeM R R' → More (unary_job C h key fs b R) (unary_job C h key fs b' R')
  unfolding unary_job
  unary-more (projection is) b b' l = projection-more C is fs l
  unary-more (filter e) b b' l = asks-more (plus-same _ fs l)
  unary-more (sort ks) b b' l = asks-more (plus-same _ fs l)
  unary-more (limit s n) b b' l = asks-more l
  unary-more (aggregate gs vs) b b' l = aggregate-more _ _ _ _ (select-more (groups_more key (places_of fs gs) (take_more (length gs) l)) gs) (select-more (drop_more (length gs) l) vs) fs _ _
  unary-more (window ws) b b' l = window_more (select-more (drop_more (length fs) l) ws) fs b b' _ _ l
  unary-more (subquery_alias q) b b' l = asks-more l
  unary-more distinct b b' l = asks-more (LeM_refl (ones fs))

-- ── nodes with two inputs ───────────────────────────────────────────────────────────────────

left-part-more : (t : JoinType) (fl : List Pair) {R R' : Mask} → LeM R R' → LeM (left_part t fl R) (left_part t fl R')
unfolding left_part
left-part-more j_inner fl l = take_more (length fl) l
left-part-more j_left fl l = take_more (length fl) l
left-part-more j_right fl l = take_more (length fl) l
left-part-more j_full fl l = take_more (length fl) l
left-part-more j_lsemi fl l = l
left-part-more j_lanti fl l = l
left-part-more j_rsemi fl l = LeM_refl (zeros fl)
left-part-more j_ranti fl l = LeM_refl (zeros fl)

right-part-more : (t : JoinType) (fl fr : List Pair) {R R' : Mask} → LeM R R' → LeM (right_part t fl fr R) (right_part t fl fr R')
unfolding right_part
right-part-more j_inner fl fr l = drop_more (length fl) l
right-part-more j_left fl fr l = drop_more (length fl) l
right-part-more j_right fl fr l = drop_more (length fl) l
right-part-more j_full fl fr l = drop_more (length fl) l
right-part-more j_lsemi fl fr l = LeM_refl (zeros fr)
right-part-more j_lanti fl fr l = LeM_refl (zeros fr)
right-part-more j_rsemi fl fr l = l
right-part-more j_ranti fl fr l = l

pub left-more : (h : Binary) (fl fr : List Pair) {R R' : Mask} → LeM R R' → LeM (left_ask h fl fr R) (left_ask h fl fr R')
unfolding left_ask
left-more union fl fr l = l
left-more (join t os c) fl fr l = plus-same _ fl (left-part-more t fl l)

pub right-more : (h : Binary) (fl fr : List Pair) {R R' : Mask} → LeM R R' → LeM (right_ask h fl fr R) (right_ask h fl fr R')
unfolding right_ask
right-more union fl fr l = l
right-more (join t os c) fl fr l = plus-same _ fr (right-part-more t fl fr l)
