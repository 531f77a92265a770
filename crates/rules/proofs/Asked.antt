-- What is asked of the inputs of a node, and which of its fields are left: the masks fit, contain the request and keep the columns that are used.
use mathlib.Core.Path.{◌≡◌, refl, sym, ◌∙◌, ap, ap₂}
use mathlib.Core.List.{List, [], ◌∷◌, ◌++◌, map}
use mathlib.Core.Bool.{Bool, true, false, cond}
use mathlib.Core.Option.{Option}
use Prim.Native.Nat.{ℕ}
use lib.Dec.{T, eqb→eq}
use lib.ListN.{length, take}
use Rattle.cpl.specs.Lists.{z[], ◌z∷◌, Fit}
use Rattle.cpl.specs.Plan.{Pair, Expr, Item, Agg, Win, JoinType, j_inner, j_left, j_right, j_full, j_lsemi, j_lanti, j_rsemi, j_ranti, Binary, union, join, item_pair, agg_pair, win_pair}
use Rattle.cpl.specs.Tests.{concat_map}
use Rattle.cpl.specs.Exprs.{places}
use Rattle.cpl.specs.Fields.{join_fields, binary_fields}
use Rattle.cpl.specs.Accept.{even}
use Rattle.cpl.proofs.Lists.{Fit-map, Fit_trans, Fit-sym, length-Fit, take-fit, drop-fit}
use Rattle.rules.specs.Mask.{Mask, select, or_m, ones, zeros, LeM}
use Rattle.rules.specs.Keys.{places_of, has_all, is_key_place, kept_groups}
use Rattle.rules.specs.Rules.{used, plus, left_part, right_part, join_exprs, left_ask, right_ask}
use Rattle.rules.proofs.Masks.{LeM_or, LeM_or_r, LeM_trans, LeM_fit, LeM_parts, fit-ones, select-map, select_++}
use Rattle.rules.proofs.Requests.{fit-mask}
use Rattle.rules.proofs.Covers.{Cov, used_cov}

-- ── the columns of expressions ──────────────────────────────────────────────────────────────

pub used-fit : (es : List Expr) (fs : List Pair) → Fit (used es fs) fs
unfolding used
used-fit es fs = fit-mask (concat_map (places fs) es) fs

-- the request fits what is added
both-fit : (es : List Expr) (fs : List Pair) {R : Mask} → Fit R fs → Fit R (used es fs)
both-fit es fs f = Fit_trans f (Fit-sym (used-fit es fs))

pub plus-fit : (es : List Expr) {fs : List Pair} {R : Mask} → Fit R fs → Fit (plus es fs R) fs
unfolding plus
plus-fit es {fs} f = LeM_fit (LeM_or (both-fit es fs f)) f

pub plus_cov : (es : List Expr) {fs : List Pair} {R K : Mask} → Fit R fs → LeM (plus es fs R) K → Cov es fs K
unfolding plus
plus_cov es {fs} f l = used_cov es fs (LeM_trans (LeM_or_r (both-fit es fs f)) l)

pub plus-keeps : (es : List Expr) {fs : List Pair} {R K : Mask} → Fit R fs → LeM (plus es fs R) K → LeM R K
unfolding plus
plus-keeps es {fs} f l = LeM_trans (LeM_or (both-fit es fs f)) l

-- ── Aggregate and Window ────────────────────────────────────────────────────────────────────

-- the groups' part of a request
pub groups_fit : (gs : List Item) (fs : List Pair) {R : Mask} → Fit R (map item_pair gs ++ fs) → Fit (take (length gs) R) gs
groups_fit [] fs h = z[]
groups_fit (g ∷ gs) fs (_ z∷ hs) = tt z∷ groups_fit gs fs hs

-- the groups' places are as many
pub places-fit : (fs : List Pair) {gs : List Item} {R : Mask} → Fit R gs → Fit R (places_of fs gs)
unfolding places_of
places-fit fs {gs} f = Fit_trans f (Fit-sym (Fit-map _ gs))

-- every requested group is kept, whatever the key
pub groups_keep : (key : List ℕ) (ps : List (Option ℕ)) {R : Mask} → Fit R ps → LeM R (kept_groups key ps R)
unfolding kept_groups
groups_keep [] ps f = fit-ones f
groups_keep (k ∷ ks) ps {R} f = go (has_all (k ∷ ks) ps)
  where
    go : (b : Bool) → LeM R (cond b (or_m R (map (is_key_place (k ∷ ks)) ps)) (ones ps))
    go true = LeM_or (Fit_trans f (Fit-sym (Fit-map (is_key_place (k ∷ ks)) ps)))
    go false = fit-ones f

pub aggregate-fields : {gs : List Item} {G : Mask} → Fit G gs → (A : Mask) (vs : List Agg) → map item_pair (select G gs) ++ map agg_pair (select A vs) ≡ select (G ++ A) (map item_pair gs ++ map agg_pair vs)
aggregate-fields {gs} {G} f A vs = sym (select_++ (Fit_trans f (Fit-sym (Fit-map item_pair gs))) A (map agg_pair vs) ∙ ap₂ ◌++◌ (select-map item_pair G gs) (select-map agg_pair A vs))

pub window-fields : {fs : List Pair} {K : Mask} → Fit K fs → (S : Mask) (ws : List Win) → select K fs ++ map win_pair (select S ws) ≡ select (K ++ S) (fs ++ map win_pair ws)
window-fields {fs} {K} h S ws = sym (select_++ h S (map win_pair ws) ∙ ap (select K fs ++◌) (select-map win_pair S ws))

-- ── Union and Join ──────────────────────────────────────────────────────────────────────────

-- a join's request, split: each part fits its side
pub part-fits : (t : JoinType) (fl fr : List Pair) {R : Mask} → Fit R (join_fields t fl fr) → Fit (left_part t fl R) fl × Fit (right_part t fl fr R) fr
unfolding join_fields left_part right_part zeros
part-fits j_inner fl fr f = (take-fit fl fr f, drop-fit fl fr f)
part-fits j_left fl fr f = (take-fit fl fr f, drop-fit fl fr f)
part-fits j_right fl fr f = (take-fit fl fr f, drop-fit fl fr f)
part-fits j_full fl fr f = (take-fit fl fr f, drop-fit fl fr f)
part-fits j_lsemi fl fr f = (f, Fit-map (λ g. false) fr)
part-fits j_lanti fl fr f = (f, Fit-map (λ g. false) fr)
part-fits j_rsemi fl fr f = (Fit-map (λ g. false) fl, f)
part-fits j_ranti fl fr f = (Fit-map (λ g. false) fl, f)

pub ask-fits : (h : Binary) (fl fr : List Pair) {R : Mask} → T (even h fl fr) → Fit R (binary_fields h fl fr) → Fit (left_ask h fl fr R) fl × Fit (right_ask h fl fr R) fr
unfolding even binary_fields left_ask right_ask
ask-fits union fl fr e f = (f, Fit_trans f (length-Fit fl fr (eqb→eq _ _ e)))
ask-fits (join t os c) fl fr e f = let h = part-fits t fl fr f in (plus-fit (join_exprs os c) h.0, plus-fit (join_exprs os c) h.1)

pub join-keeps : (t : JoinType) (fl fr : List Pair) (R : Mask) {Kl Kr : Mask} → LeM (left_part t fl R) Kl → LeM (right_part t fl fr R) Kr → LeM R (join_fields t Kl Kr)
unfolding left_part right_part join_fields
join-keeps j_inner fl fr R h k = LeM_parts (length fl) R h k
join-keeps j_left fl fr R h k = LeM_parts (length fl) R h k
join-keeps j_right fl fr R h k = LeM_parts (length fl) R h k
join-keeps j_full fl fr R h k = LeM_parts (length fl) R h k
join-keeps j_lsemi fl fr R h k = h
join-keeps j_lanti fl fr R h k = h
join-keeps j_rsemi fl fr R h k = k
join-keeps j_ranti fl fr R h k = k

pub join-fields : (t : JoinType) {fl : List Pair} (fr : List Pair) {Kl : Mask} (Kr : Mask) → Fit Kl fl → join_fields t (select Kl fl) (select Kr fr) ≡ select (join_fields t Kl Kr) (join_fields t fl fr)
unfolding join_fields
join-fields j_inner fr Kr h = sym (select_++ h Kr fr)
join-fields j_left fr Kr h = sym (select_++ h Kr fr)
join-fields j_right fr Kr h = sym (select_++ h Kr fr)
join-fields j_full fr Kr h = sym (select_++ h Kr fr)
join-fields j_lsemi fr Kr h = refl
join-fields j_lanti fr Kr h = refl
join-fields j_rsemi fr Kr h = refl
join-fields j_ranti fr Kr h = refl
