-- The step that merges two projections, in either mode: the merged list has the upper list's pairs, its references are resolved where the lower list's are,
-- and it can be written.
use mathlib.Core.Path.{◌≡◌, refl, sym, ◌∙◌, ap, ap₂, subst, subst⁻¹}
use mathlib.Core.List.{List, [], ◌∷◌, map}
use mathlib.Core.Bool.{Bool, true, false, cond, not, ◌&&◌, ◌||◌, decide, true≢false}
use mathlib.Core.Option.{none, some, some-injective}
use Prim.Native.Nat.{ℕ, zero, suc}
use lib.Dec.{T}
use Rattle.cpl.specs.Tests.{any_b, all_b}
use Rattle.cpl.specs.Lists.{All, a[], ◌a∷◌}
use Rattle.cpl.specs.Plan.{Pair, pair, eq_p, Expr, col, lit, miss, un, bin, Item, bare, named, item_pair, item_expr}
use Rattle.cpl.specs.Exprs.{fits, known, definite}
use Rattle.cpl.specs.Accept.{each_passes}
use Rattle.cpl.specs.Writable.{FitPair, FitExpr, FitItem}
use Rattle.cpl.specs.Accepted.{Resolved}
use Rattle.cpl.proofs.Bools.{halves, both-T}
use Rattle.cpl.proofs.Lists.{map-map, map_cong, All_mapped, All_unmapped}
use Rattle.cpl.proofs.Pairs.{eq_p_eq}
use Rattle.cpl.proofs.Lookup.{find-any}
use Rattle.cpl.proofs.Accepted.{Sees, each_sees, all_see}
use Rattle.rules.specs.Merge.{item_d, eq_items, plain, def_of, replace, define, item, replace_item, held, uses_none, drops_child, merge_step}

-- ── equal lists ─────────────────────────────────────────────────────────────────────────────

pub eq_items_lem : (js is : List Item) → T (eq_items js is) → js ≡ is
unfolding eq_items decide
eq_items_lem [] [] t = refl
eq_items_lem [] (i ∷ is) t = absurd t
eq_items_lem (j ∷ js) [] t = absurd t
eq_items_lem (j ∷ js) (i ∷ is) t = let h = halves (decide (item_d j i)) (eq_items js is) t in ap₂ ◌∷◌ (from (item_d j i) h.0) (eq_items_lem js is h.1)
  where
    from : (d : Dec (j ≡ i)) → T (decide d) → j ≡ i
    from (yes e) t = e
    from (no n) t = absurd t

-- ── what a step made ────────────────────────────────────────────────────────────────────────

-- the upper list where the lists are equal (and, in house mode, plain); or the upper list with the definitions in place
pub data Step (house : Bool) (js is : List Item) : List Item → Type 0 where
  equal : js ≡ is → T (not house || all_b plain js) → Step house js is js
  put : Step house js is (map (replace_item is) js)

pub step : (house : Bool) (m : ℕ) (js is ks : List Item) → merge_step house m js is ≡ some ks → Step house js is ks
unfolding merge_step drops_child
step house m js is ks = go (eq_items js is && (not house || all_b plain js)) (λ t. t) (held m js is || uses_none js)
  where
    go : (b : Bool) → (T b → T (eq_items js is && (not house || all_b plain js))) → (c : Bool) → cond b (some js) (cond c none (some (map (replace_item is) js))) ≡ some ks → Step house js is ks
    go true t c e = let h = halves (eq_items js is) (not house || all_b plain js) (t tt) in subst (Step house js is) (some-injective _ _ e) (equal (eq_items_lem js is h.0) h.1)
    go false t true e = absurd (let z : true ≡ false = cc in true≢false z)
    go false t false e = subst (Step house js is) (some-injective _ _ e) put

-- ── items with the definitions in place ─────────────────────────────────────────────────────

pub item-pair : (c : Pair) (e : Expr) → item_pair (item c e) ≡ c
unfolding item item_pair
item-pair c (col d) = go (eq_p d c)
  where
    go : (b : Bool) → item_pair (cond b (bare c) (named c (col d))) ≡ c
    go true = refl
    go false = refl
item-pair c (lit z) = refl
item-pair c miss = refl
item-pair c (un o a) = refl
item-pair c (bin o a b) = refl

pub item_expr_lem : (c : Pair) (e : Expr) → item_expr (item c e) ≡ e
unfolding item item_expr
item_expr_lem c (col d) = go (eq_p d c) (λ t. t)
  where
    go : (b : Bool) → (T b → T (eq_p d c)) → item_expr (cond b (bare c) (named c (col d))) ≡ col d
    go true t = ap col (sym (eq_p_eq d c (t tt)))
    go false t = refl
item_expr_lem c (lit z) = refl
item_expr_lem c miss = refl
item_expr_lem c (un o a) = refl
item_expr_lem c (bin o a b) = refl

replace-pair : (is : List Item) (j : Item) → item_pair (replace_item is j) ≡ item_pair j
unfolding replace_item item_pair
replace-pair is (bare c) = item-pair c (def_of c is)
replace-pair is (named (pair zero n) e) = item-pair (pair zero n) (define is e)
replace-pair is (named (pair (suc q) n) e) = refl

pub replace_expr : (is : List Item) (j : Item) → item_expr (replace_item is j) ≡ define is (item_expr j)
unfolding replace_item item_expr define replace
replace_expr is (bare c) = item_expr_lem c (def_of c is)
replace_expr is (named (pair zero n) e) = item_expr_lem (pair zero n) (define is e)
replace_expr is (named (pair (suc q) n) e) = refl

pub step-pairs : {house : Bool} {js is ks : List Item} → Step house js is ks → map item_pair ks ≡ map item_pair js
step-pairs (equal e t) = refl
step-pairs {js} {is} put = map-map item_pair (replace_item is) js ∙ map_cong (replace-pair is) js

-- ── references ──────────────────────────────────────────────────────────────────────────────

-- what a reference finds among the pairs has a definition, which is as all of the lower list's are
pub def_as : (P : Expr → Type 0) (c : Pair) (is : List Item) → T (any_b (fits c) (map item_pair is)) → All (λ i. P (item_expr i)) is → P (def_of c is)
unfolding any_b def_of
def_as P c [] t a[] = absurd t
def_as P c (i ∷ is) t (h a∷ hs) = go (fits c (item_pair i)) t (λ t. def_as P c is t hs)
  where
    go : (b : Bool) → T (b || any_b (fits c) (map item_pair is)) → (T (any_b (fits c) (map item_pair is)) → P (def_of c is)) → P (cond b (item_expr i) (def_of c is))
    go true t f = h
    go false t f = f t

define_sees : (fs : List Pair) (is : List Item) → All (λ i. Sees fs (item_expr i)) is → (e : Expr) → T (known (map item_pair is) e) → Sees fs (define is e)
unfolding define replace known definite
define_sees fs is h (col c) t = def_as (Sees fs) c is (subst T (find-any c (map item_pair is)) t) h
define_sees fs is h (lit z) t = record { is_known = tt; is-definite = tt }
define_sees fs is h miss t = record { is_known = tt; is-definite = tt }
define_sees fs is h (un o a) t = let s = define_sees fs is h a t in record { is_known = s.is_known; is-definite = s.is-definite }
define_sees fs is h (bin o a b) t =
    let k = halves (known (map item_pair is) a) (known (map item_pair is) b) t in
    let x = define_sees fs is h a k.0 in
    let y = define_sees fs is h b k.1 in
    record {
      is_known = both-T (known fs (define is a)) (known fs (define is b)) x.is_known y.is_known;
      is-definite = both-T (definite fs (define is a)) (definite fs (define is b)) x.is-definite y.is-definite;
    }

pub step-resolved : {house : Bool} {js is ks : List Item} (fs : List Pair) → Resolved (each_passes (map item_expr js) (map item_pair is)) → Resolved (each_passes (map item_expr is) fs) → Step house js is ks
    → Resolved (each_passes (map item_expr ks) fs)
step-resolved fs t u (equal e p) = subst⁻¹ (λ xs. Resolved (each_passes (map item_expr xs) fs)) e u
step-resolved {js} {is} fs t u put =
    let lower = All_unmapped item_expr is (each_sees (map item_expr is) fs u) in
    let upper = All_unmapped item_expr js (each_sees (map item_expr js) (map item_pair is) t) in
    all_see fs (subst⁻¹ (All (Sees fs)) (map-map item_expr (replace_item is) js)
    (All_mapped _ (λ j k. subst⁻¹ (Sees fs) (replace_expr is j) (define_sees fs is lower (item_expr j) k.is_known)) upper))

-- ── writable items ──────────────────────────────────────────────────────────────────────────

expr_fits : (i : Item) → FitItem i → FitExpr (item_expr i)
unfolding FitItem FitExpr item_expr
expr_fits (bare c) h = h
expr_fits (named c e) h = h.1

def_fits : (c : Pair) {is : List Item} → All FitItem is → FitExpr (def_of c is)
unfolding def_of FitExpr
def_fits c a[] = tt
def_fits c (◌a∷◌ {x = i} {xs = is} h hs) = go (fits c (item_pair i)) (def_fits c hs)
  where
    go : (b : Bool) → FitExpr (def_of c is) → FitExpr (cond b (item_expr i) (def_of c is))
    go true k = expr_fits i h
    go false k = k

define-fits : {is : List Item} → All FitItem is → (e : Expr) → FitExpr e → FitExpr (define is e)
unfolding define replace FitExpr
define-fits h (col c) k = def_fits c h
define-fits h (lit z) k = k
define-fits h miss k = tt
define-fits h (un o a) k = define-fits h a k
define-fits h (bin o a b) k = (define-fits h a k.0, define-fits h b k.1)

item-fits : (c : Pair) (e : Expr) → FitPair c → FitExpr e → FitItem (item c e)
unfolding item FitItem
item-fits c (col d) h k = go (eq_p d c)
  where
    go : (b : Bool) → FitItem (cond b (bare c) (named c (col d)))
    go true = h
    go false = (h, k)
item-fits c (lit z) h k = (h, k)
item-fits c miss h k = (h, k)
item-fits c (un o a) h k = (h, k)
item-fits c (bin o a b) h k = (h, k)

replace-fits : {is : List Item} → All FitItem is → (j : Item) → FitItem j → FitItem (replace_item is j)
unfolding replace_item FitItem
replace-fits {is} h (bare c) k = item-fits c (def_of c is) k (def_fits c h)
replace-fits {is} h (named (pair zero n) e) k = item-fits (pair zero n) (define is e) k.0 (define-fits h e k.1)
replace-fits {is} h (named (pair (suc q) n) e) k = (k.0, define-fits h e k.1)

pub step_fits : {house : Bool} {js is ks : List Item} → All FitItem js → All FitItem is → Step house js is ks → All FitItem ks
step_fits h k (equal e t) = h
step_fits {js} {is} h k put = All_mapped (replace_item is) (replace-fits k) h
