-- Narrowed fields: what is known stays known where the mask covers it, what is definite stays definite, and no clash arises.
use mathlib.Core.Path.{◌≡◌, refl, ◌∙◌, ap, subst, subst⁻¹}
use mathlib.Core.List.{List, [], ◌∷◌, map}
use mathlib.Core.Bool.{Bool, true, false}
use Prim.Native.Nat.{◌≤◌}
use native.Mathlib.Omega.{arith}
use lib.Dec.{T, leb→le, le→leb}
use Rattle.cpl.specs.Lists.{All, a[], ◌a∷◌}
use Rattle.cpl.specs.Plan.{Pair, Expr, col, lit, miss, un, bin, bare, item_pair, item_expr}
use Rattle.cpl.specs.Exprs.{fits, find, present, fitting, known, definite, references}
use Rattle.cpl.specs.Accept.{each_passes}
use Rattle.cpl.specs.Accepted.{Clear, n[], ◌n∷◌, Resolved}
use Rattle.cpl.proofs.Bools.{halves, both-T}
use Rattle.cpl.proofs.Lists.{All_map, All_both, All_left, All_right, All_mapped, map-map, map_id}
use Rattle.cpl.proofs.Lookup.{find-here, find_past, present-next, fitting-none, fitting-here, fitting-past, own-found, own-fits}
use Rattle.cpl.proofs.Accepted.{Sees, each_sees, all_see}
use Rattle.rules.specs.Mask.{Mask, select}
use Rattle.rules.proofs.Masks.{All_select}
use Rattle.rules.proofs.Covers.{KeepsFirst, h[], here, past, Covers, Cov}

-- ── references over narrowed fields ─────────────────────────────────────────────────────────

-- what finds a field still finds one where that field is kept
find-select : (c : Pair) {fs : List Pair} {K : Mask} → KeepsFirst c fs K → T (present (find c fs)) → T (present (find c (select K fs)))
unfolding select
find-select c h[] t = t
find-select c (here {f = f} {fs = fs} {ks = K} e fit) t = subst⁻¹ (λ o. T (present o)) (find-here c f (select K fs) e) (unfold present in tt)
find-select c (past {f = f} {k = true} {fs = fs} {ks = K} e h) t =
    subst⁻¹ T (ap present (find_past c f (select K fs) e) ∙ present-next _) (find-select c h (subst T (ap present (find_past c f fs e) ∙ present-next _) t))
find-select c (past {f = f} {k = false} {fs = fs} e h) t = find-select c h (subst T (ap present (find_past c f fs e) ∙ present-next _) t)

-- no more of them fit
fitting-select : (c : Pair) (K : Mask) (fs : List Pair) → fitting c (select K fs) ≤ fitting c fs
unfolding select
fitting-select c [] fs = rw (fitting-none c) (omega arith)
fitting-select c (k ∷ K) [] = omega arith
fitting-select c (true ∷ K) (f ∷ fs) = go (fits c f) refl (fitting-select c K fs)
  where
    go : (b : Bool) → fits c f ≡ b → fitting c (select K fs) ≤ fitting c fs → fitting c (f ∷ select K fs) ≤ fitting c (f ∷ fs)
    go true e h = rw (fitting-here c f (select K fs) e, fitting-here c f fs e) (omega arith)
    go false e h = rw (fitting-past c f (select K fs) e, fitting-past c f fs e) h
fitting-select c (false ∷ K) (f ∷ fs) = go (fits c f) refl (fitting-select c K fs)
  where
    go : (b : Bool) → fits c f ≡ b → fitting c (select K fs) ≤ fitting c fs → fitting c (select K fs) ≤ fitting c (f ∷ fs)
    go true e h = rw (fitting-here c f fs e) (omega arith)
    go false e h = rw (fitting-past c f fs e) h

module _ (K : Mask) (fs : List Pair) where
  pub known-select : (e : Expr) → Covers e fs K → T (known fs e) → T (known (select K fs) e)
  unfolding known references
  known-select (col c) (h a∷ a[]) t = find-select c h t
  known-select (lit z) v t = tt
  known-select miss v t = tt
  known-select (un o a) v t = known-select a v t
  known-select (bin o a b) v t =
      let h = halves (known fs a) (known fs b) t in both-T (known (select K fs) a) (known (select K fs) b) (known-select a (All_left (references a) (references b) v) h.0) (known-select b (All_right (references a) (references b) v) h.1)

  pub definite-select : (e : Expr) → T (definite fs e) → T (definite (select K fs) e)
  unfolding definite
  definite-select (col c) t = le→leb (fitting c (select K fs)) 1 (let h = fitting-select c K fs in let k = leb→le (fitting c fs) 1 t in omega arith)
  definite-select (lit z) t = tt
  definite-select miss t = tt
  definite-select (un o a) t = definite-select a t
  definite-select (bin o a b) t =
      let h = halves (definite fs a) (definite fs b) t in both-T (definite (select K fs) a) (definite (select K fs) b) (definite-select a h.0) (definite-select b h.1)

  sees_select : (e : Expr) → Covers e fs K → Sees fs e → Sees (select K fs) e
  sees_select e v s = record { is_known = known-select e v s.is_known; is-definite = definite-select e s.is-definite }

-- each reference of the expressions finds one field, and so over the narrowed fields
pub resolved-select : (es : List Expr) {fs : List Pair} {K : Mask} → Cov es fs K → Resolved (each_passes es fs) → Resolved (each_passes es (select K fs))
resolved-select es {fs} {K} v r = all_see (select K fs) (All_map (λ e h. sees_select K fs e h.0 h.1) (All_both v (each_sees es fs r)))

-- ── columns of the fields themselves ────────────────────────────────────────────────────────

own_sees : {gs : List Pair} → Clear gs → All (λ c. Sees gs (col c)) gs
unfolding known definite
own_sees {gs} k = All_map (λ c h. record { is_known = h.0; is-definite = le→leb (fitting c gs) 1 (let n = h.1 in omega arith) }) (All_both (own-found gs) (own-fits k))

-- a projection of some of the fields, as columns, finds them, where they do not clash
pub own-resolved : (M : Mask) {gs : List Pair} → Clear gs → Resolved (each_passes (map item_expr (map bare (select M gs))) gs)
unfolding item_expr
own-resolved M {gs} k = all_see gs (subst⁻¹ (All (Sees gs)) (map-map item_expr bare (select M gs)) (All_mapped col (λ c s. s) (All_select M (own_sees k))))

pub bare-fields : (cs : List Pair) → map item_pair (map bare cs) ≡ cs
unfolding item_pair
bare-fields cs = map-map item_pair bare cs ∙ map_id cs

pub clear-select : (K : Mask) {fs : List Pair} → Clear fs → Clear (select K fs)
unfolding select
clear-select [] h = n[]
clear-select (k ∷ K) n[] = n[]
clear-select (true ∷ K) (h n∷ hs) = All_select K h n∷ clear-select K hs
clear-select (false ∷ K) (h n∷ hs) = clear-select K hs
