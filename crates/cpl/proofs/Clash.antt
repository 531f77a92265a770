-- Field lists without a clash: no two pairs are equal, and parts of such lists are such lists.
use mathlib.Core.Path.{◌≡◌}
use mathlib.Core.List.{List, [], ◌∷◌, ◌++◌}
use mathlib.Core.Bool.{false, not}
use lib.Dec.{T}
use Rattle.cpl.specs.Tests.{any_b}
use Rattle.cpl.specs.Lists.{All, a[], ◌a∷◌}
use Rattle.cpl.specs.Plan.{Pair, eq_p, JoinType, j_inner, j_left, j_right, j_full, j_lsemi, j_lanti, j_rsemi, j_ranti}
use Rattle.cpl.specs.Fields.{join_fields}
use Rattle.cpl.specs.Accept.{half_named, conflict, clash}
use Rattle.cpl.specs.Accepted.{Clear, n[], ◌n∷◌}
use Rattle.cpl.proofs.Bools.{nor, nor_T, is_false}
use Rattle.cpl.proofs.Lists.{All_left, All_map}

none_of : (f : Pair) (gs : List Pair) → T (not (any_b (conflict f) gs)) → All (λ g. T (not (conflict f g))) gs
unfolding any_b
none_of f [] t = a[]
none_of f (g ∷ gs) t = let h = nor (conflict f g) (any_b (conflict f) gs) t in h.0 a∷ none_of f gs h.1

of_none : (f : Pair) {gs : List Pair} → All (λ g. T (not (conflict f g))) gs → T (not (any_b (conflict f) gs))
unfolding any_b
of_none f a[] = tt
of_none f (◌a∷◌ {x = g} {xs = gs} h hs) = nor_T (conflict f g) (any_b (conflict f) gs) h (of_none f hs)

pub clear : (fs : List Pair) → T (not (clash fs)) → Clear fs
unfolding clash
clear [] t = n[]
clear (f ∷ fs) t = let h = nor (any_b (conflict f) fs) (clash fs) t in none_of f fs h.0 n∷ clear fs h.1

pub no_clash : {fs : List Pair} → Clear fs → T (not (clash fs))
unfolding clash
no_clash n[] = tt
no_clash (◌n∷◌ {f = f} {fs = fs} h hs) = nor_T (any_b (conflict f) fs) (clash fs) (of_none f h) (no_clash hs)

-- the pairs differ
pub differ : (f : Pair) {gs : List Pair} → All (λ g. T (not (conflict f g))) gs → All (λ g. eq_p g f ≡ false) gs
unfolding conflict
differ f hs = All_map (λ g t. is_false (eq_p g f) (nor (eq_p g f) (half_named f g) t).0) hs

pub clear_left : (fl fr : List Pair) → Clear (fl ++ fr) → Clear fl
clear_left [] fr h = n[]
clear_left (f ∷ fl) fr (h n∷ hs) = All_left fl fr h n∷ clear_left fl fr hs

pub clear_right : (fl fr : List Pair) → Clear (fl ++ fr) → Clear fr
clear_right [] fr h = h
clear_right (f ∷ fl) fr (h n∷ hs) = clear_right fl fr hs

pub clear-join : (t : JoinType) (fl fr : List Pair) → Clear (fl ++ fr) → Clear (join_fields t fl fr)
unfolding join_fields
clear-join j_inner fl fr h = h
clear-join j_left fl fr h = h
clear-join j_right fl fr h = h
clear-join j_full fl fr h = h
clear-join j_lsemi fl fr h = clear_left fl fr h
clear-join j_lanti fl fr h = clear_left fl fr h
clear-join j_rsemi fl fr h = clear_right fl fr h
clear-join j_ranti fl fr h = clear_right fl fr h
