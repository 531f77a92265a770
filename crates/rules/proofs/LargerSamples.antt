-- What a larger request does, on two small plans: it may read a scan more; and it may keep a field less, so that nothing is said of kept fields.
use mathlib.Core.Path.{◌≡◌, refl}
use mathlib.Core.List.{[], ◌∷◌}
use mathlib.Core.Bool.{true, false}
use mathlib.Core.Option.{none, some}
use Rattle.cpl.specs.Lists.{z[], ◌z∷◌}
use Rattle.cpl.specs.Plan.{pair, bare, rows, agg, win, j_inner, scan, empty, projection, aggregate, window, join, Plan, leaf, unary, binary, Catalogue, keyless}
use Rattle.rules.specs.Mask.{Mask, LeM}
use Rattle.rules.specs.Merge.{Merge, merge_step}
use Rattle.rules.specs.Rewrite.{rewrite}
use Rattle.rules.specs.Scans.{scans_under}
use Rattle.rules.specs.Computes.{rules_computes}

-- one table with two names
abbrev catalogue : Catalogue
catalogue = keyless ((1 ∷ 2 ∷ []) ∷ [])

-- ── a scan more ─────────────────────────────────────────────────────────────────────────────

-- Join(inner) of a Projection of the columns 2 and 1 over a scan, and of the row count of another scan: nodes 0, 1 and 2, 3 and 4
abbrev joined : Plan
joined =
    binary (join j_inner [] none) (unary (projection (bare (pair 1 2) ∷ bare (pair 1 1) ∷ [])) (leaf (scan 0 1 none [])))
    (unary (aggregate [] (agg (pair 0 7) rows ∷ [])) (leaf (scan 0 2 none [])))

-- of the fields q1.c2, q1.c1 and c7: for the first, the second scan goes, and its number is not reused
pub one-scan : scans_under (merge_step true 0) catalogue joined (true ∷ false ∷ false ∷ []) ≡ record { number = 2; head = scan 0 1 (some (1 ∷ [])) [] } ∷ []
unfolding rules_computes
one-scan = refl

-- for the last, only the second scan is needed, and yet the first is read, with no column
pub last-field : scans_under (merge_step true 0) catalogue joined (false ∷ false ∷ true ∷ []) ≡ record { number = 2; head = scan 0 1 (some []) [] } ∷ record { number = 4; head = scan 0 2 (some []) [] } ∷ []
unfolding rules_computes
last-field = refl

pub two-scans : scans_under (merge_step true 0) catalogue joined (true ∷ false ∷ true ∷ []) ≡ record { number = 2; head = scan 0 1 (some (1 ∷ [])) [] } ∷ record { number = 4; head = scan 0 2 (some []) [] } ∷ []
unfolding rules_computes
two-scans = refl

-- ── a field less ────────────────────────────────────────────────────────────────────────────

-- Window(row number as c2) over an Empty with the field c1
abbrev counted : Plan
counted = unary (window (win (pair 0 2) rows [] [] ∷ [])) (leaf (empty true (pair 0 1 ∷ [])))

-- for no field the window goes and c1 stays, as there is no top-up; for c2 the window is topped up, and c1 goes
pub kept_for_none : (rewrite (merge_step true 0) catalogue counted (false ∷ false ∷ [])).kept ≡ true ∷ false ∷ []
unfolding rules_computes
kept_for_none = refl

pub kept_for_more : (rewrite (merge_step true 0) catalogue counted (false ∷ true ∷ [])).kept ≡ false ∷ true ∷ []
unfolding rules_computes
kept_for_more = refl

-- so the kept fields do not grow with the request
pub kept_may_shrink : ((M : Merge) (C : Catalogue) (p : Plan) (R R' : Mask) → LeM R R' → LeM (rewrite M C p R).kept (rewrite M C p R').kept) → ⊥
unfolding rules_computes
kept_may_shrink h = first (h (merge_step true 0) catalogue counted (false ∷ false ∷ []) (false ∷ true ∷ []) (tt z∷ (tt z∷ z[])))
  where
    first : LeM (true ∷ false ∷ []) (false ∷ true ∷ []) → ⊥
    first (t z∷ ts) = t
