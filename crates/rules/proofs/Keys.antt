-- Without keys the rules are document 01's.
use mathlib.Core.Path.{◌≡◌, refl, ◌∙◌, ap, ap₂}
use mathlib.Core.List.{List, [], ◌++◌, map}
use mathlib.Core.Bool.{Bool, true}
use mathlib.Core.Option.{Option, some}
use lib.ListN.{length, drop}
use Rattle.cpl.specs.Tests.{all_b}
use Rattle.cpl.specs.Plan.{Pair, Item, Agg, Leaf, scan, empty, Unary, projection, filter, sort, limit, aggregate, window, subquery_alias, distinct, Plan, leaf, unary, binary, Catalogue, names_of}
use Rattle.cpl.specs.Fields.{columns_of, fields_of}
use Rattle.cpl.proofs.Lists.{map-map, fit_self}
use Rattle.rules.specs.Mask.{Mask, select, ones}
use Rattle.rules.specs.Keys.{places_of, has_all, carried, declared, leaf_key, unary_key, key_of, kept_groups}
use Rattle.rules.specs.Rules.{aggregate_job, unary_job}
use Rattle.rules.specs.Merge.{Merge}
use Rattle.rules.specs.Rewrite.{unary_walk, walk}
use Rattle.rules.proofs.Masks.{select-ones}

-- ── "version 1 keeps the old rule" ──────────────────────────────────────────────────────────

leaf-plain : (C : Catalogue) → C.keys ≡ [] → (h : Leaf) → leaf_key C h ≡ []
unfolding leaf_key carried has_all all_b declared
leaf-plain C e (scan t q is es) = ap (λ ks. carried (declared ks t) (map some (columns_of (names_of C t) is))) e
leaf-plain C e (empty b cs) = refl

unary-plain : (h : Unary) (fs : List Pair) → unary_key h fs [] ≡ []
unfolding unary_key carried has_all all_b
unary-plain (projection is) fs = refl
unary-plain (filter e) fs = refl
unary-plain (sort ks) fs = refl
unary-plain (limit s n) fs = refl
unary-plain (aggregate gs vs) fs = refl
unary-plain (window ws) fs = refl
unary-plain (subquery_alias q) fs = refl
unary-plain distinct fs = refl

-- where no table declares a key, no plan has one
pub no_key : (C : Catalogue) → C.keys ≡ [] → (p : Plan) → key_of C p ≡ []
unfolding key_of
no_key C e (leaf h) = leaf-plain C e h
no_key C e (unary h p) = ap (unary_key h (fields_of C p)) (no_key C e p) ∙ unary-plain h (fields_of C p)
no_key C e (binary h p₁ p₂) = refl

pub plain_walk : (M : Merge) (C : Catalogue) → C.keys ≡ [] → (h : Unary) (p : Plan) (q : Option (List Item)) → walk M C (unary h p) q ≡ unary_walk M C h [] (fields_of C p) (λ q b R. walk M C p q b R) q
unfolding walk
plain_walk M C e h p q = ap (λ key. unary_walk M C h key (fields_of C p) (λ q b R. walk M C p q b R) q) (no_key C e p)

pub ones-places : (fs : List Pair) (gs : List Item) → ones (places_of fs gs) ≡ ones gs
unfolding ones places_of
ones-places fs gs = map-map (λ p. true) _ gs

-- "Aggregate. All groups stay; aggregates are taken at the request."
pub plain-aggregate : (C : Catalogue) (gs : List Item) (vs : List Agg) (fs : List Pair) (b : Bool) (R : Mask)
    → let A = drop (length gs) R in unary_job C (aggregate gs vs) [] fs b R ≡ aggregate_job gs (select A vs) fs (ones gs ++ A)
unfolding unary_job kept_groups
plain-aggregate C gs vs fs b R = let A = drop (length gs) R in ap₂ (λ us M. aggregate_job us (select A vs) fs (M ++ A)) (ap (λ M. select M gs) (ones-places fs gs) ∙ select-ones (fit_self gs)) (ones-places fs gs)
