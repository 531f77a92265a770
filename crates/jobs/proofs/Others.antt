-- The pass over a node that is no projection runs the job of its rule. Assumes nothing.
use mathlib.Core.Path.{◌≡◌, refl}
use mathlib.Core.List.{List}
use mathlib.Core.Option.{Option}
use Prim.Native.Nat.{ℕ}
use Rattle.cpl.specs.Plan.{Catalogue, Item, Pair, Unary, aggregate, distinct, filter, limit, projection, sort, subquery_alias, window}
use Rattle.rules.specs.Merge.{Merge}
use Rattle.rules.specs.Rewrite.{Go, node_walk, unary_walk}
use Rattle.jobs.specs.Job.{NoProjection}

module _ (M : Merge) (C : Catalogue) (key : List ℕ) (fs : List Pair) (go : Option (List Item) → Go) (q : Option (List Item)) where
  pub other-walk : (h : Unary) → NoProjection h → unary_walk M C h key fs go q ≡ node_walk C h key fs go q
  unfolding unary_walk
  other-walk (projection is) o = absurd o
  other-walk (filter e) o = refl
  other-walk (sort ks) o = refl
  other-walk (limit s n) o = refl
  other-walk (aggregate gs vs) o = refl
  other-walk (window ws) o = refl
  other-walk (subquery_alias x) o = refl
  other-walk distinct o = refl
