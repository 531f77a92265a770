-- The step that merges two projections: document 01's "Merge" and "House mode".
use Rattle.std.proofs.Common.{sym, ap}
use mathlib.Core.HLevel.{Discrete}
use Rattle.std.specs.Prelude.{List, [], ◌∷◌, map, Bool, true, false, cond, not, ◌&&◌, ◌||◌, ℤ, pos, negsuc, eqb, ltb, ℕ, zero, suc, ◌+◌, ◌/◌, ◌%◌, ◌^◌}
use Rattle.std.proofs.Math.Bool.{decide}
use Rattle.std.proofs.Math.Option.{Option, none, some}
use Rattle.std.proofs.Math.IntN.{pos-ne-negsuc}
use Rattle.std.proofs.Math.Decide.{ℕ_discrete}
use Rattle.cpl.specs.Tests.{any_b, all_b, concat_map, sum_of}
use Rattle.cpl.specs.Codes.{tag_of}
use Rattle.cpl.specs.Plan.{Pair, pair, eq_p, Expr, col, lit, miss, un, bin, Item, bare, named, item_pair, item_expr, Item-discrete, Expr-discrete, Pair-discrete, Op1-discrete, Op2-discrete, nameless}
use Rattle.cpl.specs.Exprs.{fits, references, columns?}

-- what a step makes of the upper and the lower list; none: stop
abbrev pub Merge : Type 0
Merge = List Item → List Item → Option (List Item)

-- ── "Equal lists: drop the child." ──────────────────────────────────────────────────────────

unfoldable pub in_z : ℤ → ℕ
in_z (pos n) = n
in_z (negsuc n) = n

unfoldable pub z_d : Discrete ℤ
unfolding in_z
z_d (pos a) (pos b) = elim (ℕ_discrete a b) [ yes e ↦ yes (ap pos e) | no n ↦ no (λ p. n (ap in_z p)) ]
z_d (pos a) (negsuc b) = no (pos-ne-negsuc a b)
z_d (negsuc a) (pos b) = no (λ p. pos-ne-negsuc b a (sym p))
z_d (negsuc a) (negsuc b) = elim (ℕ_discrete a b) [ yes e ↦ yes (ap negsuc e) | no n ↦ no (λ p. n (ap in_z p)) ]

unfoldable pub expr_d : Discrete Expr
expr_d = Expr-discrete (Pair-discrete ℕ_discrete) z_d Op1-discrete Op2-discrete

unfoldable pub item_d : Discrete Item
item_d = Item-discrete (Pair-discrete ℕ_discrete) expr_d

unfoldable pub eq_items : List Item → List Item → Bool
eq_items [] [] = true
eq_items [] (i ∷ is) = false
eq_items (j ∷ js) [] = false
eq_items (j ∷ js) (i ∷ is) = decide (item_d j i) && eq_items js is

-- "the equal-lists step applies only if each item is a bare column or uses no column"
unfoldable pub plain : Item → Bool
plain (bare c) = true
plain (named c e) = not (columns? e)

-- ── "if a column is used more than once over the list and its definition does not push to leaves, stop" ──

-- "the merge counts uses by written pair"
unfoldable pub occurs : Pair → Expr → ℕ
occurs f (col c) = cond (eq_p c f) 1 0
occurs f (lit z) = 0
occurs f miss = 0
occurs f (un o a) = occurs f a
occurs f (bin o a b) = occurs f a + occurs f b

-- how often a pair is written over the whole list
unfoldable pub occurs_in : Pair → List Item → ℕ
occurs_in f js = sum_of (λ j. occurs f (item_expr j)) js

-- "Pushing is read from the 12-bit mask: bit t for a definition whose outermost tag beneath the alias is t."
unfoldable pub pushes : (mask : ℕ) → Expr → Bool
pushes m e = eqb (m / 2 ^ tag_of e % 2) 1

-- "A list that uses no column is not merged."
unfoldable pub uses_none : List Item → Bool
uses_none js = all_b (λ j. not (columns? (item_expr j))) js

-- ── "put each column's definition, stripped of alias, in its place" ─────────────────────────

-- the definition that a reference finds (an accepted plan's reference finds one)
unfoldable pub def_of : Pair → List Item → Expr
def_of c [] = miss
def_of c (i ∷ is) = cond (fits c (item_pair i)) (item_expr i) (def_of c is)

-- each column replaced by what d says of it
unfoldable pub replace : (d : Pair → Expr) → Expr → Expr
replace d (col c) = d c
replace d (lit z) = lit z
replace d miss = miss
replace d (un o a) = un o (replace d a)
replace d (bin o a b) = bin o (replace d a) (replace d b)

unfoldable pub define : (lower : List Item) → Expr → Expr
define is e = replace (λ c. def_of c is) e

-- "aliased only where its expression is not a column of that pair"
unfoldable pub item : Pair → Expr → Item
item c (col d) = cond (eq_p d c) (bare c) (named c (col d))
item c (lit z) = named c (lit z)
item c miss = named c miss
item c (un o a) = named c (un o a)
item c (bin o a b) = named c (bin o a b)

-- "each item keeps its pair", "an item aliased with a nonzero qualifier stays aliased"
unfoldable pub replace_item : List Item → Item → Item
replace_item is (bare c) = item c (def_of c is)
replace_item is (named (pair zero n) e) = item (pair zero n) (define is e)
replace_item is (named (pair (suc q) n) e) = named (pair (suc q) n) (define is e)

-- some pair is written more than once, and the definition that it finds does not push to leaves
unfoldable pub held : (mask : ℕ) (upper lower : List Item) → Bool
held m js is = any_b (λ c. ltb 1 (occurs_in c js) && not (pushes m (def_of c is))) (concat_map (λ j. references (item_expr j)) js)

-- the same, item by item of the lower list: an item whose definition does not push to leaves stops the merge where its pair is written more than once, or
-- its name alone is
abbrev pub stops : (mask : ℕ) (upper : List Item) → Item → Bool
stops m js i = (ltb 1 (occurs_in (item_pair i) js) || ltb 1 (occurs_in (nameless (item_pair i)) js)) && not (pushes m (item_expr i))

-- ── the step ────────────────────────────────────────────────────────────────────────────────

-- "House mode differs in one place: the equal-lists step applies only if each item is a bare column or uses no column"
unfoldable pub drops_child : (house : Bool) (upper lower : List Item) → Bool
drops_child house js is = eq_items js is && (not house || all_b plain js)

unfoldable pub merge_step : (house : Bool) (mask : ℕ) → Merge
merge_step house m js is = cond (drops_child house js is) (some js) (cond (held m js is || uses_none js) none (some (map (replace_item is) js)))
