-- The fields of a node, kind by kind. Assumes nothing.
use mathlib.Core.Path.{◌≡◌, refl, sym, ap, ap₂, ◌∙◌}
use mathlib.Core.Bool.{Bool, true, false, cond, true≢false}
use mathlib.Core.List.{List, ◌∷◌, ◌++◌, map}
use Prim.Native.Nat.{ℕ, zero, suc, ◌+◌}
use native.Mathlib.Omega.{arith}
use lib.Dec.{eqb}
use lib.ListN.{length}
use Rattle.cpl.specs.Accept.{even, together}
use Rattle.cpl.specs.Fields.{binary_fields, columns_of, leaf_fields, scan_field}
use Rattle.cpl.specs.Plan.{Catalogue, Expr, Pair, agg_pair, bare, item_pair, named, names_of, scan, win_pair}
use Rattle.arena.specs.Cells.{expr_at}
use Rattle.arena.specs.Rows.{item_at, items_at, mark_at, pair_at, root_at, row_item}
use Rattle.tree.specs.Rows.{agg_at, aggs_at, list_at, one, pairs_at, win_at, win_size, wins_at}
use Rattle.tree.specs.Tree.{Arrays, head_of, if?, lent}
use Rattle.tree.specs.declared.Node.{Node}
use Rattle.tree.specs.declared.Node.TheVariants.{Projection, Filter, Sort, Limit, Aggregate, Window, SubqueryAlias, Union, Distinct, Join, Scan, Empty}
use Rattle.lookup.proofs.Lists.{list_append, list-map}
use Rattle.verdicts.specs.Heads.{even_head, fields_head, together_head}
use Rattle.lookup.specs.Fields.{left_row, right_row}
use Rattle.lookup.specs.declared.Sides.{Sides}
use Rattle.cpl.specs.ReadPlan.{Head}
use Rattle.verdicts.specs.Nodes.{KeptBelow, Rowed, SidesReady, even_of, joins, parts}
use Rattle.verdicts.specs.declared.Row.{Row}
use Rattle.verdicts.proofs.Rowed.{below_then, left_after, right-after, row-length, rowed_is}

pub fields_at : {n m : Node} (C : Catalogue) (cells rows : List ℕ) (fl fr : List Pair) → n ≡ m → fields_head C (head_of (parts cells rows) m) fl fr ≡ fields_head C (head_of (parts cells rows) n) fl fr
fields_at C cells rows fl fr e = ap (λ n. fields_head C (head_of (parts cells rows) n) fl fr) (sym e)

item-pair : (m : ℕ) (c : Pair) (e : Expr) → item_pair (row_item m c e) ≡ c
unfolding item_pair row_item
item-pair m c e = go (eqb m 0)
  where
    go : (b : Bool) → item_pair (cond b (bare c) (named c e)) ≡ c
    go true = refl
    go false = refl

pub items-pairs : (s cells : List ℕ) (f n : ℕ) → pairs_at s f n ≡ map item_pair (items_at s cells f n)
unfolding item_at list_at items_at
items-pairs s cells f zero = refl
items-pairs s cells f (suc n) =
    let e : f + 1 ≡ suc f = omega arith in
    ap₂ ◌∷◌ (sym (item-pair (mark_at s f) (pair_at s f) (expr_at cells (root_at s f)))) (ap (λ x. pairs_at s x n) e ∙ items-pairs s cells (suc f) n)

pub aggs_pairs : (s cells : List ℕ) (f g v : ℕ) → pairs_at s f (g + v) ≡ map item_pair (items_at s cells f g) ++ map agg_pair (aggs_at s cells (f + g) v)
unfolding agg_pair agg_at
aggs_pairs s cells f g v = list_append (pair_at s) f g v ∙ ap₂ ◌++◌ (items-pairs s cells f g) (sym (list-map agg_pair (agg_at s cells) one (f + g) v))

pub wins_pairs : (s cells : List ℕ) (f n : ℕ) → list_at (pair_at s) (win_size s) f n ≡ map win_pair (wins_at s cells f n)
unfolding win_pair win_at
wins_pairs s cells f n = sym (list-map win_pair (win_at s cells) (win_size s) f n)

pub scan-fields : (C : Catalogue) (T : List ℕ) (t q : ℕ) (b : Bool) (xs : List ℕ) (es : List Expr) → names_of C t ≡ T → map (scan_field T q) (columns_of T (if? b xs)) ≡ leaf_fields C (scan t q (if? b xs) es)
unfolding leaf_fields
scan-fields C T t q b xs es e = ap (λ U. map (scan_field U q) (columns_of U (if? b xs))) (sym e)

-- ── what else is asked of a node ────────────────────────────────────────────────────────────

module _ (a : Arrays) (fl fr : List Pair) where
  pub even_is : (n : Node) → even_of n (length fl) (length fr) ≡ even_head (head_of a n) fl fr
  unfolding even
  even_is (Projection f n) = refl
  even_is (Filter r) = refl
  even_is (Sort f n) = refl
  even_is (Limit s n) = refl
  even_is (Aggregate f g v) = refl
  even_is (Window f n) = refl
  even_is (SubqueryAlias q) = refl
  even_is (Union r) = refl
  even_is Distinct = refl
  even_is (Join j) = refl
  even_is (Scan s) = refl
  even_is (Empty b f n) = refl

  no : {A : Type 0} → true ≡ false → A
  no e = absurd (true≢false e)

  pub together-join : (C : Catalogue) (n : Node) → joins n ≡ true → fl ++ fr ≡ together_head C (head_of a n) fl fr
  unfolding together
  together-join C (Projection f n) e = no (sym e)
  together-join C (Filter r) e = no (sym e)
  together-join C (Sort f n) e = no (sym e)
  together-join C (Limit s n) e = no (sym e)
  together-join C (Aggregate f g v) e = no (sym e)
  together-join C (Window f n) e = no (sym e)
  together-join C (SubqueryAlias q) e = no (sym e)
  together-join C (Union r) e = no (sym e)
  together-join C Distinct e = no (sym e)
  together-join C (Join j) e = refl
  together-join C (Scan s) e = no (sym e)
  together-join C (Empty b f n) e = no (sym e)

  pub together-own : (C : Catalogue) (n : Node) → joins n ≡ false → fields_head C (head_of a n) fl fr ≡ together_head C (head_of a n) fl fr
  unfolding together binary_fields
  together-own C (Projection f n) e = refl
  together-own C (Filter r) e = refl
  together-own C (Sort f n) e = refl
  together-own C (Limit s n) e = refl
  together-own C (Aggregate f g v) e = refl
  together-own C (Window f n) e = refl
  together-own C (SubqueryAlias q) e = refl
  together-own C (Union r) e = refl
  together-own C Distinct e = refl
  together-own C (Join j) e = no e
  together-own C (Scan s) e = refl
  together-own C (Empty b f n) e = refl

pub even_sides : (a : Arrays) (s : List ℕ) (x : Sides) (n : Node) → even_of n x.lwidth x.rwidth ≡ even_head (head_of a n) (left_row s x) (right_row s x)
even_sides a s x n = ap₂ (even_of n) (sym (row-length s x.left x.lwidth)) (sym (row-length s x.right x.rwidth)) ∙ even_is a (left_row s x) (right_row s x) n

-- a node's head needs no other nodes
pub head-same : (cells rows x y : List ℕ) (n : Node) → head_of (lent cells rows x) n ≡ head_of (lent cells rows y) n
head-same cells rows x y (Projection f n) = refl
head-same cells rows x y (Filter r) = refl
head-same cells rows x y (Sort f n) = refl
head-same cells rows x y (Limit s n) = refl
head-same cells rows x y (Aggregate f g v) = refl
head-same cells rows x y (Window f n) = refl
head-same cells rows x y (SubqueryAlias q) = refl
head-same cells rows x y (Union r) = refl
head-same cells rows x y Distinct = refl
head-same cells rows x y (Join j) = refl
head-same cells rows x y (Scan s) = refl
head-same cells rows x y (Empty b f n) = refl

-- a row over the sides as they were before what lies above them was written
pub rowed_since : (C : Catalogue) (h : Head) {free most : ℕ} {x : Sides} {r : Row} {s s₁ s₂ : List ℕ} → SidesReady s free most x → KeptBelow free s s₁ → Rowed free most r (fields_head C h (left_row s₁ x) (right_row s₁ x)) s₁ s₂
    → Rowed free most r (fields_head C h (left_row s x) (right_row s x)) s s₂
rowed_since C h o p w =
    let v = rowed_is w (ap₂ (fields_head C h) (left_after o p) (right-after o p)) in
    record { long = v.long; kept = below_then p v.kept; stored = v.stored }
