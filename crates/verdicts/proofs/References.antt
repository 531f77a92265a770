-- The references of a node and the columns of a scan. Assumes nothing.
use mathlib.Core.Path.{◌≡◌, refl, sym, ap, ap₂, subst, ◌∙◌}
use mathlib.Core.Bool.{Bool, true, false, true≢false}
use mathlib.Core.List.{List, [], ◌∷◌, ◌++◌, map}
use mathlib.Core.Option.{Option}
use Prim.Native.Nat.{ℕ, ◌+◌}
use native.Mathlib.Omega.{arith}
use Rattle.std.specs.Prelude.{Ok}
use Rattle.cpl.specs.Accept.{each_passes, binary_passes, on_passes}
use Rattle.cpl.specs.Exprs.{cond_exprs, leaf_exprs}
use Rattle.cpl.specs.Fields.{columns_of, leaf_input, scan_field, table_fields}
use Rattle.cpl.specs.Plan.{Binary, Catalogue, Expr, JoinType, Leaf, On, Pair, Unary, join, keyless, names_of, pair, scan}
use Rattle.cpl.specs.ReadPlan.{h0, h1, h2}
use Rattle.cpl.specs.Tests.{all_b, iota}
use lib.ListN.{length}
use Rattle.tree.specs.Rows.{exprs_at, list_at}
use Rattle.tree.specs.Tree.{head_of, if?}
use Rattle.tree.specs.declared.Node.{Node}
use Rattle.tree.specs.declared.Node.TheVariants.{Projection, Filter, Sort, Limit, Aggregate, Window, SubqueryAlias, Union, Distinct, Join, Scan, Empty}
use Rattle.tree.specs.declared.ScanNode.{ScanNode}
use Rattle.lookup.specs.Answers.{Resolved, resolving, worse}
use Rattle.lookup.specs.Fields.{Filled, RowIn, left_row, row_at}
use Rattle.lookup.specs.declared.Sides.{Sides}
use Rattle.lookup.proofs.Resolving.{seen, worse-both, worse-fine}
use Rattle.parts.specs.Catalogue.{catalogue_at, table_at}
use Rattle.parts.proofs.Exprs.{seen_one}
use Rattle.parts.proofs.Tables.{catalogue_at_lem, scan-table}
use Rattle.verdicts.specs.Heads.{passes_head}
use Rattle.verdicts.specs.Nodes.{Looked, Named, SidesReady, parts}
use Rattle.verdicts.proofs.Rowed.{below-filled, below-same, sides_clear}

pub passes_at : {n m : Node} (cells rows : List ℕ) (fl fr : List Pair) → n ≡ m → resolving (passes_head (head_of (parts cells rows) m) fl fr) ≡ resolving (passes_head (head_of (parts cells rows) n) fl fr)
passes_at cells rows fl fr e = ap (λ n. resolving (passes_head (head_of (parts cells rows) n) fl fr)) (sym e)

-- a join: its pairs, and its condition, if it has one
module _ (t : JoinType) (os : List On) (e : Expr) (fl fr : List Pair) where
  pub join_with : {b : Bool} {x y z : Resolved} → b ≡ true → x ≡ resolving (λ test. all_b (on_passes fl fr test) os) → y ≡ seen (fl ++ fr) e → z ≡ worse x y → z ≡ resolving (binary_passes (join t os (if? b e)) fl fr)
  unfolding binary_passes cond_exprs
  join_with h p q w =
      w ∙ ap₂ worse p (q ∙ seen_one (fl ++ fr) e) ∙ worse-both (λ test. all_b (on_passes fl fr test) os) (each_passes (e ∷ []) (fl ++ fr)) ∙ ap (λ b. resolving (binary_passes (join t os (if? b e)) fl fr)) (sym h)

  pub join-without : {b : Bool} {x : Resolved} → b ≡ false → x ≡ resolving (λ test. all_b (on_passes fl fr test) os) → x ≡ resolving (binary_passes (join t os (if? b e)) fl fr)
  unfolding binary_passes cond_exprs all_b
  join-without {x = x} h p =
      sym (worse-fine x) ∙ ap (λ y. worse y (Ok tt)) p ∙ worse-both (λ test. all_b (on_passes fl fr test) os) (λ test. true) ∙ ap (λ b. resolving (binary_passes (join t os (if? b e)) fl fr)) (sym h)

-- the columns of a scan
pub columns-given : (T xs : List ℕ) {b : Bool} → b ≡ true → xs ≡ columns_of T (if? b xs)
unfolding columns_of
columns-given T xs e = ap (λ b. columns_of T (if? b xs)) (sym e)

pub columns-all : (T xs : List ℕ) {b : Bool} → b ≡ false → iota 0 (length T) ≡ columns_of T (if? b xs)
unfolding columns_of
columns-all T xs e = ap (λ b. columns_of T (if? b xs)) (sym e)

-- ── what expressions are over ───────────────────────────────────────────────────────────────

-- a node whose expressions are over its inputs, or that has none
module _ {C : Catalogue} {free most : ℕ} {x : Sides} {s : List ℕ} (o : SidesReady s free most x) where
  pub looked_one : (h : Unary) → Looked C free (h1 h) x x s s
  looked_one h = record { clear = sides_clear o; kept = below-same free s; passes = refl }

  pub looked_two : (h : Binary) → Looked C free (h2 h) x x s s
  looked_two h = record { clear = sides_clear o; kept = below-same free s; passes = refl }

  pub looked_none : (h : Leaf) → leaf_exprs h ≡ [] → Looked C free (h0 h) x x s s
  unfolding all_b
  looked_none h e = record { clear = sides_clear o; kept = below-same free s; passes = ap (λ es. each_passes es (left_row s x)) e ∙ sym (ap (λ es. each_passes es (leaf_input C h)) e) }

  -- any node but a scan
  pub looked_other : (cells rows : List ℕ) (n : Node) → ((m : ScanNode) → n ≡ Scan m → ⊥) → Looked C free (head_of (parts cells rows) n) x x s s
  unfolding leaf_exprs
  looked_other cells rows (Projection f n) a = looked_one _
  looked_other cells rows (Filter r) a = looked_one _
  looked_other cells rows (Sort f n) a = looked_one _
  looked_other cells rows (Limit y n) a = looked_one _
  looked_other cells rows (Aggregate f g v) a = looked_one _
  looked_other cells rows (Window f n) a = looked_one _
  looked_other cells rows (SubqueryAlias q) a = looked_one _
  looked_other cells rows (Union r) a = looked_two _
  looked_other cells rows Distinct a = looked_one _
  looked_other cells rows (Join j) a = looked_two _
  looked_other cells rows (Scan m) a = absurd (a m refl)
  looked_other cells rows (Empty b f n) a = looked_none _ refl

-- a scan without filters
pub no_filters : (rows cells : List ℕ) (f n : ℕ) (t q : ℕ) (is : Option (List ℕ)) → n ≡ 0 → leaf_exprs (scan t q is (exprs_at rows cells f n)) ≡ []
unfolding leaf_exprs list_at
no_filters rows cells f n t q is e = ap (exprs_at rows cells f) e

-- a scan's table
module _ {C : Catalogue} {free : ℕ} {x y : Sides} {s s' : List ℕ} where
  pub looked_table : (names : List ℕ) (t q : ℕ) (is : Option (List ℕ)) (es : List Expr) {width : ℕ} → names_of C t ≡ table_at names t → width ≡ length (table_at names t)
      → (y.left ≡ free) × (y.lwidth ≡ width) × (y.right ≡ free) × (y.rwidth ≡ 0) × (y.clear ≡ false) → RowIn s free (length (table_at names t))
      → Filled free (length (table_at names t)) (map (scan_field (table_at names t) q) (iota 0 (length (table_at names t)))) s s' → Looked C free (h0 (scan t q is es)) x y s s'
  unfolding leaf_exprs leaf_input table_fields
  looked_table names t q is es {width} named w e room f =
      let no : y.clear ≡ true → ⊥ = λ z. true≢false (sym z ∙ e.4) in
      record {
        clear = record {
          left_clear = record { inside = omega (arith, e.0, e.1, w, room, f.kept.long); clear = λ z. absurd (no z) };
          right_clear = record { inside = omega (arith, e.2, e.3, room, f.kept.long); clear = λ z. absurd (no z) };
        };
        kept = below-filled f;
        passes = ap (each_passes es) (ap₂ (row_at s') e.0 (e.1 ∙ w) ∙ f.row ∙ scan-table (table_at names t) q ∙ ap (map (pair q)) (sym named));
      }

pub looked_at : {C : Catalogue} {free : ℕ} {n m : Node} {x y : Sides} {s s' : List ℕ} (cells rows : List ℕ) → n ≡ m → Looked C free (head_of (parts cells rows) m) x y s s' → Looked C free (head_of (parts cells rows) n) x y s s'
looked_at {C} {free} {x = x} {y} {s} {s'} cells rows e l = subst (λ k. Looked C free (head_of (parts cells rows) k) x y s s') (sym e) l

-- some catalogue has the table of a scan
pub some-catalogue : (names : List ℕ) (n : Node) → (C : Catalogue) × Named C names n
some-catalogue names (Projection f n) = (keyless [], tt)
some-catalogue names (Filter r) = (keyless [], tt)
some-catalogue names (Sort f n) = (keyless [], tt)
some-catalogue names (Limit s n) = (keyless [], tt)
some-catalogue names (Aggregate f g v) = (keyless [], tt)
some-catalogue names (Window f n) = (keyless [], tt)
some-catalogue names (SubqueryAlias q) = (keyless [], tt)
some-catalogue names (Union r) = (keyless [], tt)
some-catalogue names Distinct = (keyless [], tt)
some-catalogue names (Join j) = (keyless [], tt)
some-catalogue names (Scan s) = (keyless (catalogue_at names (s.table + 1)), catalogue_at_lem names (s.table + 1) s.table (omega arith))
some-catalogue names (Empty b f n) = (keyless [], tt)
