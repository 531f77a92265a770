-- Node by node: what a tree says of a node is what code needs to judge it. Assumes nothing.
use mathlib.Core.Path.{◌≡◌, sym, ap, subst, ◌∙◌}
use mathlib.Core.Bool.{true}
use mathlib.Core.List.{List, []}
use Prim.Native.Nat.{ℕ, zero, suc, ◌+◌, ◌<◌, ◌≤◌}
use native.Mathlib.Decide.{ℕ_discrete}
use native.Mathlib.Omega.{arith}
use lib.ListN.{length, get_or}
use Rattle.cpl.specs.Lists.{All, ◌a∷◌}
use Rattle.cpl.specs.Plan.{Catalogue, Expr, names_of}
use Rattle.cpl.specs.ReadPlan.{Head, h0, h1, h2}
use Rattle.cpl.specs.Writable.{FitCatalogue, FitColumns, FitLeaf, FitList, FitPlan}
use Rattle.cpl.proofs.CatalogueTrip.{few-columns}
use Rattle.versions.proofs.Small.{small}
use Rattle.arena.specs.Rows.{RowsOk}
use Rattle.tree.specs.Rows.{AggOk, AllAt, EachOk, Inside, WinOk, columns_at, exprs_at, list_at, number_at, one, win_size}
use Rattle.tree.specs.Shows.{Stands}
use Rattle.tree.specs.Tree.{Arrays, PartsOk, head_of, if?, lent, plan_at}
use Rattle.tree.specs.declared.Node.{Node}
use Rattle.tree.specs.declared.Node.TheVariants.{Projection, Filter, Sort, Limit, Aggregate, Window, SubqueryAlias, Union, Distinct, Join, Scan, Empty}
use Rattle.tree.specs.declared.ScanNode.{ScanNode}
use Rattle.lookup.proofs.Lists.{list_length}
use Rattle.parts.specs.Catalogue.{NamesOk, catalogue_at, table_at}
use Rattle.parts.specs.Parts.{WinInside}
use Rattle.parts.proofs.Tables.{catalogue_at_lem, catalogue-length}
use Rattle.verdicts.specs.Nodes.{Named, NodeInside, ScanInside}

-- from k on: it is k, or from k + 1 on
pub from_on : (P : ℕ → Type 0) (k j : ℕ) → k ≤ j → P k → (k + 1 ≤ j → P j) → P j
from_on P k j h p f = elim (ℕ_discrete j k) [ yes e ↦ subst P (sym e) p | no n ↦ f (omega arith) ]

-- what can be written of a node that is a leaf
abbrev pub FitHead : Catalogue → Head → Type 0
FitHead C (h0 h) = FitLeaf C h
FitHead C (h1 h) = Unit {0}
FitHead C (h2 h) = Unit {0}

pub fit-head : (C : Catalogue) (a : Arrays) (count k right : ℕ) (h : Head) → Stands a count k right h → FitPlan C (plan_at a k) → FitHead C h
unfolding FitPlan
fit-head C a count k right (h0 h) e f = subst (FitPlan C) e f
fit-head C a count k right (h1 h) e f = tt
fit-head C a count k right (h2 h) e f = tt

pub parts_same : (cells rows x y : List ℕ) (n : Node) → PartsOk (lent cells rows x) n → PartsOk (lent cells rows y) n
parts_same cells rows x y (Projection f n) o = o
parts_same cells rows x y (Filter r) o = o
parts_same cells rows x y (Sort f n) o = o
parts_same cells rows x y (Limit s n) o = o
parts_same cells rows x y (Aggregate f g v) o = o
parts_same cells rows x y (Window f n) o = o
parts_same cells rows x y (SubqueryAlias q) o = o
parts_same cells rows x y (Union r) o = o
parts_same cells rows x y Distinct o = o
parts_same cells rows x y (Join j) o = o
parts_same cells rows x y (Scan s) o = o
parts_same cells rows x y (Empty b f n) o = o

-- each thing of a list is so
all_at : {A : Type 0} {P : A → Type 0} (read : ℕ → A) (f n : ℕ) → All P (list_at read one f n) → (k : ℕ) → f ≤ k → k < f + n → P (read k)
unfolding list_at
all_at read f zero o k a b = absurd (omega arith)
all_at {P = P} read f (suc n) (◌a∷◌ p o) k a b = from_on (λ j. P (read j)) f k a p (λ l. all_at read (f + 1) n o k l (omega arith))

windows_inside : (s cells : List ℕ) (f n : ℕ) → AllAt (WinOk s cells) (win_size s) f n → AllAt (WinInside s) (win_size s) f n
unfolding AllAt
windows_inside s cells f zero o = tt
windows_inside s cells f (suc n) o = (o.0.inside, windows_inside s cells (f + win_size s f) n o.1)

rows_inside : (s cells : List ℕ) (f n : ℕ) → RowsOk s cells f n → EachOk (Inside s) s f n
rows_inside s cells f n o = record { room = o.room; each = λ k a b. (o.each k a b).inside }

both-inside : (s cells : List ℕ) (f g v : ℕ) → RowsOk s cells f g → EachOk (AggOk s cells) s (f + g) v → EachOk (Inside s) s f (g + v)
both-inside s cells f g v o p = record { room = omega (arith, p.room); each = λ k a b. omega (arith, p.room) }

module _ {C : Catalogue} {names : List ℕ} {tables most : ℕ} (ok : NamesOk names tables) (fits : FitCatalogue C) (are : C.tables ≡ catalogue_at names tables) (m : C.version.max_fields ≡ most) where
  table_there : (t : ℕ) → t < length C.tables → t < tables
  table_there t h = omega (arith, h, ap length are ∙ catalogue-length names tables)

  table-named : (t : ℕ) → t < length C.tables → names_of C t ≡ table_at names t
  table-named t h = ap (λ T. get_or T t []) are ∙ catalogue_at_lem names tables t (table_there t h)

  scan-inside : (rows : List ℕ) (s : ScanNode) (es : List Expr) → EachOk (Inside rows) rows s.first s.n
      → FitLeaf C (Rattle.cpl.specs.Plan.scan s.table s.qualifier (if? s.given (columns_at rows s.first s.n)) es) → ScanInside most names rows s
  unfolding FitLeaf FitColumns FitList
  scan-inside rows s es o f =
      let named = table-named s.table f.0 in
      let v = small fits.version_is in
      let fit : s.given ≡ true → (length (columns_at rows s.first s.n) ≤ C.version.max_columns) × All (λ i. i < length (names_of C s.table)) (columns_at rows s.first s.n) =
      λ e. subst (λ b. FitColumns C.version (length (names_of C s.table)) (if? b (columns_at rows s.first s.n))) e f.2 in
      record {
        table = ok.each s.table (table_there s.table f.0);
        all_few = omega (arith, ap length named, few-columns C fits s.table, v.columns-fields, m);
        few = λ e. omega (arith, (fit e).0, list_length (number_at rows) one s.first s.n, v.columns-fields, m);
        columns = λ e. record {
          room = o.room;
          each = λ k a b. record { inside = o.each k a b; column = subst (λ T. number_at rows k < length T) named (all_at (number_at rows) s.first s.n (fit e).1 k a b) };
        };
      }

  pub node-inside : (cells rows nodes : List ℕ) (n : Node) → PartsOk (lent cells rows nodes) n → FitHead C (head_of (lent cells rows nodes) n) → NodeInside most names rows n
  node-inside cells rows nodes (Projection f n) o fit = rows_inside rows cells f n o
  node-inside cells rows nodes (Filter r) o fit = tt
  node-inside cells rows nodes (Sort f n) o fit = tt
  node-inside cells rows nodes (Limit s n) o fit = tt
  node-inside cells rows nodes (Aggregate f g v) o fit = both-inside rows cells f g v o.0 o.1
  node-inside cells rows nodes (Window f n) o fit = windows_inside rows cells f n o
  node-inside cells rows nodes (SubqueryAlias q) o fit = tt
  node-inside cells rows nodes (Union r) o fit = tt
  node-inside cells rows nodes Distinct o fit = tt
  node-inside cells rows nodes (Join j) o fit = tt
  node-inside cells rows nodes (Scan s) o fit = scan-inside rows s (exprs_at rows cells (s.first + s.n) s.filters) o.0 fit
  node-inside cells rows nodes (Empty b f n) o fit = o

  pub node-named : (a : Arrays) (n : Node) → FitHead C (head_of a n) → Named C names n
  unfolding FitLeaf
  node-named a (Projection f n) fit = tt
  node-named a (Filter r) fit = tt
  node-named a (Sort f n) fit = tt
  node-named a (Limit s n) fit = tt
  node-named a (Aggregate f g v) fit = tt
  node-named a (Window f n) fit = tt
  node-named a (SubqueryAlias q) fit = tt
  node-named a (Union r) fit = tt
  node-named a Distinct fit = tt
  node-named a (Join j) fit = tt
  node-named a (Scan s) fit = table-named s.table fit.0
  node-named a (Empty b f n) fit = tt
