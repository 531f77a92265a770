-- Each part of a node is read back from where it is stored. Assumes nothing.
use mathlib.Core.Path.{◌≡◌, refl, sym, ap, ap₂, subst, ◌∙◌}
use mathlib.Core.List.{List, [], ◌∷◌, ◌++◌}
use Prim.Native.Nat.{ℕ, ◌+◌, ◌*◌, ◌<◌}
use native.Mathlib.Omega.{arith}
use borrow.Author.Tests.{ne_eqb}
use lib.ListN.{length, get_or, length-append}
use Rattle.cpl.specs.Bytes.{call_number}
use Rattle.cpl.specs.Codes.{fn_number}
use Rattle.cpl.specs.Exprs.{expr_tags}
use Rattle.cpl.specs.Plan.{Agg, Call, Expr, Item, Key, On, Pair, agg, bare, col, item_expr, key, named, on, over, pair, rows}
use Rattle.cpl.specs.Writable.{FitAgg, FitCall, FitExpr, FitItem, FitKey, FitOn}
use Rattle.cpl.proofs.CodeTrip.{number-flags, number_fn}
use Rattle.cpl.proofs.Lists.{always}
use Rattle.arena.specs.Cells.{Wf, expr_at}
use Rattle.arena.specs.Rows.{RowOk, item_at, mark_at, pair_at, root_at}
use Rattle.arena.proofs.Laws.{wf-none}
use Rattle.arena.proofs.Rows.{item-bare, item-named}
use Rattle.tree.specs.Layout.{Store, agg_cells, agg_nodes, agg_row, agg_store, all_cells, all_nodes, all_rows, call_cells, call_nodes, call_root, column_store, expr_cells, expr_store, item_row, item_store, key_cells, key_nodes, key_row, key_store, on_cells, on_nodes, on_row, on_store, pair_row, pair_store, root_of}
use Rattle.tree.specs.Rows.{AggOk, EachOk, ExprOk, Inside, KeyOk, OnOk, agg_at, call_of, columns_at, key_at, key_of, list_at, number_at, on_at, one, pairs_at}
use Rattle.tree.proofs.Held.{Held, held-left, held-right, moved}
use Rattle.tree.proofs.Exprs.{cells_long, expr_back, tags-pos}
use Rattle.tree.proofs.Exprs
use Rattle.tree.proofs.Lists.{Reads, ReadsAll, Sized, all-cells-long, all-rows-long, each_back, one_each}

-- ── one row ─────────────────────────────────────────────────────────────────────────────────

-- the numbers of row i
pub record Row (s : List ℕ) (i q n x y : ℕ) : Type 0 where
  pub inside : Inside s i
  pub number : number_at s i ≡ q
  pub name : get_or s (i * 4 + 1) 0 ≡ n
  pub mark : mark_at s i ≡ x
  pub root : root_at s i ≡ y

pub row : {s : List ℕ} {i q n x y : ℕ} → Held s (i * 4) (q ∷ n ∷ x ∷ y ∷ []) → Row s i q n x y
row {s} {i} h =
    let p : i * 4 + 0 ≡ i * 4 = omega arith in
    record {
      inside = omega (arith, h.room);
      number = rw p at (h.same 0 (omega arith));
      name = h.same 1 (omega arith);
      mark = h.same 2 (omega arith);
      root = h.same 3 (omega arith);
    }

pub pair_is : {s : List ℕ} {i q n x y : ℕ} → Row s i q n x y → pair_at s i ≡ pair q n
pair_is r = ap₂ pair r.number r.name

-- a root that is an expression's
pub root-wf : {cells : List ℕ} {made z : ℕ} {e : Expr} → Exprs.Back cells made e → z ≡ root_of made e → Wf cells (z + 1)
unfolding root_of
root-wf {cells} {e = e} b h = subst (Wf cells) (omega (arith, tags-pos e)) b.wf

-- ── expressions, items, keys ────────────────────────────────────────────────────────────────

pub expr_sized : Sized expr_store
expr_sized = record { cells_long = cells_long; rows_long = λ made e. refl }

pub item-sized : Sized item_store
item-sized = record { cells_long = λ made i. cells_long made (item_expr i); rows_long = four }
  where
    four : (made : ℕ) (i : Item) → length (item_row made i) ≡ 4
    four made (bare (pair q n)) = unfold item_row pair_row in refl
    four made (named (pair q n) e) = unfold item_row pair_row in refl

pub key-sized : Sized key_store
key-sized = record { cells_long = three; rows_long = four }
  where
    three : (made : ℕ) (k : Key) → length (key_cells made k) ≡ key_nodes k * 3
    three made (key d m e) = unfold key_cells key_nodes in cells_long made e

    four : (made : ℕ) (k : Key) → length (key_row made k) ≡ 4
    four made (key d m e) = unfold key_row in refl

module _ (cells s : List ℕ) where
  pub expr_reads : Reads cells s expr_store FitExpr (λ i. expr_at cells (root_at s i)) (ExprOk s cells) one
  expr_reads e made i f w h g =
      let b = expr_back e made f w h in
      let r = row g in
      record { is = ap (expr_at cells) r.root ∙ b.is; good = record { inside = r.inside; node = root-wf b r.root }; long = refl; wf = b.wf }

  pub item-reads : Reads cells s item_store FitItem (item_at s cells) (RowOk s cells) one
  unfolding item_expr item_row pair_row FitItem FitExpr
  item-reads (bare (pair q n)) made i f w h g =
      let b = expr_back (col (pair q n)) made f w h in
      let r = row g in
      record {
        is = item-bare s cells i r.mark ∙ ap bare (pair_is r);
        good = record { inside = r.inside; node = root-wf b r.root; bare = λ e. ap (expr_at cells) r.root ∙ b.is ∙ ap col (sym (pair_is r)) };
        long = refl;
        wf = b.wf;
      }
  item-reads (named (pair q n) x) made i f w h g =
      let b = expr_back x made f.1 w h in
      let r = row g in
      record {
        is = item-named s cells i (λ e. omega (arith, r.mark)) ∙ ap₂ named (pair_is r) (ap (expr_at cells) r.root ∙ b.is);
        good = record { inside = r.inside; node = root-wf b r.root; bare = λ e. absurd (omega (arith, r.mark)) };
        long = refl;
        wf = b.wf;
      }

  pub key_reads : Reads cells s key_store FitKey (key_at s cells) (KeyOk s cells) one
  unfolding key_cells key_row key_nodes key_at key_of FitKey
  key_reads (key d m x) made i f w h g =
      let b = expr_back x made f w h in
      let r = row g in
      let t = number-flags d m in
      record {
        is = ap₂ key_of r.number (ap (expr_at cells) r.root ∙ b.is) ∙ ap₂ (λ d m. key d m x) t.1 t.2;
        good = record { inside = r.inside; flags = omega (arith, r.number, t.0); node = root-wf b r.root };
        long = refl;
        wf = b.wf;
      }

-- ── functions, aggregates, windows ──────────────────────────────────────────────────────────

pub call_long : (made : ℕ) (g : Call) → length (call_cells made g) ≡ call_nodes g * 3
unfolding call_cells call_nodes
call_long made rows = refl
call_long made (over f e) = cells_long made e

pub agg-sized : Sized agg_store
agg-sized = record { cells_long = three; rows_long = four }
  where
    three : (made : ℕ) (a : Agg) → length (agg_cells made a) ≡ agg_nodes a * 3
    three made (agg c g) = unfold agg_cells agg_nodes in call_long made g

    four : (made : ℕ) (a : Agg) → length (agg_row made a) ≡ 4
    four made (agg (pair q n) g) = unfold agg_row pair_row in refl

pub record CallBack (cells : List ℕ) (made : ℕ) (g : Call) : Type 0 where
  pub is : call_of (call_number g) (expr_at cells (call_root made g)) ≡ g
  pub number : call_number g < 5
  pub node : (z : ℕ) → z ≡ call_root made g → 0 < call_number g → Wf cells (z + 1)
  pub wf : Wf cells (made + call_nodes g)

pub call_back : {cells : List ℕ} (g : Call) (made : ℕ) → FitCall g → Wf cells made → Held cells (made * 3) (call_cells made g) → CallBack cells made g
unfolding call_cells call_nodes call_root call_number call_of FitCall
call_back {cells} rows made f w h = record { is = refl; number = omega arith; node = λ z e l. absurd (omega arith); wf = subst (Wf cells) (omega arith) w }
call_back {cells} (over f x) made fit w h =
    let b = expr_back x made fit w h in
    let t = number_fn f in
    record {
      is = ap (λ e. call_of (fn_number f) e) b.is ∙ rw (ne_eqb (fn_number f) 0 (λ e. omega (arith, t.0))) (ap (λ o. over o x) t.2);
      number = t.1;
      node = λ z e l. root-wf b e;
      wf = b.wf;
    }

module _ (cells s : List ℕ) where
  pub agg-reads : Reads cells s agg_store FitAgg (agg_at s cells) (AggOk s cells) one
  unfolding agg_cells agg_row agg_nodes agg_at pair_row FitAgg
  agg-reads (agg (pair q n) c) made i f w h g =
      let b = call_back c made f.1 w h in
      let r = row g in
      record {
        is = ap₂ agg (pair_is r) (ap₂ (λ k z. call_of k (expr_at cells z)) r.mark r.root ∙ b.is);
        good = record { inside = r.inside; function = omega (arith, r.mark, b.number); node = λ l. b.node (root_at s i) r.root (omega (arith, r.mark)) };
        long = refl;
        wf = b.wf;
      }

-- ── pairs of a join, fields, columns ────────────────────────────────────────────────────────

pub on-sized : Sized on_store
on-sized = record { cells_long = three; rows_long = four }
  where
    three : (made : ℕ) (o : On) → length (on_cells made o) ≡ on_nodes o * 3
    three made (on a b) = unfold on_cells on_nodes in simp length-append (omega (arith, cells_long made a, cells_long (made + expr_tags a) b))

    four : (made : ℕ) (o : On) → length (on_row made o) ≡ 4
    four made (on a b) = unfold on_row in refl

pub pair-sized : Sized pair_store
pair-sized = record { cells_long = λ made c. refl; rows_long = four }
  where
    four : (made : ℕ) (c : Pair) → length (pair_row c 0 0) ≡ 4
    four made (pair q n) = unfold pair_row in refl

pub column-sized : Sized column_store
column-sized = record { cells_long = λ made i. refl; rows_long = λ made i. refl }

module _ (cells s : List ℕ) where
  pub on-reads : Reads cells s on_store FitOn (on_at s cells) (OnOk s cells) one
  unfolding on_cells on_row on_nodes on_at FitOn
  on-reads (on a b) made i f w h g =
      let A = expr_back a made f.0 w (held-left (expr_cells made a) _ h) in
      let p : made * 3 + expr_tags a * 3 ≡ (made + expr_tags a) * 3 = omega arith in
      let B = expr_back b (made + expr_tags a) f.1 A.wf (moved p (held-right (expr_cells made a) _ (expr_tags a * 3) (cells_long made a) h)) in
      let r = row g in
      record {
        is = ap₂ on (ap (expr_at cells) r.mark ∙ A.is) (ap (expr_at cells) r.root ∙ B.is);
        good = record { inside = r.inside; left = root-wf A r.mark; right = root-wf B r.root };
        long = refl;
        wf = subst (Wf cells) (omega arith) B.wf;
      }

  -- of the numbers' sizes nothing is asked
  pub pair_reads : Reads cells s pair_store (λ c. Unit {0}) (pair_at s) (Inside s) one
  unfolding pair_row
  pair_reads (pair q n) made i f w h g =
      let r = row g in
      record { is = pair_is r; good = r.inside; long = refl; wf = subst (Wf cells) (omega arith) w }

  pub column-reads : Reads cells s column_store (λ c. Unit {0}) (number_at s) (Inside s) one
  column-reads x made i f w h g =
      let r = row g in
      record { is = r.number; good = r.inside; long = refl; wf = subst (Wf cells) (omega arith) w }

-- the rows of expressions, of keys and of columns
pub exprs_long : (made : ℕ) (es : List Expr) → length (all_rows expr_store made es) ≡ length es * 4
exprs_long made es = omega (arith, all-rows-long expr_store expr_sized made es, one_each expr_store expr_sized (λ e. refl) es)

pub keys_long : (made : ℕ) (ks : List Key) → length (all_rows key_store made ks) ≡ length ks * 4
keys_long made ks = omega (arith, all-rows-long key_store key-sized made ks, one_each key_store key-sized (λ k. refl) ks)

pub columns-long : (made : ℕ) (is : List ℕ) → length (all_rows column_store made is) ≡ length is * 4
columns-long made is = omega (arith, all-rows-long column_store column-sized made is, one_each column_store column-sized (λ i. refl) is)

-- ── lists of them ───────────────────────────────────────────────────────────────────────────

module _ (cells s : List ℕ) where
  pub exprs_back : ReadsAll cells s expr_store FitExpr (λ i. expr_at cells (root_at s i)) (ExprOk s cells)
  exprs_back = each_back cells s expr_store expr_sized FitExpr _ _ (λ x. refl) (expr_reads cells s)

  pub items_back : ReadsAll cells s item_store FitItem (item_at s cells) (RowOk s cells)
  items_back = each_back cells s item_store item-sized FitItem _ _ (λ x. refl) (item-reads cells s)

  pub keys_back : ReadsAll cells s key_store FitKey (key_at s cells) (KeyOk s cells)
  keys_back = each_back cells s key_store key-sized FitKey _ _ (λ x. refl) (key_reads cells s)

  pub aggs_back : ReadsAll cells s agg_store FitAgg (agg_at s cells) (AggOk s cells)
  aggs_back = each_back cells s agg_store agg-sized FitAgg _ _ (λ x. refl) (agg-reads cells s)

  pub ons_back : ReadsAll cells s on_store FitOn (on_at s cells) (OnOk s cells)
  ons_back = each_back cells s on_store on-sized FitOn _ _ (λ x. refl) (on-reads cells s)

-- things without expressions have no cells
no_nodes : {A : Type 0} (s : Store A) → ((x : A) → s.nodes_in x ≡ 0) → (xs : List A) → all_nodes s xs ≡ 0
unfolding all_nodes
no_nodes s o [] = refl
no_nodes s o (x ∷ xs) = omega (arith, o x, no_nodes s o xs)

-- and their rows are the same wherever the cells stand
same_rows : {A : Type 0} (s : Store A) → ((i j : ℕ) (x : A) → s.rows_of i x ≡ s.rows_of j x) → (i j : ℕ) (xs : List A) → all_rows s i xs ≡ all_rows s j xs
unfolding all_rows
same_rows s o i j [] = refl
same_rows s o i j (x ∷ xs) = ap₂ ◌++◌ (o i j x) (same_rows s o (i + s.nodes_in x) (j + s.nodes_in x) xs)

module _ (rows : List ℕ) {A : Type 0} (s : Store A) (z : Sized s) (read : ℕ → A) (o : (x : A) → s.rows_held x ≡ 1) (e : (x : A) → s.nodes_in x ≡ 0) (same : (i j : ℕ) (x : A) → s.rows_of i x ≡ s.rows_of j x) where
  bare_back : Reads [] rows s (λ x. Unit {0}) read (Inside rows) one
      → (made row : ℕ) (xs : List A) → Held rows (row * 4) (all_rows s made xs) → (list_at read one row (length xs) ≡ xs) × EachOk (Inside rows) rows row (length xs)
  bare_back b made row xs H =
      let g = subst (Held rows (row * 4)) (same_rows s same made 0 xs) H in
      let none : length (all_cells s 0 xs) ≡ 0 = omega (arith, all-cells-long s z 0 xs, no_nodes s e xs) in
      let l = each_back [] rows s z (λ x. Unit {0}) read (Inside rows) o b xs 0 row (always (λ x. tt) xs) (wf-none []) (record { room = omega arith; same = λ i h. absurd (omega arith) }) g in
      (l.0.is, l.1)

module _ (s : List ℕ) where
  pub pairs_back : (made row : ℕ) (xs : List Pair) → Held s (row * 4) (all_rows pair_store made xs) → (pairs_at s row (length xs) ≡ xs) × EachOk (Inside s) s row (length xs)
  pairs_back = bare_back s pair_store pair-sized (pair_at s) (λ x. refl) (λ x. refl) (λ i j x. refl) (pair_reads [] s)

  pub columns_back : (made row : ℕ) (xs : List ℕ) → Held s (row * 4) (all_rows column_store made xs) → (columns_at s row (length xs) ≡ xs) × EachOk (Inside s) s row (length xs)
  columns_back = bare_back s column_store column-sized (number_at s) (λ x. refl) (λ x. refl) (λ i j x. refl) (column-reads [] s)
