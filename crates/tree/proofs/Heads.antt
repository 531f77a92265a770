-- A node without its inputs is read back from where it is stored. Assumes nothing.
use mathlib.Core.Path.{◌≡◌, refl, sym, ap, ap₂, subst, ◌∙◌}
use mathlib.Core.Bool.{true, true≢false}
use mathlib.Core.List.{List, [], ◌∷◌}
use mathlib.Core.Option.{Option, none, some}
use Prim.Native.Nat.{ℕ, ◌+◌, ◌*◌}
use native.Mathlib.Omega.{arith}
use lib.Dec.{eqb}
use lib.ListN.{length}
use Rattle.cpl.specs.Bytes.{fetch_number}
use Rattle.cpl.specs.Codes.{bit, join_number}
use Rattle.cpl.specs.Limits.{Version}
use Rattle.cpl.specs.Plan.{Binary, Catalogue, Expr, Leaf, On, Unary, aggregate, distinct, empty, filter, j_full, j_inner, j_lanti, j_left, j_lsemi, j_ranti, j_right, j_rsemi, join, limit, projection, scan, sort, subquery_alias, union, window}
use Rattle.cpl.specs.Plan
use Rattle.cpl.specs.ReadPlan.{Head, h0, h1, h2}
use Rattle.cpl.specs.Writable.{FitBinary, FitCond, FitLeaf, FitList, FitName, FitUnary, FitWin}
use Rattle.cpl.proofs.CodeTrip.{number_bit}
use Rattle.cpl.proofs.PartTrip.{number_fetch}
use Rattle.arena.specs.Cells.{Wf, expr_at}
use Rattle.tree.specs.Layout.{all_cells, all_nodes, all_rows, all_rows_in, binary_cells, binary_node, binary_nodes, binary_rows, column_store, columns_of, cond_cells, cond_nodes, cond_root, given, item_store, leaf_cells, leaf_node, leaf_nodes, leaf_rows, on_store, root_of, unary_cells, unary_node, unary_nodes, unary_rows, win_store}
use Rattle.tree.specs.Node.{Fits, NodeFits, join_is, join_node, node_at, node_of, scan_node, type_of, words_at}
use Rattle.tree.specs.Rows.{WinOk, columns_at, win_at, win_size}
use Rattle.tree.specs.Tree.{Arrays, PartsOk, head_of, if?, right_of}
use Rattle.tree.specs.declared.Node.{Node}
use Rattle.tree.specs.declared.Node.TheVariants.{Aggregate, Distinct, Empty, Filter, Join, Limit, Projection, Scan, Sort, SubqueryAlias, Union, Window}
use Rattle.tree.specs.declared.Words.{Words}
use Rattle.tree.proofs.Held.{Held, held-left, held-right, moved}
use Rattle.tree.proofs.Exprs.{expr_back}
use Rattle.tree.proofs.Lists.{all-cells-long, all-rows-long, items-list, list_back, one_each}
use Rattle.tree.proofs.Stores.{aggs_back, columns_back, columns-long, exprs_back, item-sized, items_back, keys_back, on-sized, ons_back, pairs_back, root-wf}
use Rattle.tree.proofs.Windows.{win-reads, win-sized}

-- ── seven numbers ───────────────────────────────────────────────────────────────────────────

abbrev words : (kind right first n a b c : ℕ) → Words
words t r f n x y z = record { kind = t; right = r; first = f; n = n; a = x; b = y; c = z }

-- the node that seven numbers are, where they fit their types
read : {s : List ℕ} {t r f n x y z : ℕ} (k : ℕ) → Held s (k * 7) (t ∷ r ∷ f ∷ n ∷ x ∷ y ∷ z ∷ []) → words_at s k ≡ words t r f n x y z
unfolding words_at
read k h =
    let p : k * 7 + 0 ≡ k * 7 = omega arith in
    let e₀ = rw p at (h.same 0 (omega arith)) in
    let e₁ = h.same 1 (omega arith) in
    let e₂ = h.same 2 (omega arith) in
    let e₃ = h.same 3 (omega arith) in
    let e₄ = h.same 4 (omega arith) in
    let e₅ = h.same 5 (omega arith) in
    let e₆ = h.same 6 (omega arith) in
    λ i. record { kind = e₀ i; right = e₁ i; first = e₂ i; n = e₃ i; a = e₄ i; b = e₅ i; c = e₆ i }

-- a head is read back at node k
pub record HeadBack (a : Arrays) (k right : ℕ) (h : Head) : Type 0 where
  pub node : Node
  pub node_is : node_at a.nodes k ≡ node
  pub head : head_of a node ≡ h
  pub parts : PartsOk a node
  pub fits : NodeFits a.nodes k
  pub right_is : right_of node ≡ right

module _ (a : Arrays) {k t r f n x y z : ℕ} (h : Held a.nodes (k * 7) (t ∷ r ∷ f ∷ n ∷ x ∷ y ∷ z ∷ [])) where
  back : {right : ℕ} {g : Head} (m : Node) → Fits (words t r f n x y z) → node_of (words t r f n x y z) ≡ m → head_of a m ≡ g → PartsOk a m → right_of m ≡ right → HeadBack a k right g
  back m o e d p q = record {
    node = m;
    node_is = ap node_of (read k h) ∙ e;
    head = d;
    parts = p;
    fits = record { inside = omega (arith, h.room); numbers = subst Fits (sym (read k h)) o };
    right_is = q;
  }

-- ── one input ───────────────────────────────────────────────────────────────────────────────

module _ (a : Arrays) where
  pub unary_back : (v : Version) (h : Unary) (k made row : ℕ) → FitUnary v h → Wf a.cells made → Held a.cells (made * 3) (unary_cells made h) → Held a.rows (row * 4) (unary_rows made h)
      → Held a.nodes (k * 7) (unary_node made row h) → HeadBack a k 0 (h1 h) × Wf a.cells (made + unary_nodes h)
  unfolding unary_cells unary_rows unary_node unary_nodes FitUnary FitList FitName node_of
  unary_back v (projection is) k made row f w h g n =
      let L = items_back a.cells a.rows is made row f.1 w h g in (
        back a n (Projection row (length is)) (omega arith) refl (ap (λ l. h1 (projection l)) (items-list a.rows a.cells row (length is) ∙ L.0.is))
            (record { room = L.1.room; each = L.1.each }) refl,
        L.0.wf,
      )
  unary_back v (filter e) k made row f w h g n =
      let b = expr_back e made f w h in
      (back a n (Filter (root_of made e)) (omega arith) refl (ap (λ x. h1 (filter x)) b.is) (root-wf b refl) refl, b.wf)
  unary_back v (sort ks) k made row f w h g n =
      let L = keys_back a.cells a.rows ks made row f.1.1 w h g in
      (back a n (Sort row (length ks)) (omega arith) refl (ap (λ l. h1 (sort l)) L.0.is) L.1 refl, L.0.wf)
  unary_back v (limit s m) k made row f w h g n =
      let t = number_fetch m f.1 in
      (back a n (Limit s (fetch_number m)) (omega (arith, f.0, t.0)) refl (ap (λ x. h1 (limit s x)) t.1) tt refl, subst (Wf a.cells) (omega arith) w)
  unary_back v (aggregate gs vs) k made row f w h g n =
      let made₁ = made + all_nodes item_store gs in
      let p : made * 3 + all_nodes item_store gs * 3 ≡ made₁ * 3 = omega arith in
      let q : row * 4 + all_rows_in item_store gs * 4 ≡ (row + length gs) * 4 = omega (arith, one_each item_store item-sized (λ x. refl) gs) in
      let L = items_back a.cells a.rows gs made row f.1.1 w
      (held-left (all_cells item_store made gs) _ h) (held-left (all_rows item_store made gs) _ g) in
      let M = aggs_back a.cells a.rows vs made₁ (row + length gs) f.2.1 L.0.wf
      (moved p (held-right (all_cells item_store made gs) _ (all_nodes item_store gs * 3) (all-cells-long item_store item-sized made gs) h))
      (moved q (held-right (all_rows item_store made gs) _ (all_rows_in item_store gs * 4) (all-rows-long item_store item-sized made gs) g)) in (
        back a n (Aggregate row (length gs) (length vs)) (omega arith) refl
            (ap₂ (λ x y. h1 (aggregate x y)) (items-list a.rows a.cells row (length gs) ∙ L.0.is) M.0.is)
            (record { room = L.1.room; each = L.1.each }, M.1) refl,
        subst (Wf a.cells) (omega arith) M.0.wf,
      )
  unary_back v (window ws) k made row f w h g n =
      let L = list_back a.cells a.rows win_store win-sized FitWin (win_at a.rows a.cells) (WinOk a.rows a.cells) (win_size a.rows) (win-reads a.cells a.rows) made row f.1.1 w h g in
      (back a n (Window row (length ws)) (omega arith) refl (ap (λ l. h1 (window l)) L.is) L.good refl, L.wf)
  unary_back v (subquery_alias q) k made row f w h g n =
      (back a n (SubqueryAlias q) (omega (arith, f.1)) refl refl tt refl, subst (Wf a.cells) (omega arith) w)
  unary_back v distinct k made row f w h g n = (back a n Distinct (omega arith) refl refl tt refl, subst (Wf a.cells) (omega arith) w)

-- ── two inputs ──────────────────────────────────────────────────────────────────────────────

type_is : (t : Plan.JoinType) → join_is (type_of (join_number t)) ≡ t
unfolding type_of join_number
type_is j_inner = refl
type_is j_left = refl
type_is j_right = refl
type_is j_full = refl
type_is j_lsemi = refl
type_is j_lanti = refl
type_is j_rsemi = refl
type_is j_ranti = refl

record CondBack (cells : List ℕ) (made : ℕ) (c : Option Expr) : Type 0 where
  is : if? (eqb (bit (given c)) 1) (expr_at cells (cond_root made c)) ≡ c
  node : eqb (bit (given c)) 1 ≡ true → Wf cells (cond_root made c + 1)
  wf : Wf cells (made + cond_nodes c)

cond_back : {cells : List ℕ} (c : Option Expr) (made : ℕ) → FitCond c → Wf cells made → Held cells (made * 3) (cond_cells made c) → CondBack cells made c
unfolding cond_cells cond_root cond_nodes given bit FitCond
cond_back {cells} none made f w h = record { is = refl; node = λ e. absurd (true≢false (sym e)); wf = subst (Wf cells) (omega arith) w }
cond_back (some x) made f w h = let b = expr_back x made f w h in record { is = ap some b.is; node = λ e. root-wf b refl; wf = b.wf }

join-same : {t t' : Plan.JoinType} {os os' : List On} {c c' : Option Expr} → t ≡ t' → os ≡ os' → c ≡ c' → h2 (join t os c) ≡ h2 (join t' os' c')
join-same p q r = cc

module _ (a : Arrays) where
  pub binary_back : (h : Binary) (k made row right : ℕ) → FitBinary h → Wf a.cells made → Held a.cells (made * 3) (binary_cells made h) → Held a.rows (row * 4) (binary_rows made h)
      → Held a.nodes (k * 7) (binary_node made row right h) → HeadBack a k right (h2 h) × Wf a.cells (made + binary_nodes h)
  unfolding binary_cells binary_rows binary_node binary_nodes FitBinary FitList node_of join_node
  binary_back union k made row right f w h g n = (back a n (Union right) (omega arith) refl refl tt refl, subst (Wf a.cells) (omega arith) w)
  binary_back (join t os c) k made row right f w h g n =
      let made₁ = made + all_nodes on_store os in
      let p : made * 3 + all_nodes on_store os * 3 ≡ made₁ * 3 = omega arith in
      let L = ons_back a.cells a.rows os made row f.0.1 w
      (held-left (all_cells on_store made os) _ h) g in
      let b = cond_back c made₁ f.1 L.0.wf (moved p (held-right (all_cells on_store made os) _ (all_nodes on_store os * 3) (all-cells-long on_store on-sized made os) h)) in (
        back a n (Join (join_node (words 10 right row (length os) (join_number t) (bit (given c)) (cond_root made₁ c)))) (omega arith) refl
            (join-same (type_is t) L.0.is b.is) (L.1, b.node) refl,
        subst (Wf a.cells) (omega arith) b.wf,
      )

-- ── no input ────────────────────────────────────────────────────────────────────────────────

given_is : (a : Arrays) (row : ℕ) (is : Option (List ℕ)) → columns_at a.rows row (length (columns_of is)) ≡ columns_of is → if? (eqb (bit (given is)) 1) (columns_at a.rows row (length (columns_of is))) ≡ is
unfolding columns_of given bit
given_is a row none e = refl
given_is a row (some xs) e = ap some e

module _ (C : Catalogue) (a : Arrays) where
  pub leaf_back : (h : Leaf) (k made row : ℕ) → FitLeaf C h → Wf a.cells made → Held a.cells (made * 3) (leaf_cells made h) → Held a.rows (row * 4) (leaf_rows made h)
      → Held a.nodes (k * 7) (leaf_node row h) → HeadBack a k 0 (h0 h) × Wf a.cells (made + leaf_nodes h)
  unfolding leaf_cells leaf_rows leaf_nodes leaf_node FitLeaf FitList FitName node_of scan_node
  leaf_back (scan t q is es) k made row f w h g n =
      let m = length (columns_of is) in
      let long = columns-long made (columns_of is) in
      let p : row * 4 + m * 4 ≡ (row + m) * 4 = omega arith in
      let L = columns_back a.rows made row (columns_of is) (held-left (all_rows column_store made (columns_of is)) _ g) in
      let E = exprs_back a.cells a.rows es made (row + m) f.3.1 w h (moved p (held-right (all_rows column_store made (columns_of is)) _ (m * 4) long g)) in (
        back a n (Scan (scan_node (words 11 (length es) row m t q (bit (given is))))) (omega (arith, f.1.1)) refl
            (ap₂ (λ x y. h0 (scan t q x y)) (given_is a row is L.0) E.0.is) (L.1, E.1) refl,
        E.0.wf,
      )
  leaf_back (empty b cs) k made row f w h g n =
      let L = pairs_back a.rows made row cs g in (
        back a n (Empty (eqb (bit b) 1) row (length cs)) (omega arith) refl (ap₂ (λ x y. h0 (empty x y)) (number_bit b).1 L.0) L.1 refl,
        subst (Wf a.cells) (omega arith) w,
      )
