-- What the readers of nodes answer is right: a law for each way through one. Assumes nothing.
use Prim.Native.Nat.{ℕ, zero, suc, ◌+◌, ◌*◌, ◌-◌, ◌^◌, ◌≤◌, ◌<◌}
use mathlib.Core.Path.{◌≡◌, refl, sym, ap, ◌∙◌}
use mathlib.Core.Bool.{Bool, not, ◌&&◌}
use mathlib.Core.List.{List, [], ◌∷◌, append-nil}
use mathlib.Core.Option.{Option, none, some}
use native.Mathlib.Omega.{arith}
use native.Mathlib.Nat.{add-zero}
use lib.Dec.{eqb}
use lib.ListN.{length}
use borrow.Author.Tests.{eq-eqb, ne_eqb}
use Rattle.std.specs.Prelude.{Result, Ok, Err}
use Rattle.cpl.specs.Limits.{Version, max_tags, max_keys}
use Rattle.cpl.specs.Codes.{VALUE, join_of, bit}
use Rattle.cpl.specs.Plan.{Expr, Item, On, on, scan, empty, projection, filter, sort, limit, aggregate, window, subquery_alias, distinct, union, join, Catalogue, names_of}
use Rattle.cpl.specs.Read.{Res, ok, bad, and_then, field, nonzero, index, below, count, counted, times, any, is_not}
use Rattle.cpl.specs.ReadExpr.{read_pair, read_expr, read_item, read_key, read_agg, read_win, read_on}
use Rattle.cpl.specs.ReadPlan.{Head, h0, h1, h2, fetch_of, read_limit, read_aggregate, read_cond, read_join, read_columns, read_scan, read_empty, read_head}
use Rattle.cpl.proofs.CodeTrip.{join-number, bit-number}
use Rattle.cpl.proofs.PartTrip.{fetch_number_lem}
use Rattle.cpl.proofs.Codec.{Holds, holds-ok}
use Rattle.versions.specs.Versions.{node_rows}
use Rattle.tree.specs.Layout.{Store, root_of, all_cells, all_rows, all_nodes, all_rows_in, list_store, item_store, expr_store, key_store, agg_store, win_store, on_nodes, on_store, pair_store, column_store, columns_of, given, leaf_cells, leaf_rows, leaf_nodes, leaf_rows_in, leaf_node, unary_cells, unary_rows, unary_nodes, unary_rows_in, unary_node, cond_cells, cond_nodes, cond_root, binary_cells, binary_rows, binary_nodes, binary_rows_in, binary_node}
use Rattle.reader_fields.specs.Answers.{spot, Took, bare_store, Reads, From}
use Rattle.reader_fields.specs.declared.Spot.{Spot}
use Rattle.refusals.specs.declared.Refusal.{Refusal}
use Rattle.reader_fields.proofs.Sets.{sets_then, right_as, expr_some}
use Rattle.reader_fields.proofs.Exprs.{Refuses}
use Rattle.reader_parts.specs.Parts.{RightAt}
use Rattle.reader_parts.proofs.Compose.{Sized, Split, took_as, list-sized, all_one, times-length, many_nodes}
use Rattle.reader_parts.proofs.Counts.{counted-few, from-none-before, from-some-before}
use Rattle.reader_parts.proofs.Parts.{expr_bad, sized_of, key-some}
use Rattle.reader_parts.proofs.Wins.{wins_rows}
use Rattle.reader_parts.specs.declared.Kind.TheVariants as kind
use Rattle.reader_heads.specs.declared.Node.{Node}
use Rattle.reader_heads.specs.declared.Head as answer
use Rattle.reader_heads.specs.declared.Head.TheVariants as answers
use Rattle.reader_heads.specs.Heads.{RightHead, in_version, head_cells, head_rows, head_nodes, head_rows_in, head_store, NodeIs, TookHead, cond_store, columns_store, columns_rest, scan_rest}

-- the four numbers
abbrev pub four : (n x y z : ℕ) → Node
four n x y z = record { n = n; x = x; y = y; z = z }

-- a node stored as one part
module _ (v : Version) (kind second : ℕ) (from : Spot) {A : Type 0} (s₁ : Store A) (h : A → Head) (nodes : (a : A) → head_nodes (h a) ≡ s₁.nodes_in a) (rows_in : (a : A) → head_rows_in (h a) ≡ s₁.rows_held a)
    (cells : (a : A) → head_cells from.made (h a) ≡ s₁.cells_of from.made a) (rows : (a : A) → head_rows from.made (h a) ≡ s₁.rows_of from.made a) where
  head-part : (c c1 w w1 : List ℕ) (n : ℕ) (t : Spot) (node : Node) {x₁ : Res A} {x : Res Head} → (a : Took s₁ from c c1 w w1 n x₁ t) → x ≡ ok (h a.value) t.at t.tags n →
      NodeIs kind second from.made from.row node (h a.value) → s₁.rows_held a.value ≤ node_rows v + s₁.nodes_in a.value → TookHead v kind second from c c1 w w1 n x t node (h a.value)
  head-part c c1 w w1 n t node a e m l =
      record {
        took =
            record {
              value = h a.value;
              is = e;
              made_is = omega (arith, a.made_is, nodes a.value);
              row_is = omega (arith, a.row_is, rows_in a.value);
              cells_are = rw (cells a.value) a.cells_are;
              rows_are = rw (rows a.value) a.rows_are;
              grown = omega (arith, a.grown, nodes a.value);
              few = a.few;
            };
        value_is = refl;
        numbers_are = m;
        few_rows = omega (arith, l, nodes a.value, rows_in a.value);
      }

-- a node without parts
head-bare : (v : Version) (kind : ℕ) (s : Spot) (next : ℕ) (c w : List ℕ) (n : ℕ) (node : Node) {x : Res Head} (h : Head) → head_nodes h ≡ 0 → head_rows_in h ≡ 0 → head_cells s.made h ≡ [] → head_rows s.made h ≡ [] →
    x ≡ ok h next s.tags n → NodeIs kind 0 s.made s.row node h → s.tags ≤ max_tags → TookHead v kind 0 s c c w w n x (spot next s.tags s.made s.row) node h
head-bare v kind s next c w n node h p q f g e m l =
    record {
      took =
          record {
            value = h;
            is = e;
            made_is = omega (arith, p);
            row_is = omega (arith, q);
            cells_are = rw f;
            rows_are = rw g;
            grown = omega (arith, p);
            few = l;
          };
      value_is = refl;
      numbers_are = m;
      few_rows = omega (arith, q);
    }

-- the part starts at another offset than the node
pub moved : {A : Type 0} (S : Store A) (s : Spot) (at : ℕ) (c c1 w w1 : List ℕ) (n : ℕ) {x : Res A} (t : Spot) → Took S (spot at s.tags s.made s.row) c c1 w w1 n x t → Took S s c c1 w w1 n x t
moved S s at c c1 w w1 n t a = right_as S (spot at s.tags s.made s.row) s c c1 w w1 n (Ok t) refl refl (omega arith) refl a

other : (v : Version) (kind filters : ℕ) (s : Spot) (at : ℕ) (c c1 w w1 : List ℕ) (n : ℕ) (t : Spot) (node : Node) {x x' : Res Head} {h : Head} → x' ≡ x →
    TookHead v kind filters (spot at s.tags s.made s.row) c c1 w w1 n x t node h → TookHead v kind filters s c c1 w w1 n x' t node h
other v kind filters s at c c1 w w1 n t node e b =
    let a = b.took in
    record {
      took =
          record {
            value = a.value;
            is = e ∙ a.is;
            made_is = a.made_is;
            row_is = a.row_is;
            cells_are = a.cells_are;
            rows_are = a.rows_are;
            grown = a.grown;
            few = a.few;
          };
      value_is = b.value_is;
      numbers_are = b.numbers_are;
      few_rows = b.few_rows;
    }

-- an answer for a node, where the reader started from another offset
pub head_moved : (v : Version) (kind : ℕ) (s : Spot) (at : ℕ) (c c1 w w1 : List ℕ) (n : ℕ) {x x' : Res Head} (r : Result answer.Head Refusal) → x' ≡ x →
    RightHead v kind (spot at s.tags s.made s.row) c c1 w w1 n x r → RightHead v kind s c c1 w w1 n x' r
head_moved v kind s at c c1 w w1 n {x} {x'} (Ok (answers.Leaf t node filters)) e a = (a.0, other v kind filters s at c c1 w w1 n t node e a.1)
head_moved v kind s at c c1 w w1 n {x} {x'} (Ok (answers.One t node)) e a = (a.0, other v kind 0 s at c c1 w w1 n t node e a.1)
head_moved v kind s at c c1 w w1 n {x} {x'} (Ok (answers.Two t node)) e a = (a.0, other v kind 0 s at c c1 w w1 n t node e a.1)
head_moved v kind s at c c1 w w1 n (Err e₁) e a = e ∙ a

-- an answer for a node of a catalogue in its version
pub head-version : (v : Version) (C : Catalogue) → C.version ≡ v → (place kind : ℕ) (file : List ℕ) (s : Spot) (c c1 w w1 : List ℕ) (n : ℕ) (r : Result answer.Head Refusal) →
    RightHead v kind s c c1 w w1 n (read_head (in_version v C) place kind file s.at s.tags n) r → RightHead v kind s c c1 w w1 n (read_head C place kind file s.at s.tags n) r
head-version v C e place kind file s c c1 w w1 n r h =
    head_moved v kind s s.at c c1 w w1 n r (ap (λ (w : Version). read_head (in_version w C) place kind file s.at s.tags n) e) h

-- ── the readers, kind by kind ───────────────────────────────────────────────────────────────

module _ (C : Catalogue) (place : ℕ) (file : List ℕ) (at tags n : ℕ) where
  pub projection-bad : {code p : ℕ} → counted C.version.wide any C.version.max_items read_item file at tags n ≡ bad code p → read_head C place 1 file at tags n ≡ bad code p
  unfolding read_head
  projection-bad e = rw e

  pub filter-bad : {code p : ℕ} → Refuses file at tags code p → read_head C place 2 file at tags n ≡ bad code p
  unfolding read_head
  filter-bad h = rw (expr_bad file at tags h n)

  pub sort-bad : {code p : ℕ} → counted 1 (is_not 0) max_keys read_key file at tags n ≡ bad code p → read_head C place 3 file at tags n ≡ bad code p
  unfolding read_head
  sort-bad e = rw e

  pub limit-bad : {code p : ℕ} → field 4 file at tags n ≡ bad code p → read_head C place 4 file at tags n ≡ bad code p
  unfolding read_head read_limit
  limit-bad e = rw e

  pub limit-bad_fetch : {x next code p : ℕ} → field 4 file at tags n ≡ ok x next tags n → field 4 file next tags n ≡ bad code p → read_head C place 4 file at tags n ≡ bad code p
  unfolding read_head read_limit
  limit-bad_fetch e f = rw (e, f)

  pub aggregate-bad : {code p : ℕ} → counted C.version.wide any C.version.max_items read_item file at tags n ≡ bad code p → read_head C place 5 file at tags n ≡ bad code p
  unfolding read_head read_aggregate
  aggregate-bad e = rw e

  pub aggregate-bad_values : {gs : List Item} {next used code p : ℕ} → counted C.version.wide any C.version.max_items read_item file at tags n ≡ ok gs next used n →
      counted C.version.wide (λ a. not (eqb (length gs) 0 && eqb a 0)) C.version.max_items read_agg file next used n ≡ bad code p → read_head C place 5 file at tags n ≡ bad code p
  unfolding read_head read_aggregate
  aggregate-bad_values e f = rw (e, f)

  pub window-bad : {code p : ℕ} → count C.version.wide (is_not 0) C.version.max_items file at tags n ≡ bad code p → read_head C place 6 file at tags n ≡ bad code p
  unfolding read_head counted
  window-bad e = rw e

  pub window-bad-list : {k next code p : ℕ} → count C.version.wide (is_not 0) C.version.max_items file at tags n ≡ ok k next tags n → times k read_win file next tags n ≡ bad code p → read_head C place 6 file at tags n ≡ bad code p
  unfolding read_head counted
  window-bad-list e f = rw (e, f)

  pub alias-bad : {code p : ℕ} → nonzero 2 file at tags n ≡ bad code p → read_head C place 7 file at tags n ≡ bad code p
  unfolding read_head
  alias-bad e = rw e

  pub join-bad : {code p : ℕ} → below 8 file at tags n ≡ bad code p → read_head C place 10 file at tags n ≡ bad code p
  unfolding read_head read_join
  join-bad e = rw e

  pub join-bad-pairs : {x next code p : ℕ} → below 8 file at tags n ≡ ok x next tags n → counted 1 any max_keys read_on file next tags n ≡ bad code p → read_head C place 10 file at tags n ≡ bad code p
  unfolding read_head read_join
  join-bad-pairs e f = rw (e, f)

  pub join-bad-cond : {x next end used code p : ℕ} {os : List On} → below 8 file at tags n ≡ ok x next tags n → counted 1 any max_keys read_on file next tags n ≡ ok os end used n →
      read_cond file end used n ≡ bad code p → read_head C place 10 file at tags n ≡ bad code p
  unfolding read_head read_join
  join-bad-cond e f g = rw (e, f, g)

  pub scan-bad : {code p : ℕ} → below (length C.tables) file at tags n ≡ bad code p → read_head C place 11 file at tags n ≡ bad code p
  unfolding read_head read_scan
  scan-bad e = rw e

  pub scan-bad-name : {t next code p : ℕ} → below (length C.tables) file at tags n ≡ ok t next tags n → nonzero 2 file next tags n ≡ bad code p → read_head C place 11 file at tags n ≡ bad code p
  unfolding read_head read_scan
  scan-bad-name e f = rw (e, f)

  pub scan-on : {t after q next : ℕ} → below (length C.tables) file at tags n ≡ ok t after tags n → nonzero 2 file after tags n ≡ ok q next tags n → {columns : ℕ} → length (names_of C t) ≡ columns →
      read_head C place 11 file at tags n ≡ scan_rest C.version t q columns file next tags n
  unfolding read_head read_scan
  scan-on {t} {after} {q} {next} e f {columns} g = rw (e, f, g) (go (read_columns C.version columns file next tags n))
    where
      filters : (is : Option (List ℕ)) (y : Res (List Expr)) →
          and_then (and_then y (λ es a u m. ok (scan t q is es) a u m)) (λ h a u m. ok (h0 h) a u m) ≡ and_then y (λ es a u m. ok (h0 (scan t q is es)) a u m)
      filters is (ok es a u m) = refl
      filters is (bad code p) = refl

      go : (x : Res (Option (List ℕ))) →
          and_then (and_then x (λ is a u m. and_then (counted C.version.late any C.version.max_filters read_expr file a u m) (λ es a u m. ok (scan t q is es) a u m))) (λ h a u m. ok (h0 h) a u m)
          ≡ and_then x (λ is a u m. and_then (counted C.version.late any C.version.max_filters read_expr file a u m) (λ es a u m. ok (h0 (scan t q is es)) a u m))
      go (ok is a u m) = filters is (counted C.version.late any C.version.max_filters read_expr file a u m)
      go (bad code p) = refl

  pub empty-bad : {code p : ℕ} → below 2 file at tags n ≡ bad code p → read_head C place 12 file at tags n ≡ bad code p
  unfolding read_head read_empty
  empty-bad e = rw e

  pub empty-bad-list : {x next code p : ℕ} → below 2 file at tags n ≡ ok x next tags n → counted C.version.wide any C.version.max_items read_pair file next tags n ≡ bad code p → read_head C place 12 file at tags n ≡ bad code p
  unfolding read_head read_empty
  empty-bad-list e f = rw (e, f)

-- ── what takes no cells ─────────────────────────────────────────────────────────────────────

plain-nodes : {A : Type 0} (S : Store A) → ((a : A) → S.nodes_in a ≡ 0) → (xs : List A) → all_nodes S xs ≡ 0
unfolding all_nodes
plain-nodes S h [] = refl
plain-nodes S h (x ∷ xs) = omega (arith, h x, plain-nodes S h xs)

plain_cells : {A : Type 0} (S : Store A) → ((made : ℕ) (a : A) → S.cells_of made a ≡ []) → (made : ℕ) (xs : List A) → all_cells S made xs ≡ []
unfolding all_cells
plain_cells S h made [] = refl
plain_cells S h made (x ∷ xs) = rw (h made x) (plain_cells S h (made + S.nodes_in x) xs)

on_some : (o : On) → 0 < on_nodes o
unfolding on_nodes
on_some (on a b) = omega (arith, expr_some a)

-- ── what is stored, kind by kind ────────────────────────────────────────────────────────────

-- as many rows as the list is long
list-rows : {A : Type 0} (S : Store A) → ((a : A) → S.rows_held a ≡ 1) → (xs : List A) (from to m : ℕ) → to ≡ from + all_rows_in S xs → m ≡ to - from → m ≡ length xs
list-rows S one xs from to m e f = omega (arith, e, f, all_one S one xs)

module _ (C : Catalogue) (place : ℕ) (file : List ℕ) (s : Spot) (c c1 w w1 : List ℕ) (n : ℕ) (t : Spot) where
  pub projection-took : (m : ℕ) → m ≡ t.row - s.row → (a : Took (list_store item_store) s c c1 w w1 n (counted C.version.wide any C.version.max_items read_item file s.at s.tags n) t) →
      TookHead C.version 1 0 s c c1 w w1 n (read_head C place 1 file s.at s.tags n) t (four m 0 0 0) (h1 (projection a.value))
  unfolding read_head unary_nodes unary_rows_in unary_cells unary_rows unary_node
  projection-took m e a =
      head-part C.version 1 0 s (list_store item_store) (λ is. h1 (projection is)) (λ is. refl) (λ is. sym (all_one item_store (λ x. refl) is)) (λ is. refl) (λ is. refl) c c1 w w1 n t (four m 0 0 0) a (rw a.is)
      (ap (λ (k : ℕ). 1 ∷ 0 ∷ s.row ∷ k ∷ 0 ∷ 0 ∷ 0 ∷ []) (list-rows item_store (λ x. refl) a.value s.row t.row m a.row_is e))
      (omega (arith, all_one item_store (λ x. refl) a.value, counted-few C.version.wide any C.version.max_items file read_item s.at s.tags n a.is))

  pub sort-took : (m : ℕ) → m ≡ t.row - s.row → (a : Took (list_store key_store) s c c1 w w1 n (counted 1 (is_not 0) max_keys read_key file s.at s.tags n) t) →
      TookHead C.version 3 0 s c c1 w w1 n (read_head C place 3 file s.at s.tags n) t (four m 0 0 0) (h1 (sort a.value))
  unfolding read_head unary_nodes unary_rows_in unary_cells unary_rows unary_node
  sort-took m e a =
      head-part C.version 3 0 s (list_store key_store) (λ is. h1 (sort is)) (λ is. refl) (λ is. sym (all_one key_store (λ x. refl) is)) (λ is. refl) (λ is. refl) c c1 w w1 n t (four m 0 0 0) a (rw a.is)
      (ap (λ (k : ℕ). 3 ∷ 0 ∷ s.row ∷ k ∷ 0 ∷ 0 ∷ 0 ∷ []) (list-rows key_store (λ x. refl) a.value s.row t.row m a.row_is e))
      (omega (arith, all_one key_store (λ x. refl) a.value, many_nodes key_store key-some a.value))

  pub filter-took : (m : ℕ) → m ≡ t.made - 1 → (a : Took bare_store s c c1 w w1 n (read_expr file s.at s.tags n) t) →
      TookHead C.version 2 0 s c c1 w w1 n (read_head C place 2 file s.at s.tags n) t (four 0 m 0 0) (h1 (filter a.value))
  unfolding read_head unary_nodes unary_rows_in unary_cells unary_rows unary_node root_of
  filter-took m e a =
      head-part C.version 2 0 s bare_store (λ x. h1 (filter x)) (λ x. refl) (λ x. refl) (λ x. refl) (λ x. refl) c c1 w w1 n t (four 0 m 0 0) a (rw a.is)
      (ap (λ (k : ℕ). 2 ∷ 0 ∷ s.row ∷ 0 ∷ k ∷ 0 ∷ 0 ∷ []) (e ∙ ap (λ (k : ℕ). k - 1) a.made_is)) (omega arith)

  pub window-took : {k next : ℕ} → count C.version.wide (is_not 0) C.version.max_items file s.at s.tags n ≡ ok k next s.tags n → k < C.version.max_items + 1 →
      (a : Took (list_store win_store) s c c1 w w1 n (times k read_win file next s.tags n) t) →
      TookHead C.version 6 0 s c c1 w w1 n (read_head C place 6 file s.at s.tags n) t (four k 0 0 0) (h1 (window a.value))
  unfolding read_head counted unary_nodes unary_rows_in unary_cells unary_rows unary_node
  window-took {k} {next} e l a =
      let m = times-length k read_win file next s.tags n a.is in
      head-part C.version 6 0 s (list_store win_store) (λ is. h1 (window is)) (λ is. refl) (λ is. refl) (λ is. refl) (λ is. refl) c c1 w w1 n t (four k 0 0 0) a (rw (e, a.is))
      (ap (λ (k : ℕ). 6 ∷ 0 ∷ s.row ∷ k ∷ 0 ∷ 0 ∷ 0 ∷ []) (sym m)) (omega (arith, m, wins_rows a.value))

  pub empty-took : {x next : ℕ} → below 2 file s.at s.tags n ≡ ok x next s.tags n → x < 2 → (m : ℕ) → m ≡ t.row - s.row →
      (a : Took (list_store pair_store) s c c1 w w1 n (counted C.version.wide any C.version.max_items read_pair file next s.tags n) t) →
      TookHead C.version 12 0 s c c1 w w1 n (read_head C place 12 file s.at s.tags n) t (four m x 0 0) (h0 (empty (eqb x 1) a.value))
  unfolding read_head read_empty leaf_cells leaf_rows leaf_nodes leaf_rows_in leaf_node
  empty-took {x} {next} e l m f a =
      head-part C.version 12 0 s (list_store pair_store) (λ cs. h0 (empty (eqb x 1) cs)) (λ cs. sym (plain-nodes pair_store (λ y. refl) cs)) (λ cs. sym (all_one pair_store (λ y. refl) cs))
      (λ cs. sym (plain_cells pair_store (λ k y. refl) s.made cs)) (λ cs. refl) c c1 w w1 n t (four m x 0 0) a (rw (e, a.is))
      (rw (bit-number x l) (ap (λ (k : ℕ). 12 ∷ 0 ∷ s.row ∷ k ∷ x ∷ 0 ∷ 0 ∷ []) (list-rows pair_store (λ y. refl) a.value s.row t.row m a.row_is f)))
      (omega (arith, all_one pair_store (λ y. refl) a.value, counted-few C.version.wide any C.version.max_items file read_pair next s.tags n a.is))

-- a node stored as two parts
head-two : (v : Version) (kind second : ℕ) (from t u : Spot) {A B : Type 0} {s₁ : Store A} {s₂ : Store B} (c c1 c2 w w1 w2 : List ℕ) (n : ℕ) (node : Node) {x₁ : Res A} {x₂ : Res B} {x : Res Head} → Sized s₁ →
    (a : Took s₁ from c c1 w w1 n x₁ t) (b : Took s₂ t c1 c2 w1 w2 n x₂ u) (h : Head) → Split s₁ s₂ head_store from.made a.value b.value h → x ≡ ok h u.at u.tags n →
    NodeIs kind second from.made from.row node h → head_rows_in h ≤ node_rows v + head_nodes h → TookHead v kind second from c c2 w w2 n x u node h
head-two v kind second from t u {s₁ = s₁} {s₂} c c1 c2 w w1 w2 n node z a b h p e m l =
    record {
      took =
          record {
            value = h;
            is = e;
            made_is = omega (arith, a.made_is, b.made_is, p.nodes);
            row_is = omega (arith, a.row_is, b.row_is, p.rows_in);
            cells_are =
                rw (p.cells, ← a.made_is)
                (sets_then (s₁.cells_of from.made a.value) (s₂.cells_of t.made b.value) c c1 c2 (3 * from.made) (3 * t.made) a.cells_are b.cells_are
                (omega (arith, a.made_is, z.cells_long from.made a.value)));
            rows_are =
                rw (p.rows, ← a.made_is)
                (sets_then (s₁.rows_of from.made a.value) (s₂.rows_of t.made b.value) w w1 w2 (4 * from.row) (4 * t.row) a.rows_are b.rows_are
                (omega (arith, a.row_is, z.rows_long from.made a.value)));
            grown = omega (arith, a.grown, b.grown, p.nodes);
            few = b.few;
          };
      value_is = refl;
      numbers_are = m;
      few_rows = l;
    }

-- which counts of aggregates are allowed after so many groups
abbrev pub NotBoth : ℕ → ℕ → Bool
NotBoth g a = not (eqb g 0 && eqb a 0)

pub from_groups : (gs : List Item) (from to k least : ℕ) → to ≡ from + all_rows_in item_store gs → (to ≡ from → k ≡ 0) → (from < to → k ≡ 1) → least ≡ 1 - k → From least (NotBoth (length gs))
from_groups [] from to k least e z o l = rw (one) (from-none-before 0 refl)
  where
    one : least ≡ 1
    one = omega (arith, l, z (omega (arith, all_one item_store (λ x. refl) [])))
from_groups (g ∷ gs) from to k least e z o l = rw (none) (from-some-before (length (g ∷ gs)) (λ e. omega arith))
  where
    none : least ≡ 0
    none = omega (arith, l, o (omega (arith, all_one item_store (λ x. refl) (g ∷ gs))))

same_five : {a b d e : ℕ} (row : ℕ) → a ≡ b → d ≡ e → 5 ∷ 0 ∷ row ∷ a ∷ d ∷ 0 ∷ 0 ∷ [] ≡ 5 ∷ 0 ∷ row ∷ b ∷ e ∷ 0 ∷ 0 ∷ []
same_five row p q = cc

pub aggregate-took : (C : Catalogue) (place : ℕ) (file : List ℕ) (s : Spot) (c c1 c2 w w1 w2 : List ℕ) (n : ℕ) (t u : Spot) (m k : ℕ) → m ≡ t.row - s.row → k ≡ u.row - t.row →
    (a : Took (list_store item_store) s c c1 w w1 n (counted C.version.wide any C.version.max_items read_item file s.at s.tags n) t) →
    (b : Took (list_store agg_store) t c1 c2 w1 w2 n (counted C.version.wide (NotBoth (length a.value)) C.version.max_items read_agg file t.at t.tags n) u) →
    TookHead C.version 5 0 s c c2 w w2 n (read_head C place 5 file s.at s.tags n) u (four m k 0 0) (h1 (aggregate a.value b.value))
unfolding read_head read_aggregate unary_nodes unary_rows_in unary_cells unary_rows unary_node
aggregate-took C place file s c c1 c2 w w1 w2 n t u m k e f a b =
    head-two C.version 5 0 s t u c c1 c2 w w1 w2 n (four m k 0 0) (list-sized item_store (sized_of kind.Item)) a b (h1 (aggregate a.value b.value))
    (record { nodes = refl; rows_in = omega (arith, all_one item_store (λ x. refl) a.value, all_one agg_store (λ x. refl) b.value); cells = refl; rows = refl })
    (rw (a.is, b.is))
    (same_five s.row (list-rows item_store (λ x. refl) a.value s.row t.row m a.row_is e) (list-rows agg_store (λ x. refl) b.value t.row u.row k b.row_is f))
    (omega (arith, counted-few C.version.wide any C.version.max_items file read_item s.at s.tags n a.is, counted-few C.version.wide (NotBoth (length a.value)) C.version.max_items file read_agg t.at t.tags n b.is))

-- ── conditions and joins ────────────────────────────────────────────────────────────────────

module _ (file : List ℕ) (at tags : ℕ) where
  pub cond-bad : {code p : ℕ} → ((tags n : ℕ) → below 2 file at tags n ≡ bad code p) → (n : ℕ) → read_cond file at tags n ≡ bad code p
  unfolding read_cond
  cond-bad e n = rw (e tags n)

module _ (file : List ℕ) (s : Spot) (c : List ℕ) {x next : ℕ} (e : (tags n : ℕ) → below 2 file s.at tags n ≡ ok x next tags n) where
  pub cond-none : x ≡ 0 → s.tags ≤ max_tags → RightAt cond_store read_cond file s s.tags c c [] [] (Ok (spot next s.tags s.made s.row))
  unfolding read_cond cond_cells cond_nodes
  cond-none h l n =
      record { value = none; is = rw (e s.tags n, eq-eqb x 0 h); made_is = omega arith; row_is = omega arith; cells_are = refl; rows_are = refl; grown = omega arith; few = l }

  pub cond-right : (x ≡ 0 → ⊥) → (c1 : List ℕ) (r : Result Spot Refusal) → Reads file (spot next s.tags s.made s.row) c c1 r → RightAt cond_store read_cond file s s.tags c c1 [] [] r
  unfolding read_cond cond_cells cond_nodes
  cond-right h c1 (Ok t) a n =
      let b = a (suc max_tags) (omega arith) n in
      right_as cond_store (spot next s.tags s.made s.row) s c c1 [] [] n (Ok t) refl refl (omega arith) refl
      (took_as cond_store b (some b.value) refl refl refl refl (rw (e s.tags n, ne_eqb x 0 h, b.is)))
  cond-right h c1 (Err e₁) a n = rw (e s.tags n, ne_eqb x 0 h, a (suc max_tags) (omega arith) n)

cond-numbers : (made m y z : ℕ) (c : Option Expr) → m ≡ made + cond_nodes c → (m ≡ made → y ≡ 0) → (made < m → y ≡ 1) → (m ≡ made → z ≡ 0) → (made < m → z ≡ m - 1) →
    (y ≡ bit (given c)) × (z ≡ cond_root made c)
unfolding cond_nodes cond_root root_of given bit
cond-numbers made m y z none h p q f g = (p (omega arith), f (omega arith))
cond-numbers made m y z (some e) h p q f g = let l : made < m = omega (arith, h, expr_some e) in (q l, g l ∙ ap (λ (k : ℕ). k - 1) h)

join-node : {m l x j y b z d : ℕ} (second row : ℕ) → m ≡ l → x ≡ j → y ≡ b → z ≡ d → 10 ∷ second ∷ row ∷ m ∷ x ∷ y ∷ z ∷ [] ≡ 10 ∷ second ∷ row ∷ l ∷ j ∷ b ∷ d ∷ []
join-node second row e f g h = cc

pub join-took : (C : Catalogue) (place : ℕ) (file : List ℕ) (s : Spot) (c c1 c2 w w1 : List ℕ) (n : ℕ) (t u : Spot) (m y z : ℕ) {x next : ℕ} →
    below 8 file s.at s.tags n ≡ ok x next s.tags n → x < 8 → m ≡ t.row - s.row → (u.made ≡ t.made → y ≡ 0) → (t.made < u.made → y ≡ 1) →
    (u.made ≡ t.made → z ≡ 0) → (t.made < u.made → z ≡ u.made - 1) →
    (a : Took (list_store on_store) s c c1 w w1 n (counted 1 any max_keys read_on file next s.tags n) t) (b : Took cond_store t c1 c2 w1 w1 n (read_cond file t.at t.tags n) u) →
    TookHead C.version 10 0 s c c2 w w1 n (read_head C place 10 file s.at s.tags n) u (four m x y z) (h2 (join (join_of x) a.value b.value))
unfolding read_head read_join binary_nodes binary_rows_in binary_cells binary_rows binary_node
join-took C place file s c c1 c2 w w1 n t u m y z {x} {next} e l f p q g h a b =
    let k = cond-numbers t.made u.made y z b.value b.made_is p q g h in
    head-two C.version 10 0 s t u c c1 c2 w w1 w1 n (four m x y z) (list-sized on_store (sized_of kind.On)) a b (h2 (join (join_of x) a.value b.value))
    (record { nodes = refl; rows_in = omega (arith, all_one on_store (λ v. refl) a.value); cells = refl; rows = sym (append-nil (all_rows on_store s.made a.value)) })
    (rw (e, a.is, b.is))
    (λ second.
    join-node second s.row (list-rows on_store (λ v. refl) a.value s.row t.row m a.row_is f) (sym (join-number x l)) k.0
    (k.1 ∙ ap (λ (d : ℕ). cond_root d b.value) a.made_is))
    (omega (arith, many_nodes on_store on_some a.value))

-- ── nodes without parts ─────────────────────────────────────────────────────────────────────

module _ (C : Catalogue) (place : ℕ) (file : List ℕ) (s : Spot) (l : s.tags ≤ max_tags) (c w : List ℕ) (n : ℕ) where
  pub limit-took : {x y after next : ℕ} → field 4 file s.at s.tags n ≡ ok x after s.tags n → field 4 file after s.tags n ≡ ok y next s.tags n → y < 256 ^ 4 →
      TookHead C.version 4 0 s c c w w n (read_head C place 4 file s.at s.tags n) (spot next s.tags s.made s.row) (four 0 x y 0) (h1 (limit x (fetch_of y)))
  unfolding read_head read_limit unary_nodes unary_rows_in unary_cells unary_rows unary_node
  limit-took {x} {y} {after} {next} e f h =
      head-bare C.version 4 s next c w n (four 0 x y 0) (h1 (limit x (fetch_of y))) refl refl refl refl (rw (e, f)) (rw (fetch_number_lem y (omega arith)).1) l

  pub alias-took : {q next : ℕ} → nonzero 2 file s.at s.tags n ≡ ok q next s.tags n →
      TookHead C.version 7 0 s c c w w n (read_head C place 7 file s.at s.tags n) (spot next s.tags s.made s.row) (four 0 q 0 0) (h1 (subquery_alias q))
  unfolding read_head unary_nodes unary_rows_in unary_cells unary_rows unary_node
  alias-took {q} {next} e = head-bare C.version 7 s next c w n (four 0 q 0 0) (h1 (subquery_alias q)) refl refl refl refl (rw e) refl l

  pub union-took : (v : Version) → TookHead v 8 0 s c c w w n (read_head C place 8 file s.at s.tags n) s (four 0 0 0 0) (h2 union)
  unfolding read_head binary_nodes binary_rows_in binary_cells binary_rows binary_node
  union-took v = head-bare v 8 s s.at c w n (four 0 0 0 0) (h2 union) refl refl refl refl refl (λ second. refl) l

  pub distinct-took : (v : Version) → TookHead v 9 0 s c c w w n (read_head C place 9 file s.at s.tags n) s (four 0 0 0 0) (h1 distinct)
  unfolding read_head unary_nodes unary_rows_in unary_cells unary_rows unary_node
  distinct-took v = head-bare v 9 s s.at c w n (four 0 0 0 0) (h1 distinct) refl refl refl refl refl refl l

-- ── scans ───────────────────────────────────────────────────────────────────────────────────

columns-sized : Sized columns_store
columns-sized = record { cells_long = λ made is. refl; rows_long = λ made is. (list-sized column_store (sized_of (kind.Column 0 0))).rows_long made (columns_of is) ∙ ap (λ (k : ℕ). 4 * k) (all_one column_store (λ y. refl) (columns_of is)) }

module _ (v : Version) (columns x : ℕ) (file : List ℕ) where
  pub columns-none : (s : Spot) (c w : List ℕ) → x ≡ 0 → s.tags ≤ max_tags → RightAt columns_store (columns_rest v columns x) file s s.tags c c w w (Ok s)
  unfolding columns_of all_rows
  columns-none s c w h l n =
      record { value = none; is = rw (eq-eqb x 0 h); made_is = omega arith; row_is = omega arith; cells_are = refl; rows_are = refl; grown = omega arith; few = l }

  pub columns-right : (s : Spot) (c c1 w w1 : List ℕ) → (x ≡ 0 → ⊥) → (r : Result Spot Refusal) →
      RightAt (list_store column_store) (counted v.wide any v.max_columns (index v.wide columns)) file s s.tags c c1 w w1 r →
      RightAt columns_store (columns_rest v columns x) file s s.tags c c1 w w1 r
  unfolding columns_of
  columns-right s c c1 w w1 h (Ok t) a n =
      let b = a n in
      took_as columns_store b (some b.value) (sym (plain-nodes column_store (λ y. refl) b.value)) (sym (all_one column_store (λ y. refl) b.value))
      (sym (plain_cells column_store (λ k y. refl) s.made b.value)) refl (rw (ne_eqb x 0 h, b.is))
  columns-right s c c1 w w1 h (Err e₁) a n = rw (ne_eqb x 0 h, a n)

-- not too many, and given where x says so
Columned : Version → (x : ℕ) → Option (List ℕ) → Type 0
Columned v x is = (length (columns_of is) ≤ v.max_columns) × (x < 2 → x ≡ bit (given is))

columns-holds : (v : Version) (columns x : ℕ) (file : List ℕ) (at tags n : ℕ) → Holds (λ is a t m. Columned v x is) (columns_rest v columns x file at tags n)
unfolding columns_of given bit Columned
columns-holds v columns zero file at tags n = (omega arith, λ h. refl)
columns-holds v columns (suc x) file at tags n = rw (ne_eqb (suc x) 0 (λ e. omega arith)) (go (counted v.wide any v.max_columns (index v.wide columns) file at tags n) refl)
  where
    go : (r : Res (List ℕ)) → counted v.wide any v.max_columns (index v.wide columns) file at tags n ≡ r → Holds (λ is a t m. Columned v (suc x) is) (and_then r (λ is a t m. ok (some is) a t m))
    go (ok is a t m) e = (counted-few v.wide any v.max_columns file (index v.wide columns) at tags n e, λ h. omega arith)
    go (bad code p) e = tt

columned : (v : Version) (columns x : ℕ) (file : List ℕ) (at tags n : ℕ) {is : Option (List ℕ)} {at' tags' n' : ℕ} → columns_rest v columns x file at tags n ≡ ok is at' tags' n' → Columned v x is
columned v columns x file at tags n e = holds-ok (λ is a t m. Columned v x is) e (columns-holds v columns x file at tags n)

pub few-columns : (v : Version) (columns x : ℕ) (file : List ℕ) (at tags n : ℕ) {is : Option (List ℕ)} {at' tags' n' : ℕ} → columns_rest v columns x file at tags n ≡ ok is at' tags' n' →
    length (columns_of is) ≤ v.max_columns
unfolding Columned
few-columns v columns x file at tags n e = (columned v columns x file at tags n e).0

scan-node : {k l m o x z : ℕ} (row i q : ℕ) → k ≡ l → m ≡ o → x ≡ z → 11 ∷ k ∷ row ∷ m ∷ i ∷ q ∷ x ∷ [] ≡ 11 ∷ l ∷ row ∷ o ∷ i ∷ q ∷ z ∷ []
scan-node row i q e f g = cc

pub over-took : (v : Version) (file : List ℕ) (s : Spot) (c c1 c2 w w1 w2 : List ℕ) (n : ℕ) (t u : Spot) (i q columns : ℕ) {x next : ℕ} → below 2 file s.at s.tags n ≡ ok x next s.tags n → x < 2 →
    v.max_columns ≤ node_rows v → (m k : ℕ) → m ≡ t.row - s.row → k ≡ u.row - t.row → (a : Took columns_store s c c1 w w1 n (columns_rest v columns x file next s.tags n) t) →
    (b : Took (list_store expr_store) t c1 c2 w1 w2 n (counted v.late any v.max_filters read_expr file t.at t.tags n) u) →
    TookHead v 11 k s c c2 w w2 n (scan_rest v i q columns file s.at s.tags n) u (four m i q x) (h0 (scan i q a.value b.value))
unfolding read_columns leaf_cells leaf_rows leaf_nodes leaf_rows_in leaf_node Columned
over-took v file s c c1 c2 w w1 w2 n t u i q columns {x} {next} e l j m k f g a b =
    let d = columned v columns x file next s.tags n a.is in
    head-two v 11 k s t u c c1 c2 w w1 w2 n (four m i q x) columns-sized a b (h0 (scan i q a.value b.value))
    (record { nodes = omega arith; rows_in = omega (arith, all_one expr_store (λ y. refl) b.value); cells = rw (add-zero s.made); rows = rw (add-zero s.made) })
    (rw (e, a.is, b.is))
    (scan-node s.row i q (list-rows expr_store (λ y. refl) b.value t.row u.row k b.row_is g) (omega (arith, f, a.row_is)) (d.1 l))
    (omega (arith, d.0, j, many_nodes expr_store expr_some b.value))

module _ (v : Version) (i q columns : ℕ) (file : List ℕ) (at tags n : ℕ) where
  pub over-bad : {code p : ℕ} → below 2 file at tags n ≡ bad code p → scan_rest v i q columns file at tags n ≡ bad code p
  unfolding read_columns
  over-bad e = rw e

  pub over-bad-columns : {x next code p : ℕ} → below 2 file at tags n ≡ ok x next tags n → columns_rest v columns x file next tags n ≡ bad code p → scan_rest v i q columns file at tags n ≡ bad code p
  unfolding read_columns
  over-bad-columns e f = rw (e, f)

  pub over-bad-filters : {x next end used code p : ℕ} {is : Option (List ℕ)} → below 2 file at tags n ≡ ok x next tags n → columns_rest v columns x file next tags n ≡ ok is end used n →
      counted v.late any v.max_filters read_expr file end used n ≡ bad code p → scan_rest v i q columns file at tags n ≡ bad code p
  unfolding read_columns
  over-bad-filters e f g = rw (e, f, g)

-- no node has another tag
pub head-value : (C : Catalogue) (place t : ℕ) (file : List ℕ) (at tags n : ℕ) → (t ≡ 1 → ⊥) → (t ≡ 2 → ⊥) → (t ≡ 3 → ⊥) → (t ≡ 4 → ⊥) → (t ≡ 5 → ⊥) → (t ≡ 6 → ⊥) → (t ≡ 7 → ⊥) → (t ≡ 8 → ⊥) →
    (t ≡ 9 → ⊥) → (t ≡ 10 → ⊥) → (t ≡ 11 → ⊥) → (t ≡ 12 → ⊥) → read_head C place t file at tags n ≡ bad VALUE place
unfolding read_head
head-value C place t file at tags n a b c d e f g h i j k l =
    rw (ne_eqb t 1 a, ne_eqb t 2 b, ne_eqb t 3 c, ne_eqb t 4 d, ne_eqb t 5 e, ne_eqb t 6 f, ne_eqb t 7 g, ne_eqb t 8 h, ne_eqb t 9 i, ne_eqb t 10 j, ne_eqb t 11 k, ne_eqb t 12 l)
