-- A node without its inputs is read as it is written. Assumes nothing.
use Prim.Native.Nat.{ℕ, ◌≤◌, ◌<◌}
use mathlib.Core.Path.{◌≡◌, refl, sym, ap}
use mathlib.Core.Bool.{Bool}
use mathlib.Core.List.{List, ◌∷◌, ◌++◌}
use native.Mathlib.Omega.{arith}
use lib.ListN.{length, get_or, drop}
use lib.Dec.{eqb}
use borrow.Author.Tests.{eqb-true}
use Rattle.cpl.specs.Limits.{Version, max_keys}
use Rattle.cpl.specs.Plan.{Expr, Item, Key, Win, scan, empty, projection, filter, sort, limit, aggregate, window, subquery_alias, distinct, JoinType, union, join, Catalogue, names_of}
use Rattle.cpl.specs.Codes.{bit, join_number, join_of}
use Rattle.cpl.specs.Exprs.{leaf_tags, unary_tags, binary_tags}
use Rattle.cpl.specs.ReadPlan.{Head, h0, h1, h2, fetch_of, read_limit, read_aggregate, read_join, read_scan, read_empty, read_head}
use Rattle.cpl.specs.Bytes.{bytes, counted_bytes, pair_bytes, on_bytes, cond_bytes, fetch_number, leaf_bytes, unary_bytes, binary_bytes}
use Rattle.cpl.specs.Writable.{FitList, FitLeaf, FitUnary, FitBinary, FitCatalogue}
use Rattle.cpl.proofs.Versions.{Sound, sound}
use Rattle.cpl.proofs.Codec.{Reads, reads-give, reads_then, reads-map, reads_as, only_give, only_refuse, only_then, only_map, only_in, only_pick, Codec, nought}
use Rattle.cpl.proofs.FieldTrip.{field_codec, name_codec, below_codec, byte_codec, counted_codec, list_codec, some_codec, plain_codec}
use Rattle.cpl.proofs.CodeTrip.{join-number, bit-number, number-join, number_bit}
use Rattle.cpl.proofs.ExprTrip.{pair_codec, expr_codec}
use Rattle.cpl.proofs.PartTrip.{item_codec, key_codec, agg_codec, win_codec, on_codec, cond_codec, columns_codec, number_fetch, fetch_number_lem, not-both, some_of}
use Rattle.cpl.proofs.CatalogueTrip.{few-columns}

-- ── heads ───────────────────────────────────────────────────────────────────────────────────

abbrev pub head_bytes : Version → Head → List ℕ
head_bytes v (h0 h) = leaf_bytes v h
head_bytes v (h1 h) = unary_bytes v h
head_bytes v (h2 h) = binary_bytes h

abbrev pub head_tags : Head → ℕ
head_tags (h0 h) = leaf_tags h
head_tags (h1 h) = unary_tags h
head_tags (h2 h) = binary_tags h

abbrev pub FitHead : Catalogue → Head → Type 0
FitHead C (h0 h) = FitLeaf C h
FitHead C (h1 h) = FitUnary C.version h
FitHead C (h2 h) = FitBinary h

-- the bytes of a head are its tag and a rest
abbrev pub head_tag : Version → Head → ℕ
head_tag v h = get_or (head_bytes v h) 0 0

abbrev pub head_rest : Version → Head → List ℕ
head_rest v h = drop 1 (head_bytes v h)

pub head_bytes_lem : (v : Version) (h : Head) → (head_tag v h < 256) × (head_tag v h ∷ head_rest v h ≡ head_bytes v h)
unfolding leaf_bytes unary_bytes binary_bytes
head_bytes_lem v (h0 (scan t q is es)) = (omega arith, refl)
head_bytes_lem v (h0 (empty b cs)) = (omega arith, refl)
head_bytes_lem v (h1 (projection is)) = (omega arith, refl)
head_bytes_lem v (h1 (filter e)) = (omega arith, refl)
head_bytes_lem v (h1 (sort ks)) = (omega arith, refl)
head_bytes_lem v (h1 (limit s n)) = (omega arith, refl)
head_bytes_lem v (h1 (aggregate gs vs)) = (omega arith, refl)
head_bytes_lem v (h1 (window ws)) = (omega arith, refl)
head_bytes_lem v (h1 (subquery_alias q)) = (omega arith, refl)
head_bytes_lem v (h1 distinct) = (omega arith, refl)
head_bytes_lem v (h2 union) = (omega arith, refl)
head_bytes_lem v (h2 (join t os c)) = (omega arith, refl)

module _ (C : Catalogue) (tables : FitCatalogue C) (p : ℕ) where
  abbrev v : Version
  v = C.version

  abbrev laws : Sound v
  laws = sound tables.version_is

  few_tables : length C.tables ≤ 256
  unfolding FitList
  few_tables = omega (arith, tables.tables_fit.0)

  head-reads : (h : Head) → FitHead C h → Reads (read_head C p (head_tag v h)) h (head_rest v h) (head_tags h) 0
  unfolding read_head read_limit read_aggregate read_join read_scan read_empty FitLeaf FitUnary FitBinary leaf_bytes unary_bytes binary_bytes leaf_tags unary_tags binary_tags
  head-reads (h0 (scan t q is es)) g =
      reads-map h0
      (reads_as refl refl (omega arith) refl
      (reads_then _ ((below_codec (length C.tables) few_tables).reads t g.0)
      (reads_then _ (name_codec.reads q g.1)
      (reads_then _ ((columns_codec v laws (length (names_of C t)) (few-columns C tables t)).reads is g.2) (reads-map (scan t q is) ((list_codec expr_codec v.late v.max_filters laws.filters-fit).reads es g.3))))))
  head-reads (h0 (empty b cs)) g =
      let n = number_bit b in
      reads-map h0
      (reads_then _ ((byte_codec 2 (omega arith)).reads (bit b) n.0)
      (reads_as (ap (λ (x : Bool). empty x cs) n.1) refl refl refl (reads-map (empty (eqb (bit b) 1)) ((plain_codec pair_codec v.wide v.max_items laws.items-fit).reads cs g))))
  head-reads (h1 (projection is)) g = reads-map (λ (x : List Item). h1 (projection x)) ((list_codec item_codec v.wide v.max_items laws.items-fit).reads is g)
  head-reads (h1 (filter e)) g = reads-map (λ (x : Expr). h1 (filter x)) (expr_codec.reads e g)
  head-reads (h1 (sort ks)) g = reads-map (λ (x : List Key). h1 (sort x)) ((some_codec key_codec 1 max_keys (omega arith)).reads ks g)
  head-reads (h1 (limit s n)) g =
      let f = number_fetch n g.1 in
      reads-map h1
      (reads_then _ ((field_codec 4).reads s g.0)
      (reads_as (ap (limit s) f.1) refl refl refl (reads-map (λ (x : ℕ). limit s (fetch_of x)) ((field_codec 4).reads (fetch_number n) f.0))))
  head-reads (h1 (aggregate gs vs)) g =
      reads-map h1
      (reads_then _ ((list_codec item_codec v.wide v.max_items laws.items-fit).reads gs g.1)
      (reads-map (aggregate gs) ((counted_codec agg_codec v.wide _ v.max_items laws.items-fit).reads vs (some_of (length gs) (length vs) g.0, g.2))))
  head-reads (h1 (window ws)) g = reads-map (λ (x : List Win). h1 (window x)) ((some_codec win_codec v.wide v.max_items laws.items-fit).reads ws g)
  head-reads (h1 (subquery_alias q)) g = reads-map (λ (x : ℕ). h1 (subquery_alias x)) (name_codec.reads q g)
  head-reads (h1 distinct) g = reads-give
  head-reads (h2 union) g = reads-give
  head-reads (h2 (join t os c)) g =
      let n = number-join t in
      reads-map h2
      (reads_as (ap (λ (x : JoinType). join x os c) n.1) refl (omega arith) refl
      (reads_then _ ((byte_codec 8 (omega arith)).reads (join_number t) n.0)
      (reads_then _ ((list_codec on_codec 1 max_keys (omega arith)).reads os g.0) (reads-map (join (join_of (join_number t)) os) (cond_codec.reads c g.1)))))

  pub head_codec : (t : ℕ) → Codec (λ h. FitHead C h × (head_tag v h ≡ t)) (head_rest v) head_tags nought (read_head C p t)
  unfolding read_head read_limit read_aggregate read_join read_scan read_empty FitLeaf FitUnary FitBinary leaf_bytes unary_bytes binary_bytes leaf_tags unary_tags binary_tags
  head_codec t =
      record {
        reads = λ h g. rw (← g.1) (head-reads h g.0);
        only =
            only_pick (eqb t 1) (λ e. only_map (λ (x : List Item). h1 (projection x)) (list_codec item_codec v.wide v.max_items laws.items-fit) λ is g. ((g, sym (eqb-true t 1 e)), refl, refl, refl)) λ _.
            only_pick (eqb t 2) (λ e. only_map (λ (x : Expr). h1 (filter x)) expr_codec λ a g. ((g, sym (eqb-true t 2 e)), refl, refl, refl)) λ _.
            only_pick (eqb t 3) (λ e. only_map (λ (x : List Key). h1 (sort x)) (some_codec key_codec 1 max_keys (omega arith)) λ ks g. ((g, sym (eqb-true t 3 e)), refl, refl, refl)) λ _.
            only_pick (eqb t 4)
            (λ e.
            only_in h1
            (only_then _ (field_codec 4) λ s l.
            only_map (λ (x : ℕ). limit s (fetch_of x)) (field_codec 4) λ n m.
            let f = fetch_number_lem n m in
            (((l, f.0), sym (eqb-true t 4 e)), ap (λ (x : ℕ). bytes 4 s ++ bytes 4 x) (sym f.1), refl, refl)))
            λ _.
            only_pick (eqb t 5)
            (λ e.
            only_in h1
            (only_then _ (list_codec item_codec v.wide v.max_items laws.items-fit) λ gs g.
            only_map (aggregate gs) (counted_codec agg_codec v.wide _ v.max_items laws.items-fit) λ vs i. (((not-both (length gs) (length vs) i.0, g, i.1), sym (eqb-true t 5 e)), refl, refl, refl)))
            λ _.
            only_pick (eqb t 6) (λ e. only_map (λ (x : List Win). h1 (window x)) (some_codec win_codec v.wide v.max_items laws.items-fit) λ ws g. ((g, sym (eqb-true t 6 e)), refl, refl, refl)) λ _.
            only_pick (eqb t 7) (λ e. only_map (λ (x : ℕ). h1 (subquery_alias x)) name_codec λ q g. ((g, sym (eqb-true t 7 e)), refl, refl, refl)) λ _.
            only_pick (eqb t 8) (λ e. only_give ((tt, sym (eqb-true t 8 e)), refl, refl, refl)) λ _.
            only_pick (eqb t 9) (λ e. only_give ((tt, sym (eqb-true t 9 e)), refl, refl, refl)) λ _.
            only_pick (eqb t 10)
            (λ e.
            only_in h2
            (only_then _ (byte_codec 8 (omega arith)) λ x l.
            only_then _ (list_codec on_codec 1 max_keys (omega arith)) λ os g.
            only_map (join (join_of x) os) cond_codec λ c i.
            (((g, i), sym (eqb-true t 10 e)), ap (λ (y : ℕ). y ∷ (counted_bytes 1 on_bytes os ++ cond_bytes c)) (sym (join-number x l)), omega arith, refl)))
            λ _.
            only_pick (eqb t 11)
            (λ e.
            only_in h0
            (only_then _ (below_codec (length C.tables) few_tables) λ x l.
            only_then _ name_codec λ q g.
            only_then _ (columns_codec v laws (length (names_of C x)) (few-columns C tables x)) λ is i.
            only_map (scan x q is) (list_codec expr_codec v.late v.max_filters laws.filters-fit) λ es j. (((l, g, i, j), sym (eqb-true t 11 e)), refl, omega arith, refl)))
            λ _.
            only_pick (eqb t 12)
            (λ e.
            only_in h0
            (only_then _ (byte_codec 2 (omega arith)) λ x l.
            only_map (empty (eqb x 1)) (plain_codec pair_codec v.wide v.max_items laws.items-fit) λ cs g.
            ((g, sym (eqb-true t 12 e)), ap (λ (y : ℕ). y ∷ counted_bytes v.wide pair_bytes cs) (sym (bit-number x l)), refl, refl)))
            λ _. only_refuse;
      }
