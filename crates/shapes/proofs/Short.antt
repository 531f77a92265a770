-- A node of few parts and few tags has a short head: so the bytes of a plan of few nodes can be counted. Assumes nothing.
use mathlib.Core.Path.{◌≡◌, refl, ap}
use mathlib.Core.Bool.{Bool, true, false}
use mathlib.Core.List.{List, [], ◌∷◌, ◌++◌}
use mathlib.Core.Option.{Option, none, some}
use Prim.Native.Nat.{ℕ, ◌+◌, ◌*◌, ◌/◌, ◌^◌, ◌<◌, ◌≤◌}
use native.Mathlib.Omega.{arith}
use lib.ListN.{length, length-append}
use Rattle.cpl.specs.Bytes.{agg_bytes, binary_bytes, bytes, call_bytes, call_number, columns_bytes, cond_bytes, counted_bytes, expr_bytes, fetch_number, item_bytes, key_bytes, leaf_bytes, on_bytes, pair_bytes, unary_bytes, win_bytes}
use Rattle.cpl.specs.Codes.{unsigned}
use Rattle.cpl.specs.Exprs.{agg_exprs, agg_tags, binary_tags, call_exprs, cond_exprs, expr_tags, item_tags, key_tags, leaf_tags, on_tags, unary_tags, win_tags}
use Rattle.cpl.specs.Limits.{Version}
use Rattle.cpl.specs.Plan.{Agg, Binary, Call, Catalogue, Expr, Item, Key, Leaf, On, Pair, Unary, Win, agg, aggregate, bare, bin, col, distinct, empty, filter, join, key, key_expr, limit, lit, miss, named, on, over, projection, rows, scan, sort, subquery_alias, un, union, win, window}
use Rattle.cpl.specs.ReadPlan.{Head, h0, h1, h2}
use Rattle.cpl.specs.Tests.{concat_map, sum_of}
use Rattle.cpl.specs.Writable.{FitBinary, FitColumns, FitLeaf, FitList, FitUnary}
use Rattle.rules.specs.Mask.{Mask, select}
use Rattle.required_indices.specs.Set.{set_mask}
use Rattle.versions.proofs.Small.{Small}
use Rattle.result.specs.Result.{unary_part}
use Rattle.writer_parts.proofs.Over.{length-bytes}
use Rattle.writer_parts.proofs.Rows.{a-pair-length}
use Rattle.writer_parts.proofs.Lists.{counted-length, list_length}
use Rattle.tree.specs.Rows.{one}
use Rattle.shapes.specs.Shapes.{kept_bytes, kept_tags, leaf_keeps, scan_columns}
use Rattle.shapes.proofs.Heads.{iota-list}

-- ── parts ───────────────────────────────────────────────────────────────────────────────────

some-tag : (e : Expr) → 0 < expr_tags e
unfolding expr_tags
some-tag (col c) = omega arith
some-tag (lit z) = omega arith
some-tag miss = omega arith
some-tag (un o a) = omega arith
some-tag (bin o a b) = omega arith

-- at most nine bytes for a tag
expr_short : (e : Expr) → length (expr_bytes e) ≤ 9 * expr_tags e
unfolding expr_bytes expr_tags
expr_short (col c) = omega (arith, a-pair-length c)
expr_short (lit z) = omega (arith, length-bytes 8 (unsigned z))
expr_short miss = omega arith
expr_short (un o a) = omega (arith, expr_short a)
expr_short (bin o a b) = omega (arith, expr_short a, expr_short b, length-append (expr_bytes a) (expr_bytes b))

item_short : (i : Item) → length (item_bytes i) ≤ 7 + 10 * item_tags i
unfolding item_bytes item_tags
item_short (bare c) = omega (arith, a-pair-length c)
item_short (named c e) = omega (arith, a-pair-length c, expr_short e, length-append (pair_bytes c) (expr_bytes e))

key_short : (k : Key) → length (key_bytes k) ≤ 10 * key_tags k
unfolding key_bytes key_tags key_expr
key_short (key d m e) = omega (arith, expr_short e, some-tag e)

call_short : (f : Call) → length (call_bytes f) ≤ 10 * sum_of expr_tags (call_exprs f)
unfolding call_bytes call_exprs sum_of
call_short rows = omega arith
call_short (over f e) = omega (arith, expr_short e)

agg_short : (a : Agg) → length (agg_bytes a) ≤ 7 + 10 * agg_tags a
unfolding agg_bytes agg_tags agg_exprs
agg_short (agg c f) = omega (arith, a-pair-length c, call_short f, length-append (pair_bytes c) (call_number f ∷ call_bytes f))

on_short : (o : On) → length (on_bytes o) ≤ 10 * on_tags o
unfolding on_bytes on_tags
on_short (on a b) = omega (arith, expr_short a, expr_short b, length-append (expr_bytes a) (expr_bytes b))

cond_short : (c : Option Expr) → length (cond_bytes c) ≤ 1 + 10 * sum_of expr_tags (cond_exprs c)
unfolding cond_bytes cond_exprs sum_of
cond_short none = omega arith
cond_short (some e) = omega (arith, expr_short e)

-- ── lists of parts ──────────────────────────────────────────────────────────────────────────

module _ {A : Type 0} (f : A → List ℕ) (g : A → ℕ) where
  all-tight : ((x : A) → length (f x) ≤ 10 * g x) → (xs : List A) → length (concat_map f xs) ≤ 10 * sum_of g xs
  unfolding concat_map sum_of
  all-tight h [] = omega arith
  all-tight h (x ∷ xs) = omega (arith, h x, all-tight h xs, length-append (f x) (concat_map f xs))

  tight : (k : ℕ) → ((x : A) → length (f x) ≤ 10 * g x) → (xs : List A) → length (counted_bytes k f xs) ≤ k + 10 * sum_of g xs
  unfolding counted_bytes
  tight k h xs = omega (arith, all-tight h xs, counted-length k (length xs) (concat_map f xs))

  all_loose : ((x : A) → length (f x) ≤ 7 + 10 * g x) → (xs : List A) → length (concat_map f xs) ≤ 7 * length xs + 10 * sum_of g xs
  unfolding concat_map sum_of
  all_loose h [] = omega arith
  all_loose h (x ∷ xs) = omega (arith, h x, all_loose h xs, length-append (f x) (concat_map f xs))

  loose : (k : ℕ) → ((x : A) → length (f x) ≤ 7 + 10 * g x) → (xs : List A) → length (counted_bytes k f xs) ≤ k + (7 * length xs + 10 * sum_of g xs)
  unfolding counted_bytes
  loose k h xs = omega (arith, all_loose h xs, counted-length k (length xs) (concat_map f xs))

-- of a part of a list there is no more
pub fewer : {A : Type 0} (m : Mask) (xs : List A) → length (select m xs) ≤ length xs
unfolding select
fewer [] xs = omega arith
fewer (b ∷ m) [] = omega arith
fewer (true ∷ m) (x ∷ xs) = omega (arith, fewer m xs)
fewer (false ∷ m) (x ∷ xs) = omega (arith, fewer m xs)

fewer_tags : {A : Type 0} (g : A → ℕ) (m : Mask) (xs : List A) → sum_of g (select m xs) ≤ sum_of g xs
unfolding select sum_of
fewer_tags g [] xs = omega arith
fewer_tags g (b ∷ m) [] = omega arith
fewer_tags g (true ∷ m) (x ∷ xs) = omega (arith, fewer_tags g m xs)
fewer_tags g (false ∷ m) (x ∷ xs) = omega (arith, fewer_tags g m xs)

win_short : (w : Win) → length (win_bytes w) ≤ 7 + 10 * win_tags w
unfolding win_bytes win_tags
win_short (win c f ps ks) =
    omega (
      arith,
      a-pair-length c,
      tight expr_bytes expr_tags 1 (λ e. omega (arith, expr_short e)) ps,
      tight key_bytes key_tags 1 key_short ks,
      call_short f,
      length-append (pair_bytes c) (call_number f ∷ (counted_bytes 1 expr_bytes ps ++ (counted_bytes 1 key_bytes ks ++ call_bytes f))),
      length-append (counted_bytes 1 expr_bytes ps) (counted_bytes 1 key_bytes ks ++ call_bytes f),
      length-append (counted_bytes 1 key_bytes ks) (call_bytes f),
    )

-- ── heads ───────────────────────────────────────────────────────────────────────────────────

-- lists that the tags do not bound are short
abbrev FewParts : Unary → Type 0
FewParts (projection is) = length is ≤ 512
FewParts (filter e) = Unit {0}
FewParts (sort ks) = Unit {0}
FewParts (limit s n) = Unit {0}
FewParts (aggregate gs vs) = (length gs ≤ 512) × (length vs ≤ 512)
FewParts (window ws) = length ws ≤ 512
FewParts (subquery_alias q) = Unit {0}
FewParts distinct = Unit {0}

-- a head that can be written
abbrev pub FitHead : Catalogue → Head → Type 0
FitHead C (h0 h) = FitLeaf C h
FitHead C (h1 h) = FitUnary C.version h
FitHead C (h2 h) = FitBinary h

abbrev pub own_tags : Head → ℕ
own_tags (h0 h) = leaf_tags h
own_tags (h1 h) = unary_tags h
own_tags (h2 h) = binary_tags h

binary_short : (h : Binary) → length (binary_bytes h) ≤ 8000 + 10 * binary_tags h
unfolding binary_bytes binary_tags
binary_short union = omega arith
binary_short (join t os c) = omega (arith, tight on_bytes on_tags 1 on_short os, cond_short c, length-append (counted_bytes 1 on_bytes os) (cond_bytes c))

-- things without tags
no_tags : {A : Type 0} (xs : List A) → sum_of (λ (x : A). 0) xs ≡ 0
unfolding sum_of
no_tags [] = refl
no_tags (x ∷ xs) = omega (arith, no_tags xs)

module _ (v : Version) (t : Small v) where
  pub unary_short : (h : Unary) → FewParts h → length (unary_bytes v h) ≤ 8000 + 10 * unary_tags h
  unfolding unary_bytes unary_tags
  unary_short (projection is) l = omega (arith, t.wide-small, l, loose item_bytes item_tags v.wide item_short is)
  unary_short (filter e) l = omega (arith, expr_short e)
  unary_short (sort ks) l = omega (arith, tight key_bytes key_tags 1 key_short ks)
  unary_short (limit s n) l = omega (arith, length-append (bytes 4 s) (bytes 4 (fetch_number n)), length-bytes 4 s, length-bytes 4 (fetch_number n))
  unary_short (aggregate gs vs) l =
      omega (
        arith,
        t.wide-small,
        l.0,
        l.1,
        loose item_bytes item_tags v.wide item_short gs,
        loose agg_bytes agg_tags v.wide agg_short vs,
        length-append (counted_bytes v.wide item_bytes gs) (counted_bytes v.wide agg_bytes vs),
      )
  unary_short (window ws) l = omega (arith, t.wide-small, l, loose win_bytes win_tags v.wide win_short ws)
  unary_short (subquery_alias q) l = omega (arith, length-bytes 2 q)
  unary_short distinct l = omega arith

  numbers_short : (xs : List ℕ) → length xs ≤ 512 → length (counted_bytes v.wide (bytes v.wide) xs) ≤ 4000
  numbers_short xs l =
      omega (arith, t.wide-small, l, loose (bytes v.wide) (λ x. 0) v.wide (λ x. omega (arith, t.wide-small, length-bytes v.wide x)) xs, no_tags xs)

  pairs_short : (xs : List Pair) → length xs ≤ 512 → length (counted_bytes v.wide pair_bytes xs) ≤ 4000
  pairs_short xs l = omega (arith, t.wide-small, l, loose pair_bytes (λ x. 0) v.wide (λ c. omega (arith, a-pair-length c)) xs, no_tags xs)

  filters_short : (es : List Expr) → length (counted_bytes v.late expr_bytes es) ≤ 1 + 10 * sum_of expr_tags es
  filters_short es = omega (arith, t.late-small, tight expr_bytes expr_tags v.late (λ e. omega (arith, expr_short e)) es)

  -- ── heads of which a set's part is kept ──
  module _ (w s : ℕ) where
    part-few : (h : Unary) → FitUnary v h → FewParts (unary_part s h)
    unfolding unary_part FitUnary FitList
    part-few (projection is) f = omega (arith, t.items-small, f.0)
    part-few (filter e) f = tt
    part-few (sort ks) f = tt
    part-few (limit k n) f = tt
    part-few (aggregate gs vs) f = (omega (arith, t.items-small, f.1.0, fewer (set_mask (length gs) s) gs), omega (arith, t.items-small, f.2.0, fewer (set_mask (length vs) (s / 2 ^ length gs)) vs))
    part-few (window ws) f = omega (arith, t.items-small, f.1.0, fewer (set_mask (length ws) s) ws)
    part-few (subquery_alias q) f = tt
    part-few distinct f = tt

    columns-few : (c : ℕ) (is : Option (List ℕ)) → w ≤ 512 → FitColumns v c is → length (scan_columns w is) ≤ 512
    unfolding FitColumns FitList
    columns-few c none l f = omega (arith, l, ap length (iota-list 0 w), list_length (λ i. i) one 0 w)
    columns-few c (some is) l f = omega (arith, t.columns-small, f.0)

    scan_short : (n q c : ℕ) (is : Option (List ℕ)) (es : List Expr) → w ≤ 512 → FitColumns v c is →
        length (leaf_bytes v (leaf_keeps w s (scan n q is es))) ≤ 8000 + 10 * leaf_tags (leaf_keeps w s (scan n q is es))
    unfolding leaf_bytes leaf_tags columns_bytes
    scan_short n q c is es l f =
        let xs = select (set_mask (length (scan_columns w is)) s) (scan_columns w is) in
        let m = fewer (set_mask (length (scan_columns w is)) s) (scan_columns w is) in
        let cs = counted_bytes v.wide (bytes v.wide) xs in
        let fs = counted_bytes v.late expr_bytes es in
        omega (
          arith,
          numbers_short xs (omega (arith, m, columns-few c is l f)),
          filters_short es,
          length-append (bytes 1 n) (bytes 2 q ++ ((1 ∷ cs) ++ fs)),
          length-append (bytes 2 q) ((1 ∷ cs) ++ fs),
          length-append cs fs,
          length-bytes 1 n,
          length-bytes 2 q,
        )

    pairs-few : (b : Bool) (cs : List Pair) → length cs ≤ 512 → length (leaf_bytes v (empty b cs)) ≤ 8000 + 10 * leaf_tags (empty b cs)
    unfolding leaf_bytes leaf_tags
    pairs-few b cs l = omega (arith, pairs_short cs l)

module _ (w s : ℕ) where
  part-tags : (h : Unary) → unary_tags (unary_part s h) ≤ unary_tags h
  unfolding unary_part unary_tags
  part-tags (projection is) = omega arith
  part-tags (filter e) = omega arith
  part-tags (sort ks) = omega arith
  part-tags (limit k n) = omega arith
  part-tags (aggregate gs vs) = omega (arith, fewer_tags item_tags (set_mask (length gs) s) gs, fewer_tags agg_tags (set_mask (length vs) (s / 2 ^ length gs)) vs)
  part-tags (window ws) = omega (arith, fewer_tags win_tags (set_mask (length ws) s) ws)
  part-tags (subquery_alias q) = omega arith
  part-tags distinct = omega arith

  leaf-tags : (h : Leaf) → leaf_tags (leaf_keeps w s h) ≤ leaf_tags h
  unfolding leaf_tags
  leaf-tags (scan t q is es) = omega arith
  leaf-tags (empty b cs) = omega arith

  pub kept_less : (h : Head) → kept_tags w s h ≤ own_tags h
  kept_less (h0 h) = leaf-tags h
  kept_less (h1 h) = part-tags h
  kept_less (h2 h) = omega arith

  module _ (C : Catalogue) (o : Small C.version) (l : w ≤ 512) where
    leaf_short : (h : Leaf) → FitLeaf C h → length (leaf_bytes C.version (leaf_keeps w s h)) ≤ 8000 + 10 * leaf_tags (leaf_keeps w s h)
    unfolding FitLeaf FitList
    leaf_short (scan t q is es) f = scan_short C.version o w s t q _ is es l f.2
    leaf_short (empty b cs) f = pairs-few C.version o w s b cs (omega (arith, o.items-small, f.0))

    pub kept_short : (h : Head) → FitHead C h → length (kept_bytes C.version w s h) ≤ 8000 + 10 * kept_tags w s h
    kept_short (h0 h) f = leaf_short h f
    kept_short (h1 h) f = unary_short C.version o (unary_part s h) (part-few C.version o w s h f)
    kept_short (h2 h) f = binary_short h
