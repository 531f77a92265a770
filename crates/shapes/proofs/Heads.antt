-- The shape of each kind of node is the part of the node that a record keeps, byte for byte. Assumes nothing.
use mathlib.Core.Path.{◌≡◌, refl, sym, ap, ap₂, ◌∙◌}
use mathlib.Core.Bool.{Bool, true, false, cond}
use mathlib.Core.List.{List, [], ◌∷◌, ◌++◌, append-nil}
use mathlib.Core.Option.{none, some}
use Prim.Native.Nat.{ℕ, zero, suc, ◌+◌, ◌*◌, ◌/◌, ◌%◌, ◌^◌, ◌<◌}
use native.Mathlib.Nat.{div-one}
use native.Mathlib.Omega.{arith}
use borrow.Author.Tests.{eqb-true}
use lib.Dec.{eqb}
use lib.ListN.{length}
use Rattle.cpl.specs.Bytes.{agg_bytes, binary_bytes, bytes, columns_bytes, cond_bytes, counted_bytes, expr_bytes, fetch_number, item_bytes, key_bytes, leaf_bytes, on_bytes, pair_bytes, unary_bytes, win_bytes}
use Rattle.cpl.specs.Codes.{bit, join_number}
use Rattle.cpl.specs.Exprs.{agg_tags, binary_tags, cond_exprs, expr_tags, item_tags, key_tags, leaf_tags, on_tags, unary_tags, win_tags}
use Rattle.cpl.specs.Limits.{Version, no_fetch}
use Rattle.cpl.specs.Plan.{Item}
use Rattle.cpl.specs.Read.{pick}
use Rattle.cpl.specs.ReadPlan.{fetch_of}
use Rattle.cpl.specs.Tests.{iota, sum_of}
use Rattle.rules.specs.Mask.{select}
use Rattle.arena.specs.Cells.{expr_at}
use Rattle.arena.specs.Rows.{item_at, items_at, pair_at, root_at}
use Rattle.required_indices.specs.Set.{set_mask}
use Rattle.tree.specs.Node.{join_is}
use Rattle.tree.specs.Rows.{agg_at, aggs_at, columns_at, key_at, list_at, number_at, on_at, one, win_at, win_size, wins_at}
use Rattle.tree.specs.Tree.{Arrays, head_of, if?}
use Rattle.tree.specs.declared.Node.{Node}
use Rattle.tree.specs.declared.Node.TheVariants.{Projection, Filter, Sort, Limit, Aggregate, Window, SubqueryAlias, Union, Distinct, Join, Scan, Empty}
use Rattle.result.specs.Result.{unary_part}
use Rattle.writer_parts.specs.Lists.{chosen_sum, takes, which}
use Rattle.writer_parts.specs.declared.Part.TheVariants as parts
use Rattle.writer_parts.proofs.Lists.{all-row-tags, counted-all-rows, counted-low-rows, counted-set, counted-set-rows, list_length, low-row-tags, set-tags}
use Rattle.shapes.specs.Shapes as Shapes
use Rattle.shapes.specs.Shapes.{kept_bytes, kept_tags, seg_bytes, seg_tags, shape_bytes, shape_of, shape_tags}
use Rattle.shapes.proofs.Segments.{join-small}

pub items-list : (s c : List ℕ) (f n : ℕ) → items_at s c f n ≡ list_at (item_at s c) one f n
unfolding items_at list_at
items-list s c f zero = refl
items-list s c f (suc n) = let e : suc f ≡ f + 1 = omega arith in ap (item_at s c f ∷◌) (items-list s c (suc f) n ∙ ap (λ (x : ℕ). list_at (item_at s c) one x n) e)

pub items-length : (s c : List ℕ) (f n : ℕ) → length (items_at s c f n) ≡ n
items-length s c f n = ap length (items-list s c f n) ∙ list_length (item_at s c) one f n

pub iota-list : (f n : ℕ) → iota f n ≡ list_at (λ i. i) one f n
unfolding iota list_at
iota-list f zero = refl
iota-list f (suc n) = let e : suc f ≡ f + 1 = omega arith in ap (f ∷◌) (iota-list (suc f) n ∙ ap (λ (x : ℕ). list_at (λ i. i) one x n) e)

-- a set is within the list that it takes from, where its ones are counted as they are
abbrev pub NodeSet : (width set : ℕ) → Node → Type 0
NodeSet w s (Projection f n) = Unit {0}
NodeSet w s (Filter r) = Unit {0}
NodeSet w s (Sort f n) = Unit {0}
NodeSet w s (Limit k n) = Unit {0}
NodeSet w s (Aggregate f g v) = Unit {0}
NodeSet w s (Window f n) = s < 2 ^ n
NodeSet w s (SubqueryAlias q) = Unit {0}
NodeSet w s (Union r) = Unit {0}
NodeSet w s Distinct = Unit {0}
NodeSet w s (Join j) = Unit {0}
NodeSet w s (Scan x) = s < 2 ^ pick x.given x.n w
NodeSet w s (Empty b f n) = Unit {0}

-- a scan's qualifier is a 16-bit number
abbrev pub Numbers : Node → Type 0
Numbers (Projection f n) = Unit {0}
Numbers (Filter r) = Unit {0}
Numbers (Sort f n) = Unit {0}
Numbers (Limit k n) = Unit {0}
Numbers (Aggregate f g v) = Unit {0}
Numbers (Window f n) = Unit {0}
Numbers (SubqueryAlias q) = Unit {0}
Numbers (Union r) = Unit {0}
Numbers Distinct = Unit {0}
Numbers (Join j) = Unit {0}
Numbers (Scan x) = x.qualifier < 65536
Numbers (Empty b f n) = Unit {0}

fetch_number_lem : (n : ℕ) → fetch_number (fetch_of n) ≡ n
unfolding fetch_number fetch_of
fetch_number_lem n = by (eqb n no_fetch) refl
  where
    by : (b : Bool) → eqb n no_fetch ≡ b → fetch_number (pick b none (some n)) ≡ n
    by true e = sym (eqb-true n no_fetch e)
    by false e = refl

-- a number below a tag
after_tag : (k t x : ℕ) → t < 256 → bytes (suc k) (x * 256 + t) ≡ t ∷ bytes k x
unfolding bytes
after_tag k t x h =
    let a : (x * 256 + t) % 256 ≡ t = omega arith in
    let b : (x * 256 + t) / 256 ≡ x = omega arith in
    rw (a, b)

scan-number : (t q : ℕ) → q < 65536 → bytes 5 (4294967296 + q * 65536 + (t % 256) * 256 + 11) ≡ 11 ∷ (bytes 1 t ++ (bytes 2 q ++ (1 ∷ [])))
unfolding bytes
scan-number t q h =
    let y : ℕ = t % 256 in
    let l : y < 256 = omega arith in
    let a : (4294967296 + q * 65536 + y * 256 + 11) % 256 ≡ 11 = omega arith in
    let b : (4294967296 + q * 65536 + y * 256 + 11) / 256 ≡ 16777216 + q * 256 + y = omega arith in
    let c : (16777216 + q * 256 + y) % 256 ≡ y = omega arith in
    let d : (16777216 + q * 256 + y) / 256 ≡ 65536 + q = omega arith in
    let e : (65536 + q) % 256 ≡ q % 256 = omega arith in
    let f : (65536 + q) / 256 ≡ 256 + q / 256 = omega arith in
    let g : (256 + q / 256) % 256 ≡ q / 256 % 256 = omega arith in
    let i : (256 + q / 256) / 256 ≡ 1 = omega arith in
    rw (a, b, c, d, e, f, g, i)

module _ (v : Version) (a : Arrays) (r : ℕ) where
  -- the bytes of each kind: what its shape says is what the record keeps
  module _ (w : ℕ) where
    scan-columns : (b : Bool) (f n : ℕ) → r < 2 ^ pick b n w →
        seg_bytes (Shapes.column_segment v.wide b f n w) a.rows a.cells r
        ≡ counted_bytes v.wide (bytes v.wide) (select (set_mask (length (Shapes.scan_columns w (if? b (columns_at a.rows f n)))) r) (Shapes.scan_columns w (if? b (columns_at a.rows f n))))
    scan-columns true f n h =
        let l = list_length (number_at a.rows) one f n in
        sym (ap (λ (x : ℕ). counted_bytes v.wide (bytes v.wide) (select (set_mask x r) (columns_at a.rows f n))) l
        ∙ counted-set-rows v.wide (which false r) (bytes v.wide) (λ x. 0) (number_at a.rows) f n refl h)
    scan-columns false f n h =
        let l = list_length (λ i. i) one 0 w in
        sym (ap (λ (y : List ℕ). counted_bytes v.wide (bytes v.wide) (select (set_mask (length y) r) y)) (iota-list 0 w)
        ∙ ap (λ (x : ℕ). counted_bytes v.wide (bytes v.wide) (select (set_mask x r) (list_at (λ i. i) one 0 w))) l
        ∙ counted-set-rows v.wide (which false r) (bytes v.wide) (λ x. 0) (λ i. i) 0 w refl h)

    cond-bytes : (b : Bool) (x : ℕ) → seg_bytes (Shapes.cond_segment b x) a.rows a.cells r ≡ cond_bytes (if? b (expr_at a.cells x))
    unfolding cond_bytes
    cond-bytes true x = refl
    cond-bytes false x = refl

    bit-number : (b : Bool) → bytes 2 (bit b * 256 + 12) ≡ 12 ∷ bit b ∷ []
    unfolding bytes bit
    bit-number true = refl
    bit-number false = refl

    pub shape_bytes_lem : (n : Node) → NodeSet w r n → Numbers n → shape_bytes (shape_of v.wide v.late n w) a.rows a.cells r ≡ kept_bytes v w r (head_of a n)
    unfolding unary_bytes unary_part binary_bytes leaf_bytes columns_bytes bytes
    shape_bytes_lem (Projection f n) h z =
        ap (1 ∷◌) (append-nil _ ∙ sym (ap (counted_bytes v.wide item_bytes) (items-list a.rows a.cells f n) ∙ counted-all-rows v.wide (which true r) item_bytes item_tags (item_at a.rows a.cells) f n refl))
    shape_bytes_lem (Filter x) h z = ap (2 ∷◌) (append-nil _)
    shape_bytes_lem (Sort f n) h z = ap (3 ∷◌) (append-nil _ ∙ sym (counted-all-rows 1 (which true r) key_bytes key_tags (key_at a.rows a.cells) f n refl))
    shape_bytes_lem (Limit s n) h z = ap₂ ◌++◌ (after_tag 4 4 s (omega arith)) (append-nil _ ∙ ap (bytes 4) (sym (fetch_number_lem n)))
    shape_bytes_lem (Aggregate f g m) h z =
        let e = items-list a.rows a.cells f g in
        let o = items-length a.rows a.cells f g in
        let l = list_length (agg_at a.rows a.cells) one (f + g) m in
        ap (5 ∷◌)
        (ap₂ ◌++◌
        (sym (ap₂ (λ (x : ℕ) (is : List Item). counted_bytes v.wide item_bytes (select (set_mask x r) is)) o e
        ∙ counted-low-rows (item_at a.rows a.cells) f g r v.wide item_bytes
        ∙ ap (λ (x : ℕ). Shapes.chosen_list v.wide parts.Item a.rows a.cells f g (x % 2 ^ g)) (sym (div-one r))))
        (sym (ap₂ (λ (x y : ℕ). counted_bytes v.wide agg_bytes (select (set_mask x (r / 2 ^ y)) (aggs_at a.rows a.cells (f + g) m))) l o
        ∙ counted-low-rows (agg_at a.rows a.cells) (f + g) m (r / 2 ^ g) v.wide agg_bytes)))
    shape_bytes_lem (Window f n) h z =
        let l = list_length (win_at a.rows a.cells) (win_size a.rows) f n in
        ap (6 ∷◌)
        (append-nil _
        ∙ sym (ap (λ (x : ℕ). counted_bytes v.wide win_bytes (select (set_mask x r) (wins_at a.rows a.cells f n))) l
        ∙ counted-set v.wide (which false r) win_bytes win_tags (win_at a.rows a.cells) (win_size a.rows) f n refl h))
    shape_bytes_lem (SubqueryAlias q) h z = append-nil _ ∙ after_tag 2 7 q (omega arith)
    shape_bytes_lem (Union x) h z = refl
    shape_bytes_lem Distinct h z = refl
    shape_bytes_lem (Join j) h z =
        let t : ℕ = join_number (join_is j.join_type) in
        let e : t % 256 ≡ t = omega (arith, join-small j.join_type) in
        ap₂ ◌++◌ (after_tag 1 10 t (omega arith) ∙ ap (λ (x : ℕ). 10 ∷ x ∷ []) e)
        (ap₂ ◌++◌ (sym (counted-all-rows 1 (which true r) on_bytes on_tags (on_at a.rows a.cells) j.first j.n refl)) (cond-bytes j.has_filter j.filter))
    shape_bytes_lem (Scan s) h z =
        ap₂ ◌++◌ (scan-number s.table s.qualifier z)
        (ap₂ ◌++◌ (scan-columns s.given s.first s.n h)
        (sym (counted-all-rows v.late (which true r) expr_bytes expr_tags (λ j. expr_at a.cells (root_at a.rows j)) (s.first + s.n) s.filters refl)))
    shape_bytes_lem (Empty b f n) h z =
        ap₂ ◌++◌ (bit-number b) (append-nil _ ∙ sym (counted-all-rows v.wide (which true r) pair_bytes (λ c. 0) (pair_at a.rows) f n refl))

-- nothing is summed of things without tags
sum_zero : (t : ℕ → Bool) (i n : ℕ) → chosen_sum (λ j. 0) t i n ≡ 0
unfolding chosen_sum
sum_zero t i zero = refl
sum_zero t i (suc n) = by (t i) (sum_zero t (suc i) n)
  where
    by : (b : Bool) {x : ℕ} → x ≡ 0 → cond b 0 0 + x ≡ 0
    by true e = omega arith
    by false e = omega arith

-- the tags likewise
module _ (v : Version) (a : Arrays) (r : ℕ) (w : ℕ) where
  none_after : (x : ℕ) → x + 0 ≡ x
  none_after x = omega arith

  none_before : {x y : ℕ} (z : ℕ) → x ≡ 0 → y ≡ z → x + y ≡ z
  none_before z e d = omega (arith, e, d)

  cond-tags : (b : Bool) (x : ℕ) → seg_tags (Shapes.cond_segment b x) a.rows a.cells r ≡ sum_of expr_tags (cond_exprs (if? b (expr_at a.cells x)))
  unfolding cond_exprs sum_of
  cond-tags true x = omega arith
  cond-tags false x = refl

  column-tags : (b : Bool) (f n : ℕ) → seg_tags (Shapes.column_segment v.wide b f n w) a.rows a.cells r ≡ 0
  column-tags true f n = sum_zero (takes (which false r)) 0 n
  column-tags false f n = sum_zero (takes (which false r)) 0 w

  pub shape_tags_lem : (n : Node) → shape_tags (shape_of v.wide v.late n w) a.rows a.cells r ≡ kept_tags w r (head_of a n)
  unfolding unary_tags unary_part binary_tags leaf_tags
  shape_tags_lem (Projection f n) =
      none_after _ ∙ sym (ap (sum_of item_tags) (items-list a.rows a.cells f n) ∙ all-row-tags (which true r) item_bytes item_tags (item_at a.rows a.cells) f n refl)
  shape_tags_lem (Filter x) = none_after _
  shape_tags_lem (Sort f n) = none_after _ ∙ sym (all-row-tags (which true r) key_bytes key_tags (key_at a.rows a.cells) f n refl)
  shape_tags_lem (Limit s n) = refl
  shape_tags_lem (Aggregate f g m) =
      let e = items-list a.rows a.cells f g in
      let o = items-length a.rows a.cells f g in
      let l = list_length (agg_at a.rows a.cells) one (f + g) m in
      ap₂ ◌+◌
      (sym (ap₂ (λ (x : ℕ) (is : List Item). sum_of item_tags (select (set_mask x r) is)) o e
      ∙ low-row-tags (item_at a.rows a.cells) f g r item_tags
      ∙ ap (λ (x : ℕ). Shapes.chosen_tags parts.Item a.rows a.cells f g (x % 2 ^ g)) (sym (div-one r))))
      (sym (ap₂ (λ (x y : ℕ). sum_of agg_tags (select (set_mask x (r / 2 ^ y)) (aggs_at a.rows a.cells (f + g) m))) l o
      ∙ low-row-tags (agg_at a.rows a.cells) (f + g) m (r / 2 ^ g) agg_tags))
  shape_tags_lem (Window f n) =
      let l = list_length (win_at a.rows a.cells) (win_size a.rows) f n in
      none_after _
      ∙ sym (ap (λ (x : ℕ). sum_of win_tags (select (set_mask x r) (wins_at a.rows a.cells f n))) l
      ∙ set-tags (which false r) win_bytes win_tags (win_at a.rows a.cells) (win_size a.rows) f n refl)
  shape_tags_lem (SubqueryAlias q) = refl
  shape_tags_lem (Union x) = refl
  shape_tags_lem Distinct = refl
  shape_tags_lem (Join j) =
      ap₂ ◌+◌ (sym (all-row-tags (which true r) on_bytes on_tags (on_at a.rows a.cells) j.first j.n refl)) (cond-tags j.has_filter j.filter)
  shape_tags_lem (Scan s) =
      none_before _ (column-tags s.given s.first s.n)
      (sym (all-row-tags (which true r) expr_bytes expr_tags (λ j. expr_at a.cells (root_at a.rows j)) (s.first + s.n) s.filters refl))
  shape_tags_lem (Empty b f n) = none_after _ ∙ sum_zero (takes (which true r)) 0 n
