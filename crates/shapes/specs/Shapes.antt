-- A node's head in segments: its bytes, its tags, and when code can write it.
use Rattle.std.specs.Prelude.{Bool, true, false, List, [], ◌∷◌, ◌++◌, ℕ, ◌+◌, ◌*◌, ◌/◌, ◌%◌, ◌^◌, ◌<◌, length}
use Rattle.std.proofs.Math.Option.{Option, none, some}
use Rattle.std.specs.Int.Count.{ones}
use Rattle.cpl.specs.Bytes.{binary_bytes, bytes, expr_bytes, leaf_bytes, unary_bytes}
use Rattle.cpl.specs.Codes.{bit, join_number}
use Rattle.cpl.specs.Limits as limits
use Rattle.cpl.specs.Exprs.{binary_tags, expr_tags, leaf_tags, unary_tags}
use Rattle.cpl.specs.Plan.{Leaf, scan, empty}
use Rattle.cpl.specs.ReadPlan.{Head, h0, h1, h2}
use Rattle.cpl.specs.Tests.{iota}
use Rattle.rules.specs.Mask.{select}
use Rattle.arena.specs.Cells.{expr_at, Wf}
use Rattle.required_indices.specs.Set.{has, set_mask}
use Rattle.tree.specs.Node.{join_is}
use Rattle.tree.specs.declared.JoinNode.{JoinNode}
use Rattle.tree.specs.declared.ScanNode.{ScanNode}
use Rattle.tree.specs.declared.Node.{Node}
use Rattle.tree.specs.declared.Node.TheVariants.{Projection, Filter, Sort, Limit, Aggregate, Window, SubqueryAlias, Union, Distinct, Join, Scan, Empty}
use Rattle.result.specs.Result.{unary_part}
use Rattle.writer_parts.specs.Lists.{PartsOk, WinsOk, chosen, chosen_sum, counted_list, list_tags, taken_count, which, wins_bytes, wins_tags}
use Rattle.writer_parts.specs.Parts.{part_bytes, part_tags}
use Rattle.writer_parts.specs.declared.Part.{Part}
use Rattle.writer_parts.specs.declared.Part.TheVariants as parts
use Rattle.writer_parts.specs.declared.Part.TheVariants.{Agg, Column, Index, Item, Key, On, Pair}
use Rattle.shapes.specs.declared.Segment.{Segment}
use Rattle.shapes.specs.declared.Segment.TheVariants.{Absent, Chosen, Expr, Nothing, Present, Wins, Word}
use Rattle.shapes.specs.declared.Segment.TheVariants
use Rattle.shapes.specs.declared.Shape.{Shape}

-- the n indices of a set from `from` on, counted from there
abbrev pub part_of : (set from n : ℕ) → ℕ
part_of s from n = s / 2 ^ from % 2 ^ n

-- a count of k bytes, and those of n rows that a set has
abbrev pub chosen_list : (k : ℕ) → Part → (rows cells : List ℕ) (first n set : ℕ) → List ℕ
chosen_list k p s c f n set = bytes k (ones set) ++ chosen (λ i. part_bytes p s c (f + i)) (has set) 0 n

abbrev pub chosen_tags : Part → (rows cells : List ℕ) (first n set : ℕ) → ℕ
chosen_tags p s c f n set = chosen_sum (λ i. part_tags p s c (f + i)) (has set) 0 n

abbrev pub seg_bytes : Segment → (rows cells : List ℕ) → (set : ℕ) → List ℕ
seg_bytes Nothing s c r = []
seg_bytes (TheVariants.List k p f n b) s c r = counted_list k p s c f n (which b r)
seg_bytes (Wins k f n) s c r = bytes k (taken_count (which false r) n) ++ wins_bytes s c f n (which false r)
seg_bytes (Expr x) s c r = expr_bytes (expr_at c x)
seg_bytes (Present x) s c r = 1 ∷ expr_bytes (expr_at c x)
seg_bytes Absent s c r = 0 ∷ []
seg_bytes (Word x) s c r = bytes 4 x
seg_bytes (Chosen k p from f n) s c r = chosen_list k p s c f n (part_of r from n)

abbrev pub seg_tags : Segment → (rows cells : List ℕ) → (set : ℕ) → ℕ
seg_tags Nothing s c r = 0
seg_tags (TheVariants.List k p f n b) s c r = list_tags p s c f n (which b r)
seg_tags (Wins k f n) s c r = wins_tags s c f n (which false r)
seg_tags (Expr x) s c r = expr_tags (expr_at c x)
seg_tags (Present x) s c r = expr_tags (expr_at c x)
seg_tags Absent s c r = 0
seg_tags (Word x) s c r = 0
seg_tags (Chosen k p from f n) s c r = chosen_tags p s c f n (part_of r from n)

-- its rows lie in the array
abbrev pub SegOk : Segment → (rows cells : List ℕ) → (set : ℕ) → Type 0
SegOk Nothing s c r = Unit {0}
SegOk (TheVariants.List k p f n b) s c r = PartsOk p s c f n
SegOk (Wins k f n) s c r = WinsOk s c f n
SegOk (Expr x) s c r = Wf c (x + 1)
SegOk (Present x) s c r = Wf c (x + 1)
SegOk Absent s c r = Unit {0}
SegOk (Word x) s c r = Unit {0}
SegOk (Chosen k p from f n) s c r = PartsOk p s c f n

abbrev pub shape_bytes : Shape → (rows cells : List ℕ) → (set : ℕ) → List ℕ
shape_bytes h s c r = bytes h.k h.x ++ (seg_bytes h.first s c r ++ seg_bytes h.second s c r)

abbrev pub shape_tags : Shape → (rows cells : List ℕ) → (set : ℕ) → ℕ
shape_tags h s c r = seg_tags h.first s c r + seg_tags h.second s c r

pub record ShapeOk (h : Shape) (s c : List ℕ) (r : ℕ) : Type 0 where
  pub few : h.k < 9
  pub one : SegOk h.first s c r
  pub two : SegOk h.second s c r

-- ── the part of a node that a record keeps, where a scan's node has that many fields ────────

abbrev pub scan_columns : (width : ℕ) → Option (List ℕ) → List ℕ
scan_columns width none = iota 0 width
scan_columns width (some is) = is

abbrev pub leaf_keeps : (width set : ℕ) → Leaf → Leaf
leaf_keeps width s (scan t q is es) = scan t q (some (select (set_mask (length (scan_columns width is)) s) (scan_columns width is))) es
leaf_keeps width s (empty b cs) = empty b cs

abbrev pub kept_bytes : limits.Version → (width set : ℕ) → Head → List ℕ
kept_bytes v width s (h0 h) = leaf_bytes v (leaf_keeps width s h)
kept_bytes v width s (h1 h) = unary_bytes v (unary_part s h)
kept_bytes v width s (h2 h) = binary_bytes h

abbrev pub kept_tags : (width set : ℕ) → Head → ℕ
kept_tags width s (h0 h) = leaf_tags (leaf_keeps width s h)
kept_tags width s (h1 h) = unary_tags (unary_part s h)
kept_tags width s (h2 h) = binary_tags h

-- ── the shape of each kind of node, where a count has `wide` bytes and that of a scan's filters `late` ──

abbrev pub head_shape : (k x : ℕ) (first second : Segment) → Shape
head_shape k x a b = record { k = k; x = x; first = a; second = b }

abbrev pub cond_segment : Bool → ℕ → Segment
cond_segment true x = Present x
cond_segment false x = Absent

abbrev pub join_shape : JoinNode → Shape
join_shape j = head_shape 2 (join_number (join_is j.join_type) * 256 + 10) (TheVariants.List 1 On j.first j.n true) (cond_segment j.has_filter j.filter)

abbrev pub column_segment : (wide : ℕ) → Bool → (first n width : ℕ) → Segment
column_segment wide true f n w = TheVariants.List wide (Column wide) f n false
column_segment wide false f n w = TheVariants.List wide (Index wide) 0 w false

-- the filters stand behind the columns
abbrev pub scan_shape : (wide late : ℕ) → ScanNode → (width : ℕ) → Shape
scan_shape wide late s w =
    head_shape 5 (4294967296 + s.qualifier * 65536 + (s.table % 256) * 256 + 11) (column_segment wide s.given s.first s.n w)
    (TheVariants.List late parts.Expr (s.first + s.n) s.filters true)

abbrev pub empty_shape : (wide : ℕ) → Bool → (first n : ℕ) → Shape
empty_shape wide b f n = head_shape 2 (bit b * 256 + 12) (TheVariants.List wide Pair f n true) Nothing

abbrev pub shape_of : (wide late : ℕ) → Node → (width : ℕ) → Shape
shape_of wide late (Projection f n) w = head_shape 1 1 (TheVariants.List wide Item f n true) Nothing
shape_of wide late (Filter r) w = head_shape 1 2 (Expr r) Nothing
shape_of wide late (Sort f n) w = head_shape 1 3 (TheVariants.List 1 Key f n true) Nothing
shape_of wide late (Limit s n) w = head_shape 5 (s * 256 + 4) (Word n) Nothing
shape_of wide late (Aggregate f g m) w = head_shape 1 5 (Chosen wide Item 0 f g) (Chosen wide Agg g (f + g) m)
shape_of wide late (Window f n) w = head_shape 1 6 (Wins wide f n) Nothing
shape_of wide late (SubqueryAlias q) w = head_shape 3 (q * 256 + 7) Nothing Nothing
shape_of wide late (Union r) w = head_shape 1 8 Nothing Nothing
shape_of wide late Distinct w = head_shape 1 9 Nothing Nothing
shape_of wide late (Join j) w = join_shape j
shape_of wide late (Scan s) w = scan_shape wide late s w
shape_of wide late (Empty b f n) w = empty_shape wide b f n

-- the first row of an Aggregate's aggregates, and that of a Scan's filters, can be counted
abbrev pub Sums : Node → Type 0
Sums (Projection f n) = Unit {0}
Sums (Filter r) = Unit {0}
Sums (Sort f n) = Unit {0}
Sums (Limit s n) = Unit {0}
Sums (Aggregate f g v) = f + g < 2 ^ 64
Sums (Window f n) = Unit {0}
Sums (SubqueryAlias q) = Unit {0}
Sums (Union r) = Unit {0}
Sums Distinct = Unit {0}
Sums (Join j) = Unit {0}
Sums (Scan s) = s.first + s.n < 2 ^ 64
Sums (Empty b f n) = Unit {0}
