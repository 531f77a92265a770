-- A node of a tree has a shape that code can write. Assumes nothing.
use mathlib.Core.Path.{◌≡◌, refl}
use mathlib.Core.Bool.{Bool, true, false}
use mathlib.Core.List.{List}
use Prim.Native.Nat.{ℕ, zero, suc, ◌+◌, ◌^◌, ◌<◌}
use native.Mathlib.Omega.{arith}
use lib.ListN.{length}
use Rattle.arena.specs.Cells.{Wf}
use Rattle.arena.specs.Rows.{RowsOk}
use Rattle.tree.specs.Rows.{AllAt, EachOk, Inside, WinOk, win_size}
use Rattle.tree.specs.Tree.{Arrays}
use Rattle.tree.specs.Tree as Tree
use Rattle.tree.specs.declared.Node.{Node}
use Rattle.tree.specs.declared.Node.TheVariants.{Projection, Filter, Sort, Limit, Aggregate, Window, SubqueryAlias, Union, Distinct, Join, Scan, Empty}
use Rattle.cpl.specs.Limits.{Version}
use Rattle.writer_parts.specs.Lists.{PartsOk, row_from}
use Rattle.writer_parts.specs.declared.Part.TheVariants.{Agg, Column, Expr, Item, Key, On, Pair}
use Rattle.writer_parts.proofs.Lists.{each-ok}
use Rattle.shapes.specs.Shapes.{SegOk, ShapeOk, column_segment, cond_segment, shape_of}

rows_ok : {s c : List ℕ} {f n : ℕ} → RowsOk s c f n → length s < 2 ^ 64 → PartsOk Item s c f n
rows_ok o h = record { fits = omega (arith, o.room); each = λ k l. o.each _ (omega arith) (omega arith) }

all_at : (Ok : ℕ → Type 0) (size : ℕ → ℕ) (f n : ℕ) → AllAt Ok size f n → (k : ℕ) → k < n → Ok (row_from size f k)
unfolding AllAt row_from
all_at Ok size f zero o k h = absurd (omega arith)
all_at Ok size f (suc n) o zero h = o.0
all_at Ok size f (suc n) o (suc k) h = all_at Ok size (f + size f) n o.1 k (omega arith)

module _ (v : Version) (a : Arrays) (r : ℕ) (w : ℕ) (few-columns : w < 2 ^ 64) (room : length a.rows < 2 ^ 64) where
  columns-ok : (b : Bool) (f n : ℕ) → EachOk (Inside a.rows) a.rows f n → SegOk (column_segment v.wide b f n w) a.rows a.cells r
  columns-ok true f n o = each-ok {p = Column v.wide} o room
  columns-ok false f n o = record { fits = omega arith; each = λ k z. tt }

  cond-ok : (b : Bool) (x : ℕ) → (b ≡ true → Wf a.cells (x + 1)) → SegOk (cond_segment b x) a.rows a.cells r
  cond-ok true x o = o refl
  cond-ok false x o = tt

  pub shape_ok : (n : Node) → Tree.PartsOk a n → ShapeOk (shape_of v.wide v.late n w) a.rows a.cells r
  shape_ok (Projection f n) o = record { few = omega arith; one = rows_ok o room; two = tt }
  shape_ok (Filter x) o = record { few = omega arith; one = o; two = tt }
  shape_ok (Sort f n) o = record { few = omega arith; one = each-ok {p = Key} o room; two = tt }
  shape_ok (Limit k n) o = record { few = omega arith; one = tt; two = tt }
  shape_ok (Aggregate f g m) o = record { few = omega arith; one = rows_ok o.0 room; two = each-ok {p = Agg} o.1 room }
  shape_ok (Window f n) o =
      record { few = omega arith; one = record { each = all_at (WinOk a.rows a.cells) (win_size a.rows) f n o }; two = tt }
  shape_ok (SubqueryAlias q) o = record { few = omega arith; one = tt; two = tt }
  shape_ok (Union x) o = record { few = omega arith; one = tt; two = tt }
  shape_ok Distinct o = record { few = omega arith; one = tt; two = tt }
  shape_ok (Join j) o = record { few = omega arith; one = each-ok {p = On} o.0 room; two = cond-ok j.has_filter j.filter o.1 }
  shape_ok (Scan x) o = record { few = omega arith; one = columns-ok x.given x.first x.n o.0; two = each-ok {p = Expr} o.1 room }
  shape_ok (Empty b f n) o = record { few = omega arith; one = each-ok {p = Pair} o room; two = tt }
