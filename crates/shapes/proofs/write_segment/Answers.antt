-- `shapes::write_segment` meets its contract. Assumes nothing.

use native.Mathlib.Omega.{arith}
use Rattle.required_indices.specs.Request.{set_of}
use mathlib.Core.Path.{ap, refl}
use mathlib.Core.Bool.{false}
use Rattle.writer_parts.specs.Lists.{taken_count, which, wins_bytes}
use Rattle.cpl.specs.Bytes.{bytes}
use lib.ListN.{length}
use Rattle.writer_parts.proofs.Over.{length-bytes, so, start}
use Rattle.writer_parts.proofs.Lists.{after-count, counted-length}
use Rattle.shapes.proofs.Segments.{taken-list, taken-tags, after_mark, own-list}
use Rattle.writer_parts.proofs.Rows.{number-wrote}
use Rattle.shapes.proofs.write_segment.Goals as goal

pub write_counted-requires : goal.write_counted-requires
write_counted-requires c =
    let p = rw c.in-List.is at c.requires.seg_ok in
    let q = rw c.in-List.is at c.requires.used_in_bounds in
    let l = taken-list c.args.set c.in-List.count c.in-List.part c.args.rows.now c.args.cells.now c.in-List.first c.in-List.n c.in-List.all c.then_some.ensures in
    let t = taken-tags c.args.set c.in-List.count c.in-List.part c.args.rows.now c.args.cells.now c.in-List.first c.in-List.n c.in-List.all c.then_some.ensures in
    record { parts_ok = p; used_in_bounds = rw l q }

pub put_at-a-requires : goal.put_at-a-requires
put_at-a-requires c =
    let l = counted-length c.in-Wins.count (taken_count (which false (set_of c.args.set.now)) c.in-Wins.n) (wins_bytes c.args.rows.now c.args.cells.now c.in-Wins.first c.in-Wins.n (which false (set_of c.args.set.now))) in
    let p = rw c.in-Wins.is at c.requires.seg_ok in
    let q = rw c.in-Wins.is at c.requires.used_in_bounds in
    omega (arith, q, l)

pub slice_bounds-write_wins-count : goal.slice_bounds-write_wins-count
slice_bounds-write_wins-count c =
    let l = counted-length c.in-Wins.count (taken_count (which false (set_of c.args.set.now)) c.in-Wins.n) (wins_bytes c.args.rows.now c.args.cells.now c.in-Wins.first c.in-Wins.n (which false (set_of c.args.set.now))) in
    let p = rw c.in-Wins.is at c.requires.seg_ok in
    let q = rw c.in-Wins.is at c.requires.used_in_bounds in
    omega (arith, q, l, c.put_at-a.ensures.long)

pub slice_bounds-write_wins-start : goal.slice_bounds-write_wins-start
slice_bounds-write_wins-start c =
    let l = counted-length c.in-Wins.count (taken_count (which false (set_of c.args.set.now)) c.in-Wins.n) (wins_bytes c.args.rows.now c.args.cells.now c.in-Wins.first c.in-Wins.n (which false (set_of c.args.set.now))) in
    let p = rw c.in-Wins.is at c.requires.seg_ok in
    let q = rw c.in-Wins.is at c.requires.used_in_bounds in
    omega (arith, q, l, c.put_at-a.ensures.long)

pub write_wins-m-requires : goal.write_wins-m-requires
write_wins-m-requires c =
    let l = counted-length c.in-Wins.count (taken_count (which false (set_of c.args.set.now)) c.in-Wins.n) (wins_bytes c.args.rows.now c.args.cells.now c.in-Wins.first c.in-Wins.n (which false (set_of c.args.set.now))) in
    let p = rw c.in-Wins.is at c.requires.seg_ok in
    let q = rw c.in-Wins.is at c.requires.used_in_bounds in record { wins_ok = p; used_in_bounds = omega (arith, q, l, c.put_at-a.ensures.long) }

pub overflow_add-result : goal.overflow_add-result
overflow_add-result c =
    let l = counted-length c.in-Wins.count (taken_count (which false (set_of c.args.set.now)) c.in-Wins.n) (wins_bytes c.args.rows.now c.args.cells.now c.in-Wins.first c.in-Wins.n (which false (set_of c.args.set.now))) in
    let p = rw c.in-Wins.is at c.requires.seg_ok in
    let q = rw c.in-Wins.is at c.requires.used_in_bounds in
    omega (arith, q, l, c.put_at-a.ensures.long, c.write_wins-m.ensures.long)

pub write_expr-requires : goal.write_expr-requires
write_expr-requires c =
    let p = rw c.in-Expr.is at c.requires.seg_ok in
    let q = rw c.in-Expr.is at c.requires.used_in_bounds in record { wf = p; i_in_bounds = q }

pub put_at-a-requires-in-Present : goal.put_at-a-requires-in-Present
put_at-a-requires-in-Present c =
    let p = rw c.in-Present.is at c.requires.seg_ok in
    let q = rw c.in-Present.is at c.requires.used_in_bounds in
    omega (arith, q)

pub slice_bounds-write_expr-count : goal.slice_bounds-write_expr-count
slice_bounds-write_expr-count c =
    let p = rw c.in-Present.is at c.requires.seg_ok in
    let q = rw c.in-Present.is at c.requires.used_in_bounds in
    omega (arith, q)

pub slice_bounds-write_expr-start : goal.slice_bounds-write_expr-start
slice_bounds-write_expr-start c =
    let p = rw c.in-Present.is at c.requires.seg_ok in
    let q = rw c.in-Present.is at c.requires.used_in_bounds in
    omega (arith, q)

pub write_expr-m-requires : goal.write_expr-m-requires
write_expr-m-requires c =
    let p = rw c.in-Present.is at c.requires.seg_ok in
    let q = rw c.in-Present.is at c.requires.used_in_bounds in record { wf = p; i_in_bounds = omega (arith, q) }

pub overflow_add-result-in-Present : goal.overflow_add-result-in-Present
overflow_add-result-in-Present c =
    let p = rw c.in-Present.is at c.requires.seg_ok in
    let q = rw c.in-Present.is at c.requires.used_in_bounds in
    omega (arith, q, c.write_expr-m.ensures.long)

pub put_at-requires : goal.put_at-requires
put_at-requires c =
    let q = rw c.in-Absent.is at c.requires.used_in_bounds in omega (arith, q)

pub put_at-requires-in-Word : goal.put_at-requires-in-Word
put_at-requires-in-Word c =
    let q = rw c.in-Word.is at c.requires.used_in_bounds in omega (arith, q, length-bytes 4 c.in-Word.x)

pub write_counted-requires-in-Chosen : goal.write_counted-requires-in-Chosen
write_counted-requires-in-Chosen c =
    let l = own-list c.in-Chosen.count c.in-Chosen.part c.args.rows.now c.args.cells.now c.in-Chosen.first c.in-Chosen.n (set_of c.part_of-own.result) c.part_of-own.ensures in
    let p = rw c.in-Chosen.is at c.requires.seg_ok in
    let q = rw c.in-Chosen.is at c.requires.used_in_bounds in record { parts_ok = p; used_in_bounds = omega (arith, q, ap length l) }

pub returns-in-Nothing : goal.returns-in-Nothing
returns-in-Nothing c =
    rw c.in-Nothing.is start

pub returns-in-List : goal.returns-in-List
returns-in-List c =
    let l = taken-list c.args.set c.in-List.count c.in-List.part c.args.rows.now c.args.cells.now c.in-List.first c.in-List.n c.in-List.all c.then_some.ensures in
    let t = taken-tags c.args.set c.in-List.count c.in-List.part c.args.rows.now c.args.cells.now c.in-List.first c.in-List.n c.in-List.all c.then_some.ensures in
    rw (c.in-List.is, ← l) c.write_counted.ensures

pub returns-in-Wins : goal.returns-in-Wins
returns-in-Wins c =
    rw c.in-Wins.is (after-count c.len.ensures c.put_at-a.ensures c.write_wins-m.ensures)

pub returns-in-Expr : goal.returns-in-Expr
returns-in-Expr c =
    rw c.in-Expr.is c.write_expr.ensures

pub returns-in-Present : goal.returns-in-Present
returns-in-Present c =
    rw c.in-Present.is (after_mark c.put_at-a-in-Present.ensures c.write_expr-m.ensures)

pub returns-in-Absent : goal.returns-in-Absent
unfolding bytes
returns-in-Absent c =
    rw c.in-Absent.is (number-wrote {k = 1} {x = 0} refl c.put_at.ensures)

pub returns-in-Word : goal.returns-in-Word
returns-in-Word c =
    rw c.in-Word.is (number-wrote refl c.put_at-in-Word.ensures)

pub returns-in-Chosen : goal.returns-in-Chosen
returns-in-Chosen c =
    rw c.in-Chosen.is (so c.write_counted-in-Chosen.ensures (own-list c.in-Chosen.count c.in-Chosen.part c.args.rows.now c.args.cells.now c.in-Chosen.first c.in-Chosen.n (set_of c.part_of-own.result) c.part_of-own.ensures) refl)
