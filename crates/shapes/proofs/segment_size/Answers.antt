-- `shapes::segment_size` meets its contract. Assumes nothing.

use native.Mathlib.Omega.{arith}
use Rattle.required_indices.specs.Request.{set_of}
use mathlib.Core.Path.{ap, refl, sym}
use mathlib.Core.Bool.{false}
use Rattle.writer_parts.specs.Lists.{taken_count, which, wins_bytes}
use lib.ListN.{length}
use Rattle.writer_parts.proofs.Over.{length-bytes}
use Rattle.writer_parts.proofs.Lists.{counted-length}
use Rattle.shapes.proofs.Segments.{taken-list, taken-tags, own-list, own-tags}
use Rattle.shapes.proofs.segment_size.Goals as goal

pub counted_size-requires : goal.counted_size-requires
counted_size-requires c =
    let p = rw c.in-List.is at c.requires.seg_ok in
    let q = rw c.in-List.is at c.requires.countable in
    let l = taken-list c.args.set c.in-List.count c.in-List.part c.args.rows.now c.args.cells.now c.in-List.first c.in-List.n c.in-List.all c.then_some.ensures in
    let t = taken-tags c.args.set c.in-List.count c.in-List.part c.args.rows.now c.args.cells.now c.in-List.first c.in-List.n c.in-List.all c.then_some.ensures in
    record { parts_ok = p; countable = rw (l, t) q }

pub wins_size-requires : goal.wins_size-requires
wins_size-requires c =
    let l = counted-length c.in-Wins.count (taken_count (which false (set_of c.args.set.now)) c.in-Wins.n) (wins_bytes c.args.rows.now c.args.cells.now c.in-Wins.first c.in-Wins.n (which false (set_of c.args.set.now))) in
    let p = rw c.in-Wins.is at c.requires.seg_ok in
    let q = rw c.in-Wins.is at c.requires.countable in record { wins_ok = p; countable = omega (arith, q, l) }

pub add-requires : goal.add-requires
add-requires c =
    let l = counted-length c.in-Wins.count (taken_count (which false (set_of c.args.set.now)) c.in-Wins.n) (wins_bytes c.args.rows.now c.args.cells.now c.in-Wins.first c.in-Wins.n (which false (set_of c.args.set.now))) in
    let p = rw c.in-Wins.is at c.requires.seg_ok in
    let q = rw c.in-Wins.is at c.requires.countable in
    omega (arith, q, l, c.wins_size.ensures)

pub expr_size-requires : goal.expr_size-requires
expr_size-requires c =
    let p = rw c.in-Expr.is at c.requires.seg_ok in
    let q = rw c.in-Expr.is at c.requires.countable in record { wf = p; countable = q }

pub expr_size-requires-in-Present : goal.expr_size-requires-in-Present
expr_size-requires-in-Present c =
    let p = rw c.in-Present.is at c.requires.seg_ok in
    let q = rw c.in-Present.is at c.requires.countable in record { wf = p; countable = omega (arith, q) }

pub add-requires-in-Present : goal.add-requires-in-Present
add-requires-in-Present c =
    let p = rw c.in-Present.is at c.requires.seg_ok in
    let q = rw c.in-Present.is at c.requires.countable in
    omega (arith, q, c.expr_size-in-Present.ensures)

pub counted_size-requires-in-Chosen : goal.counted_size-requires-in-Chosen
counted_size-requires-in-Chosen c =
    let l = own-list c.in-Chosen.count c.in-Chosen.part c.args.rows.now c.args.cells.now c.in-Chosen.first c.in-Chosen.n (set_of c.part_of-own.result) c.part_of-own.ensures in
    let t = own-tags c.in-Chosen.count c.in-Chosen.part c.args.rows.now c.args.cells.now c.in-Chosen.first c.in-Chosen.n (set_of c.part_of-own.result) c.part_of-own.ensures in
    let p = rw c.in-Chosen.is at c.requires.seg_ok in
    let q = rw c.in-Chosen.is at c.requires.countable in record { parts_ok = p; countable = omega (arith, q, ap length l, t) }

pub returns-in-List : goal.returns-in-List
returns-in-List c =
    let l = taken-list c.args.set c.in-List.count c.in-List.part c.args.rows.now c.args.cells.now c.in-List.first c.in-List.n c.in-List.all c.then_some.ensures in
    let t = taken-tags c.args.set c.in-List.count c.in-List.part c.args.rows.now c.args.cells.now c.in-List.first c.in-List.n c.in-List.all c.then_some.ensures in
    rw (c.in-List.is, ← l, ← t) c.counted_size.ensures

pub returns-in-Wins : goal.returns-in-Wins
returns-in-Wins c =
    let l = counted-length c.in-Wins.count (taken_count (which false (set_of c.args.set.now)) c.in-Wins.n) (wins_bytes c.args.rows.now c.args.cells.now c.in-Wins.first c.in-Wins.n (which false (set_of c.args.set.now))) in
    rw c.in-Wins.is (omega (arith, l, c.add.ensures, c.wins_size.ensures))

pub returns-in-Expr : goal.returns-in-Expr
returns-in-Expr c =
    rw c.in-Expr.is c.expr_size.ensures

pub returns-in-Present : goal.returns-in-Present
returns-in-Present c =
    rw c.in-Present.is (omega (arith, c.add-in-Present.ensures, c.expr_size-in-Present.ensures))

pub returns-in-Word : goal.returns-in-Word
returns-in-Word c =
    rw c.in-Word.is (record { bytes_are = sym (length-bytes 4 _); tags_are = refl })

pub returns-in-Chosen : goal.returns-in-Chosen
returns-in-Chosen c =
    let l = own-list c.in-Chosen.count c.in-Chosen.part c.args.rows.now c.args.cells.now c.in-Chosen.first c.in-Chosen.n (set_of c.part_of-own.result) c.part_of-own.ensures in
    let t = own-tags c.in-Chosen.count c.in-Chosen.part c.args.rows.now c.args.cells.now c.in-Chosen.first c.in-Chosen.n (set_of c.part_of-own.result) c.part_of-own.ensures in
    rw c.in-Chosen.is (omega (arith, c.counted_size-in-Chosen.ensures, ap length l, t))
