-- `writer_parts::write_list` meets its contract. Assumes nothing.
use Rattle.std.proofs.Common.{option_copied, arith, List, ℕ, ◌+◌, sym, ◌∙◌}
use Rattle.writer_parts.specs.Parts.{part_bytes}
use Rattle.writer_parts.specs.Lists.{takes, which_of}
use Rattle.writer_parts.proofs.Lists.{turn, turn_all, turn_fits, turn_left, turn_none}
use Rattle.writer_parts.proofs.write_list.Goals as goal
use Rattle.writer_parts.proofs.write_list.Goals.{else-is_taken, then-is_taken}

pub loop-i-init : goal.loop-i-init
loop-i-init c = turn_none _ _

pub slice_bounds-write_part-count : goal.slice_bounds-write_part-count
slice_bounds-write_part-count c =
    let F : ℕ → List ℕ = λ j. part_bytes c.args.part c.args.rows.now c.args.cells.now (c.args.first + j) in
    let t = takes (which_of (option_copied c.args.taken)) in
    let e = sym c.is_taken.ensures ∙ c.if-is_taken.true in
    let p = turn_fits F t c.loop-i.i c.args.n e c.loop-i-test.true in
    omega (arith, c.requires.used_in_bounds, p, c.loop-i.invariant.long)

pub slice_bounds-write_part-start : goal.slice_bounds-write_part-start
slice_bounds-write_part-start c =
    let F : ℕ → List ℕ = λ j. part_bytes c.args.part c.args.rows.now c.args.cells.now (c.args.first + j) in
    let t = takes (which_of (option_copied c.args.taken)) in
    let e = sym c.is_taken.ensures ∙ c.if-is_taken.true in
    let p = turn_fits F t c.loop-i.i c.args.n e c.loop-i-test.true in
    omega (arith, c.requires.used_in_bounds, p, c.loop-i.invariant.long)

pub write_part-at-requires-clause-i_in_bounds : goal.write_part-at-requires-clause-i_in_bounds
write_part-at-requires-clause-i_in_bounds c =
    let F : ℕ → List ℕ = λ j. part_bytes c.args.part c.args.rows.now c.args.cells.now (c.args.first + j) in
    let t = takes (which_of (option_copied c.args.taken)) in
    let e = sym c.is_taken.ensures ∙ c.if-is_taken.true in
    let p = turn_fits F t c.loop-i.i c.args.n e c.loop-i-test.true in
    omega (arith, c.requires.used_in_bounds, p, c.loop-i.invariant.long)

pub overflow_add-at : goal.overflow_add-at
overflow_add-at c =
    let F : ℕ → List ℕ = λ j. part_bytes c.args.part c.args.rows.now c.args.cells.now (c.args.first + j) in
    let t = takes (which_of (option_copied c.args.taken)) in
    let e = sym c.is_taken.ensures ∙ c.if-is_taken.true in
    let p = turn_fits F t c.loop-i.i c.args.n e c.loop-i-test.true in
    omega (arith, c.requires.used_in_bounds, p, c.loop-i.invariant.long, c.write_part-at.ensures.long)

pub loop-i-preserved : goal.loop-i-preserved
loop-i-preserved c =
    elim c.if-is_taken.branch [
      | then-is_taken w ↦ rw (w.at-is, w.out-is) (turn _ _ c.loop-i.i (sym c.is_taken.ensures ∙ w.if-is_taken.true) c.loop-i.invariant w.write_part-at.ensures)
      | else-is_taken w ↦ rw (w.at-is, w.out-is) (turn_left _ _ c.loop-i.i (sym c.is_taken.ensures ∙ w.if-is_taken.false) c.loop-i.invariant)
    ]

pub returns : goal.returns
returns c = turn_all _ _ _ _ c.loop-i.auto.i-end c.loop-i-test.false c.loop-i.invariant
