-- `writer_parts::write_wins` meets its contract. Assumes nothing.
use Rattle.std.proofs.Common.{option_copied, arith, List, ℕ, ◌+◌, refl, sym, ap, ◌∙◌}
use Rattle.cpl.specs.Bytes.{win_bytes}
use Rattle.tree.specs.Rows.{win_at, win_size}
use Rattle.writer_parts.specs.Lists.{row_from, takes, which_of}
use Rattle.writer_parts.proofs.Lists.{row_next, turn, turn_all, turn_fits, turn_left, turn_none}
use Rattle.writer_parts.proofs.write_wins.Goals as goal
use Rattle.writer_parts.proofs.write_wins.Goals.{else-is_taken, then-is_taken}

pub loop-i-init : goal.loop-i-init
unfolding row_from
loop-i-init c = (refl, turn_none _ _)

pub slice_bounds-write_win-count : goal.slice_bounds-write_win-count
slice_bounds-write_win-count c =
    let F : ℕ → List ℕ = λ j. win_bytes (win_at c.args.rows.now c.args.cells.now (row_from (win_size c.args.rows.now) c.args.first j)) in
    let t = takes (which_of (option_copied c.args.taken)) in
    let e = sym c.is_taken.ensures ∙ c.if-is_taken.true in
    let p = turn_fits F t c.loop-i.i c.args.n e c.loop-i-test.true in
    omega (arith, c.requires.used_in_bounds, p, c.loop-i.invariant.1.long)

pub slice_bounds-write_win-start : goal.slice_bounds-write_win-start
slice_bounds-write_win-start c =
    let F : ℕ → List ℕ = λ j. win_bytes (win_at c.args.rows.now c.args.cells.now (row_from (win_size c.args.rows.now) c.args.first j)) in
    let t = takes (which_of (option_copied c.args.taken)) in
    let e = sym c.is_taken.ensures ∙ c.if-is_taken.true in
    let p = turn_fits F t c.loop-i.i c.args.n e c.loop-i-test.true in
    omega (arith, c.requires.used_in_bounds, p, c.loop-i.invariant.1.long)

pub write_win-at-requires : goal.write_win-at-requires
write_win-at-requires c =
    let F : ℕ → List ℕ = λ j. win_bytes (win_at c.args.rows.now c.args.cells.now (row_from (win_size c.args.rows.now) c.args.first j)) in
    let t = takes (which_of (option_copied c.args.taken)) in
    let e = sym c.is_taken.ensures ∙ c.if-is_taken.true in
    let p = turn_fits F t c.loop-i.i c.args.n e c.loop-i-test.true in
    record { win_ok = rw c.loop-i.invariant.0 (c.requires.wins_ok.each c.loop-i.i c.loop-i-test.true); i_in_bounds = rw c.loop-i.invariant.0 (omega (arith, c.requires.used_in_bounds, p, c.loop-i.invariant.1.long)) }

pub overflow_add-at : goal.overflow_add-at
overflow_add-at c =
    let F : ℕ → List ℕ = λ j. win_bytes (win_at c.args.rows.now c.args.cells.now (row_from (win_size c.args.rows.now) c.args.first j)) in
    let t = takes (which_of (option_copied c.args.taken)) in
    let e = sym c.is_taken.ensures ∙ c.if-is_taken.true in
    let p = turn_fits F t c.loop-i.i c.args.n e c.loop-i-test.true in
    omega (arith, c.requires.used_in_bounds, p, c.loop-i.invariant.1.long, (rw c.loop-i.invariant.0 at c.write_win-at.ensures).long)

pub win_at-row-requires : goal.win_at-row-requires
win_at-row-requires c =
    rw c.loop-i.invariant.0 (c.requires.wins_ok.each c.loop-i.i c.loop-i-test.true).inside

pub loop-i-preserved : goal.loop-i-preserved
loop-i-preserved c = (
  c.win_at-row.ensures.next_is ∙ ap (λ (x : ℕ). x + win_size c.args.rows.now x) c.loop-i.invariant.0 ∙ sym (row_next (win_size c.args.rows.now) c.args.first c.loop-i.i),
  elim c.if-is_taken.branch [
    | then-is_taken w ↦ rw (w.at-is, w.out-is) (turn _ _ c.loop-i.i (sym c.is_taken.ensures ∙ w.if-is_taken.true) c.loop-i.invariant.1 (rw c.loop-i.invariant.0 at w.write_win-at.ensures))
    | else-is_taken w ↦ rw (w.at-is, w.out-is) (turn_left _ _ c.loop-i.i (sym c.is_taken.ensures ∙ w.if-is_taken.false) c.loop-i.invariant.1)
  ],
)

pub returns : goal.returns
returns c = turn_all _ _ _ _ c.loop-i.auto.i-end c.loop-i-test.false c.loop-i.invariant.1
