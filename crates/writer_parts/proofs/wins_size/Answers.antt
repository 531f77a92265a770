-- `writer_parts::wins_size` meets its contract. Assumes nothing.
use Rattle.std.proofs.Common.{option_copied, arith, List, ℕ, ◌+◌, refl, sym, ap, ◌∙◌}
use Rattle.cpl.specs.Bytes.{win_bytes}
use Rattle.cpl.specs.Exprs.{win_tags}
use Rattle.tree.specs.Rows.{win_at, win_size}
use Rattle.writer_parts.specs.Lists.{row_from, takes, which_of}
use Rattle.writer_parts.proofs.Lists.{all-counts, left_counts, none-counts, row_next, sum_fits, turn_counts, turn_fits}
use Rattle.writer_parts.proofs.wins_size.Goals as goal
use Rattle.writer_parts.proofs.wins_size.Goals.{else-is_taken, then-is_taken}

pub loop-i-init : goal.loop-i-init
unfolding row_from
loop-i-init c = (refl, none-counts _ _ _ refl refl)

pub win_size-requires : goal.win_size-requires
win_size-requires c =
    let F : ℕ → List ℕ = λ j. win_bytes (win_at c.args.rows.now c.args.cells.now (row_from (win_size c.args.rows.now) c.args.first j)) in
    let G : ℕ → ℕ = λ j. win_tags (win_at c.args.rows.now c.args.cells.now (row_from (win_size c.args.rows.now) c.args.first j)) in
    let t = takes (which_of (option_copied c.args.taken)) in
    let e = sym c.is_taken.ensures ∙ c.if-is_taken.true in
    let p = turn_fits F t c.loop-i.i c.args.n e c.loop-i-test.true in
    let q = sum_fits G t c.loop-i.i c.args.n e c.loop-i-test.true in
    record { win_ok = rw c.loop-i.invariant.0 (c.requires.wins_ok.each c.loop-i.i c.loop-i-test.true); countable = rw c.loop-i.invariant.0 (omega (arith, c.requires.countable, p, q)) }

pub add-sum-requires : goal.add-sum-requires
add-sum-requires c =
    let F : ℕ → List ℕ = λ j. win_bytes (win_at c.args.rows.now c.args.cells.now (row_from (win_size c.args.rows.now) c.args.first j)) in
    let G : ℕ → ℕ = λ j. win_tags (win_at c.args.rows.now c.args.cells.now (row_from (win_size c.args.rows.now) c.args.first j)) in
    let t = takes (which_of (option_copied c.args.taken)) in
    let e = sym c.is_taken.ensures ∙ c.if-is_taken.true in
    let p = turn_fits F t c.loop-i.i c.args.n e c.loop-i-test.true in
    let q = sum_fits G t c.loop-i.i c.args.n e c.loop-i-test.true in
    let z = rw c.loop-i.invariant.0 at c.win_size.ensures in
    omega (arith, c.requires.countable, p, q, c.loop-i.invariant.1, z)

pub win_at-row-requires : goal.win_at-row-requires
win_at-row-requires c =
    rw c.loop-i.invariant.0 (c.requires.wins_ok.each c.loop-i.i c.loop-i-test.true).inside

pub loop-i-preserved : goal.loop-i-preserved
loop-i-preserved c = (
  c.win_at-row.ensures.next_is ∙ ap (λ (x : ℕ). x + win_size c.args.rows.now x) c.loop-i.invariant.0 ∙ sym (row_next (win_size c.args.rows.now) c.args.first c.loop-i.i),
  elim c.if-is_taken.branch [
    | then-is_taken w ↦ rw w.sum-is (turn_counts _ _ _ c.loop-i.i (sym c.is_taken.ensures ∙ w.if-is_taken.true) c.loop-i.invariant.1 (rw c.loop-i.invariant.0 at w.win_size.ensures) w.add-sum.ensures)
    | else-is_taken w ↦ rw w.sum-is (left_counts _ _ _ c.loop-i.i (sym c.is_taken.ensures ∙ w.if-is_taken.false) c.loop-i.invariant.1)
  ],
)

pub returns : goal.returns
returns c = all-counts _ _ _ _ _ c.loop-i.auto.i-end c.loop-i-test.false c.loop-i.invariant.1
