-- `writer_parts::list_size` meets its contract. Assumes nothing.
use Rattle.std.proofs.Common.{option_copied, arith, List, ℕ, ◌+◌, refl, sym, ◌∙◌}
use Rattle.writer_parts.specs.Parts.{part_bytes, part_tags}
use Rattle.writer_parts.specs.Lists.{takes, which_of}
use Rattle.writer_parts.proofs.Lists.{all-counts, left_counts, none-counts, sum_fits, turn_counts, turn_fits}
use Rattle.writer_parts.proofs.list_size.Goals as goal
use Rattle.writer_parts.proofs.list_size.Goals.{else-is_taken, then-is_taken}

pub loop-i-init : goal.loop-i-init
loop-i-init c = none-counts _ _ _ refl refl

pub part_size-requires-clause-countable : goal.part_size-requires-clause-countable
part_size-requires-clause-countable c =
    let F : ℕ → List ℕ = λ j. part_bytes c.args.part c.args.rows.now c.args.cells.now (c.args.first + j) in
    let G : ℕ → ℕ = λ j. part_tags c.args.part c.args.rows.now c.args.cells.now (c.args.first + j) in
    let t = takes (which_of (option_copied c.args.taken)) in
    let e = sym c.is_taken.ensures ∙ c.if-is_taken.true in
    let p = turn_fits F t c.loop-i.i c.args.n e c.loop-i-test.true in
    let q = sum_fits G t c.loop-i.i c.args.n e c.loop-i-test.true in
    omega (arith, c.requires.countable, p, q)

pub add-sum-requires : goal.add-sum-requires
add-sum-requires c =
    let F : ℕ → List ℕ = λ j. part_bytes c.args.part c.args.rows.now c.args.cells.now (c.args.first + j) in
    let G : ℕ → ℕ = λ j. part_tags c.args.part c.args.rows.now c.args.cells.now (c.args.first + j) in
    let t = takes (which_of (option_copied c.args.taken)) in
    let e = sym c.is_taken.ensures ∙ c.if-is_taken.true in
    let p = turn_fits F t c.loop-i.i c.args.n e c.loop-i-test.true in
    let q = sum_fits G t c.loop-i.i c.args.n e c.loop-i-test.true in
    omega (arith, c.requires.countable, p, q, c.loop-i.invariant, c.part_size.ensures)

pub loop-i-preserved : goal.loop-i-preserved
loop-i-preserved c =
    elim c.if-is_taken.branch [
      | then-is_taken w ↦ rw w.sum-is (turn_counts _ _ _ c.loop-i.i (sym c.is_taken.ensures ∙ w.if-is_taken.true) c.loop-i.invariant w.part_size.ensures w.add-sum.ensures)
      | else-is_taken w ↦ rw w.sum-is (left_counts _ _ _ c.loop-i.i (sym c.is_taken.ensures ∙ w.if-is_taken.false) c.loop-i.invariant)
    ]

pub returns : goal.returns
returns c = all-counts _ _ _ _ _ c.loop-i.auto.i-end c.loop-i-test.false c.loop-i.invariant
