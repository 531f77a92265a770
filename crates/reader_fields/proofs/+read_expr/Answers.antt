-- The proof of the cycle of calls {read_expr}. The measure is the number of tags left. Assumes nothing.
use native.Mathlib.Omega.{arith}
use Rattle.std.proofs.lemmas.Result.{err_from_is_err_and}
use Rattle.reader_fields.proofs.Exprs.{reads-tag-bad, reads-leaf, reads-value, reads_first, reads-one, reads_second, reads_two, reads-grown}
use Rattle.reader_fields.proofs.+read_expr.Goals as goal

pub returns-in_err-tag : goal.returns-in_err-tag
returns-in_err-tag t c =
    let p = err_from_is_err_and c.from_residual.result c.from_residual.ensures.1 in
    rw (p.1, p.2) (reads-tag-bad _ _ _ c.requires.1 c.in_err-tag.ensures)

pub returns-then-t-lt3 : goal.returns-then-t-lt3
returns-then-t-lt3 t c =
    reads-leaf _ _ _ c.requires.1 c.in_ok-tag.ensures.0 c.if-t-lt3.true _ c.read_leaf.result c.read_leaf.ensures

pub returns-then-t-gt11 : goal.returns-then-t-gt11
returns-then-t-gt11 t c =
    rw (c.new.ensures.0, c.new.ensures.1) (reads-value _ _ _ c.requires.1 c.in_ok-tag.ensures.0 (omega (arith, c.if-t-gt11.true)))

pub returns-in_err-a : goal.returns-in_err-a
returns-in_err-a t c =
    let p = err_from_is_err_and c.from_residual-in_err-a.result c.from_residual-in_err-a.ensures.1 in
    rw (p.1, p.2) (reads_first _ _ _ c.requires.1 c.in_ok-tag.ensures.0 c.if-t-lt3.false c.if-t-gt11.false c.in_err-a.ensures)

pub overflow_sub-a : goal.overflow_sub-a
overflow_sub-a t c =
    let g = reads-grown _ _ _ _ _ c.in_ok-a.ensures in
    omega (arith, g.2)

pub put_root-requires : goal.put_root-requires
put_root-requires t c =
    let g = reads-grown _ _ _ _ _ c.in_ok-a.ensures in
    omega (arith, g, c.requires)

pub returns-then-t-lt5 : goal.returns-then-t-lt5
returns-then-t-lt5 t c =
    rw c.put_root.ensures.0 (reads-one _ _ _ c.requires.1 c.in_ok-tag.ensures.0 c.if-t-lt3.false c.if-t-gt11.false _ _ c.in_ok-a.ensures c.if-t-lt5.true c.put_root.ensures.1)

pub read_expr-requires-2 : goal.read_expr-requires-2
read_expr-requires-2 t c =
    let g = reads-grown _ _ _ _ _ c.in_ok-a.ensures in
    omega (arith, g)

pub returns-in_err-b : goal.returns-in_err-b
returns-in_err-b t c =
    let p = err_from_is_err_and c.from_residual-in_err-b.result c.from_residual-in_err-b.ensures.1 in
    rw (p.1, p.2) (reads_second _ _ _ c.requires.1 c.in_ok-tag.ensures.0 c.if-t-lt3.false c.if-t-gt11.false _ _ c.in_ok-a.ensures c.if-t-lt5.false c.in_err-b.ensures)

pub overflow_sub-a-2 : goal.overflow_sub-a-2
overflow_sub-a-2 t c =
    let g = reads-grown _ _ _ _ _ c.in_ok-a.ensures in
    omega (arith, g.2)

pub overflow_sub-b : goal.overflow_sub-b
overflow_sub-b t c =
    let g = reads-grown _ _ _ _ _ c.in_ok-b.ensures in
    omega (arith, g.2)

pub put_root-requires-2 : goal.put_root-requires-2
put_root-requires-2 t c =
    let g = reads-grown _ _ _ _ _ c.in_ok-a.ensures in
    let h = reads-grown _ _ _ _ _ c.in_ok-b.ensures in
    omega (arith, g, h, c.requires)

pub returns : goal.returns
returns t c =
    rw c.put_root-2.ensures.0 (reads_two _ _ _ c.requires.1 c.in_ok-tag.ensures.0 c.if-t-lt3.false c.if-t-gt11.false _ _ c.in_ok-a.ensures c.if-t-lt5.false _ _ c.in_ok-b.ensures c.put_root-2.ensures.1)
