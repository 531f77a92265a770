-- `read_count` meets its contract. Assumes nothing.
use native.Mathlib.Omega.{arith}
use Rattle.std.proofs.lemmas.Result.{err_from_is_err_and}
use Rattle.reader_fields.proofs.Laws.{count-bad, count-few, count_many, count-ok}
use Rattle.reader_fields.proofs.read_count.Goals as goal

pub returns-in_err-count : goal.returns-in_err-count
returns-in_err-count c =
    let p = err_from_is_err_and c.from_residual.result c.from_residual.ensures.1 in
    λ allowed from. rw (p.1, p.2) (count-bad _ _ _ allowed _ _ from c.in_err-count.ensures)

pub returns-then-count-least : goal.returns-then-count-least
returns-then-count-least c =
    λ allowed from. rw (c.new.ensures.0, c.new.ensures.1) (count-few _ _ _ allowed _ _ from c.in_ok-count.ensures.0 c.if-count-least.true)

pub returns-then-limit-count : goal.returns-then-limit-count
returns-then-limit-count c =
    λ allowed from. rw (c.new-then-limit-count.ensures.0, c.new-then-limit-count.ensures.1) (count_many _ _ _ allowed _ _ from c.in_ok-count.ensures.0 c.if-count-least.false c.if-limit-count.true)

pub returns : goal.returns
returns c =
    λ allowed from. (count-ok _ _ _ allowed _ _ from c.in_ok-count.ensures.0 c.if-count-least.false c.if-limit-count.false, omega (arith, c.if-limit-count.false))
