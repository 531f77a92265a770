-- The proof of the cycle of calls {subst}. A call on an operand keeps the level and has a smaller node; the call that copies a
-- definition has level Copy, and a node that any number may be. So the measure is the level's rank * 2^64 + i. Each way is a law of
-- `Ways`. Assumes nothing.
use mathlib.Core.Path.{sym, ◌∙◌}
use native.Mathlib.Omega.{arith}
use Rattle.std.proofs.lemmas.Result.{err_from_is_err_and}
use Rattle.arena_build.proofs.Ways.{ask_copy, ask_operand, no_first, no_one, no_second, ret_col, ret_def, ret_lit, ret_miss, ret_none, ret_one, ret_two}
use Rattle.arena_build.proofs.+subst.Goals as goal

pub returns-in-Copy : goal.returns-in-Copy
returns-in-Copy t c =
    ret_col _ _ _ _ _ _ _ _ _ _ ((c.decreases, (c.requires.wf, (c.requires.rows_ok, c.requires.wf_2)))) (rw c.in-Col.is at c.node_at.ensures) c.push.result c.push.new.cells c.in-Copy.is (omega arith) (omega arith) (rw (c.from.ensures, c.from-in-Copy.ensures) at c.push.ensures)

pub returns-in-None : goal.returns-in-None
returns-in-None t c =
    ret_none _ _ _ _ _ _ _ _ _ _ ((c.decreases, (c.requires.wf, (c.requires.rows_ok, c.requires.wf_2)))) (rw c.in-Col.is at c.node_at.ensures) c.push-in-None.result c.push-in-None.new.cells c.in-Replace.is (sym c.in-None.is ∙ c.find_def.ensures) c.push-in-None.ensures

pub subst-requires : goal.subst-requires
subst-requires t c =
    ask_copy _ _ _ _ _ _ _ _ _ _ ((c.decreases, (c.requires.wf, (c.requires.rows_ok, c.requires.wf_2)))) _ _ c.in-Replace.is (omega arith) (sym c.in-Some.is ∙ c.find_def.ensures)

pub returns-in-Some : goal.returns-in-Some
returns-in-Some t c =
    ret_def _ _ _ _ _ _ _ _ _ _ ((c.decreases, (c.requires.wf, (c.requires.rows_ok, c.requires.wf_2)))) (rw c.in-Col.is at c.node_at.ensures) _ c.subst.result c.subst.new.dst c.in-Replace.is (sym c.in-Some.is ∙ c.find_def.ensures) c.subst.ensures

pub returns-in-Lit : goal.returns-in-Lit
returns-in-Lit t c =
    ret_lit _ _ _ _ _ _ c.push-in-Lit.result c.push-in-Lit.new.cells c.requires.wf_2 (rw c.in-Lit.is at c.node_at.ensures) c.push-in-Lit.ensures

pub returns-in-Miss : goal.returns-in-Miss
returns-in-Miss t c =
    ret_miss _ _ _ _ _ c.push-in-Miss.result c.push-in-Miss.new.cells c.requires.wf_2 (rw c.in-Miss.is at c.node_at.ensures) c.push-in-Miss.ensures

pub subst-requires-in-One : goal.subst-requires-in-One
subst-requires-in-One t c =
    ask_operand _ _ _ _ _ _ _ _ _ _ ((c.decreases, (c.requires.wf, (c.requires.rows_ok, c.requires.wf_2)))) _ _ _ (rw c.in-One.is at c.node_at.ensures).below c.requires.wf_2

pub returns-in_err-b-in-One : goal.returns-in_err-b-in-One
returns-in_err-b-in-One t c =
    let p = err_from_is_err_and c.from_residual.result c.from_residual.ensures.1 in
    rw p.1 (no_one _ _ _ _ _ _ _ _ (rw c.in-One.is at c.node_at.ensures) (c.in_err-b-in-One.ensures))

pub returns-in_ok-b-in-One : goal.returns-in_ok-b-in-One
returns-in_ok-b-in-One t c =
    ret_one _ _ _ _ _ _ _ _ _ _ c.push-in-One.result c.push-in-One.new.cells (rw c.in-One.is at c.node_at.ensures) (c.in_ok-b-in-One.ensures) c.push-in-One.ensures

pub subst-requires-in-Two : goal.subst-requires-in-Two
subst-requires-in-Two t c =
    ask_operand _ _ _ _ _ _ _ _ _ _ ((c.decreases, (c.requires.wf, (c.requires.rows_ok, c.requires.wf_2)))) _ _ _ (rw c.in-Two.is at c.node_at.ensures).first c.requires.wf_2

pub returns-in_err-b-in-Two : goal.returns-in_err-b-in-Two
returns-in_err-b-in-Two t c =
    let p = err_from_is_err_and c.from_residual-in_err-b-in-Two.result c.from_residual-in_err-b-in-Two.ensures.1 in
    rw p.1 (no_first _ _ _ _ _ _ _ _ _ (rw c.in-Two.is at c.node_at.ensures) (c.in_err-b-in-Two.ensures))

pub subst-requires-in-Two-2 : goal.subst-requires-in-Two-2
subst-requires-in-Two-2 t c =
    ask_operand _ _ _ _ _ _ _ _ _ _ ((c.decreases, (c.requires.wf, (c.requires.rows_ok, c.requires.wf_2)))) _ _ _ (rw c.in-Two.is at c.node_at.ensures).second (c.in_ok-b-in-Two.ensures).wf

pub returns-in_err-d-in-Two : goal.returns-in_err-d-in-Two
returns-in_err-d-in-Two t c =
    let p = err_from_is_err_and c.from_residual-in_err-d-in-Two.result c.from_residual-in_err-d-in-Two.ensures.1 in
    rw p.1 (no_second _ _ _ _ _ _ _ _ _ _ _ _ (rw c.in-Two.is at c.node_at.ensures) (c.in_ok-b-in-Two.ensures) (c.in_err-d-in-Two.ensures))

pub returns-in_ok-d-in-Two : goal.returns-in_ok-d-in-Two
returns-in_ok-d-in-Two t c =
    ret_two _ _ _ _ _ _ _ _ _ _ _ _ _ _ c.push-in-Two.result c.push-in-Two.new.cells (rw c.in-Two.is at c.node_at.ensures) (c.in_ok-b-in-Two.ensures) (c.in_ok-d-in-Two.ensures) c.push-in-Two.ensures
