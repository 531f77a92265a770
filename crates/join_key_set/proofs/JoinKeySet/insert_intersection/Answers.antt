-- `join_key_set::JoinKeySet::insert_intersection` meets its contract: the pairs are worked in one after the other. Assumes nothing.
use Rattle.std.proofs.lemmas.Result.{err_from_is_err_and}
use Rattle.join_key_set.proofs.Fold.{common_folds, work_65th, work_all, work_keys, work_more, work_none, work_other, work_wf}
use native.Mathlib.Omega.{arith}
use Rattle.join_key_set.proofs.JoinKeySet.insert_intersection.Goals as goal

pub loop-i-init : goal.loop-i-init
loop-i-init c =
    work_none _ _ _ c.args.self _ _ c.requires.keys_ok

pub returns-in_err-set : goal.returns-in_err-set
returns-in_err-set c =
    let p = err_from_is_err_and c.from_residual.result c.from_residual.ensures.1 in
    rw p.1 (work_65th c.loop-i.invariant c.requires.keys_ok_2 c.loop-i-test.true c.key_at-key.ensures (common_folds _) (rw (c.in_err-set.was, work_keys c.loop-i.invariant c.args.s2.start c.args.s2.size (omega (arith, c.requires.size_bound.1, c.loop-i-test.true))) at c.insert_common.ensures.fills))

pub loop-i-preserved : goal.loop-i-preserved
loop-i-preserved c =
    work_more c.loop-i.invariant c.requires.keys_ok_2 c.loop-i-test.true c.key_at-key.ensures (common_folds _) c.requires.size_bound.0 (rw (c.in_ok-set.was, work_keys c.loop-i.invariant c.args.s2.start c.args.s2.size (omega (arith, c.requires.size_bound.1, c.loop-i-test.true))) at c.insert_common.ensures.fills) c.insert_common.ensures.behind

pub returns : goal.returns
returns c =
    work_all c.loop-i.invariant (common_folds _) c.loop-i-test.false

pub insert_common-requires-clause-keys_ok_2 : goal.insert_common-requires-clause-keys_ok_2
insert_common-requires-clause-keys_ok_2 c =
    work_other c.loop-i.invariant c.args.s2.start c.args.s2.size (omega (arith, c.requires.size_bound.1, c.loop-i-test.true)) c.requires.keys_ok_3

pub insert_common-requires-clause-wf : goal.insert_common-requires-clause-wf
insert_common-requires-clause-wf c =
    work_wf c.loop-i.invariant c.requires.keys_ok_2 c.loop-i-test.true c.key_at-key.ensures
