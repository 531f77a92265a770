-- `join_key_set::JoinKeySet::insert_all` meets its contract: the pairs are worked in one after the other. Assumes nothing.
use Rattle.std.proofs.lemmas.Result.{err_from_is_err_and}
use Rattle.join_key_set.proofs.Fold.{all_folds, work_65th, work_all, work_in, work_more, work_none, work_wf}
use Rattle.join_keys.specs.Keys.{insert_all}
use Rattle.join_key_set.proofs.JoinKeySet.insert_all.Goals as goal

pub loop-i-init : goal.loop-i-init
loop-i-init c =
    (work_none insert_all _ _ c.args.self _ _ c.requires.keys_ok, λ n a b. a)

pub returns-in_err-set : goal.returns-in_err-set
returns-in_err-set c =
    let p = err_from_is_err_and c.from_residual.result c.from_residual.ensures.1 in
    record { fills = rw p.1 (work_65th c.loop-i.invariant.0 c.requires.keys_ok_2 c.loop-i-test.true c.key_at-key.ensures all_folds (rw c.in_err-set.was at c.insert.ensures.fills)); by_index = λ n a b. rw p.1 tt }

pub loop-i-preserved : goal.loop-i-preserved
loop-i-preserved c = (
  work_more c.loop-i.invariant.0 c.requires.keys_ok_2 c.loop-i-test.true c.key_at-key.ensures all_folds c.requires.size_bound (rw c.in_ok-set.was at c.insert.ensures.fills) c.insert.ensures.behind,
  λ n a b.
      let z = work_in c.loop-i.invariant.0 c.requires.keys_ok_2 c.loop-i-test.true c.key_at-key.ensures b in
      rw c.in_ok-set.was at (c.insert.ensures.by_index n (c.loop-i.invariant.1 n a b) z.0 z.1),
)

pub returns : goal.returns
returns c = record { fills = work_all c.loop-i.invariant.0 all_folds c.loop-i-test.false; by_index = c.loop-i.invariant.1 }

pub insert-requires-clause-wf : goal.insert-requires-clause-wf
insert-requires-clause-wf c =
    work_wf c.loop-i.invariant.0 c.requires.keys_ok_2 c.loop-i-test.true c.key_at-key.ensures
