-- `join_key_set::JoinKeySet::insert_common` meets its contract. Assumes nothing.
use Rattle.join_key_set.proofs.Laws.{behind-refl}
use Rattle.join_key_set.proofs.Sets.{common_no, common_yes}
use Rattle.join_key_set.proofs.JoinKeySet.insert_common.Goals as goal

pub returns-then-contains : goal.returns-then-contains
returns-then-contains c = record { fills = common_yes _ _ c.args.self c.args.s2 _ _ c.contains.ensures c.if-contains.true c.insert.result c.insert.new.pairs c.insert.ensures.fills; behind = c.insert.ensures.behind }

pub returns : goal.returns
returns c = record { fills = common_no _ _ c.args.self c.args.s2 _ _ c.contains.ensures c.requires.keys_ok c.if-contains.false; behind = behind-refl _ _ }
