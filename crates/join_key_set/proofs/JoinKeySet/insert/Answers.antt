-- `join_key_set::JoinKeySet::insert` meets its contract. Assumes nothing.
use Rattle.join_key_set.proofs.Laws.{behind-refl, put_behind, put_in}
use Rattle.join_key_set.proofs.Sets.{insert_65th, insert-known, insert_new}
use Rattle.join_key_set.proofs.JoinKeySet.insert.Goals as goal

pub returns-then-contains : goal.returns-then-contains
returns-then-contains c = record { fills = insert-known _ _ c.args.self _ _ c.requires.keys_ok c.contains.ensures c.if-contains.true; behind = behind-refl _ _; by_index = λ n o a b. o }

pub returns-then-self-lt-MAX_PAIRS : goal.returns-then-self-lt-MAX_PAIRS
returns-then-self-lt-MAX_PAIRS c = record { fills = rw c.put_key.ensures (insert_new _ _ c.args.self _ _ c.requires.keys_ok c.contains.ensures c.if-contains.false c.if-self-lt-MAX_PAIRS.true c.requires.size_in_bounds c.requires.wf.0 c.requires.wf.1); behind = rw c.put_key.ensures (put_behind _ _ _ _); by_index = λ n o a b. rw c.put_key.ensures (put_in c.args.cells.now _ _ _ _ _ c.requires.size_in_bounds o a b) }

pub returns : goal.returns
returns c = record { fills = insert_65th _ _ c.args.self _ _ c.requires.keys_ok c.contains.ensures c.if-contains.false c.if-self-lt-MAX_PAIRS.false; behind = behind-refl _ _; by_index = λ n o a b. tt }
