-- `node_keys::none_found` meets its contract: no set has anything. Assumes nothing.
use Rattle.node_keys.proofs.Founds.{found_none}
use Rattle.node_keys.proofs.none_found.Goals as goal

pub returns : goal.returns
returns c = λ key. found_none key c.new-none.ensures.set c.new-none.ensures.set c.new-none.ensures.set
