-- `node_keys::node_keys` meets its contract: from the last node to the first. Assumes nothing.
use Rattle.node_keys.proofs.Nodes.{Towards}
use Rattle.node_keys.proofs.node_keys.Given as goal

abbrev pub invariant-loop-k : goal.invariant-loop-k
invariant-loop-k l = Towards l.cells l.rows l.nodes l.fields l.widths l.count l.initial.keys l.keys l.k
