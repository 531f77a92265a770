-- `writer::plan_size` meets its contract. Assumes nothing.
use Rattle.writer.proofs.plan_size.Goals as goal

pub node_size-requires : goal.node_size-requires
node_size-requires c = c.requires

pub returns : goal.returns
returns c = λ w. c.node_size.ensures w
