-- `node_keys::node_keys` meets its contract: from the last node to the first. Assumes nothing.
use Prim.Native.Nat.{◌-◌}
use Rattle.node_keys.proofs.Nodes.{towards_asked, towards_more}
use native.Mathlib.Omega.{arith}
use Rattle.node_keys.proofs.node_keys.Goals as goal

pub node_key-key-requires : goal.node_key-key-requires
node_key-key-requires c = towards_asked c.requires c.loop-k.invariant _ (omega arith)

pub loop-k-preserved : goal.loop-k-preserved
loop-k-preserved c =
    towards_more (c.loop-k.k - 1) c.requires (omega arith) c.loop-k.invariant c.node_key-key.ensures (rw c.node_slot-slot.ensures at c.put_key.ensures)
