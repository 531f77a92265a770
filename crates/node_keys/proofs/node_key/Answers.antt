-- `node_keys::node_key` meets its contract: a law for each kind. Assumes nothing.
use Rattle.node_keys.proofs.Nodes.{fields_in, has_none, items_in, key-none, key-passes, key-projection, key-scan, passes, scan_in}
use Rattle.node_keys.proofs.node_key.Goals as goal

pub scan_key-requires : goal.scan_key-requires
scan_key-requires c = scan_in _ (rw c.in-Scan.is at c.node_at.ensures) c.requires

pub projection_key-requires : goal.projection_key-requires
projection_key-requires c =
    let t = rw c.in-Projection.is at c.node_at.ensures in record { rows_ok = items_in _ _ t c.requires; row_in = fields_in _ _ t c.requires c.first_at.ensures c.width_at.ensures }

pub returns-in-Scan : goal.returns-in-Scan
returns-in-Scan c = key-scan _ (rw c.in-Scan.is at c.node_at.ensures) c.scan_key.ensures

pub returns-in-Projection : goal.returns-in-Projection
returns-in-Projection c = key-projection _ _ (rw c.in-Projection.is at c.node_at.ensures) c.first_at.ensures c.width_at.ensures c.input_key-key.ensures c.projection_key.ensures

pub returns-in-Filter : goal.returns-in-Filter
returns-in-Filter c = key-passes _ c.node_at.ensures (passes c.in-Filter.is) c.input_key.ensures

pub returns-in-Aggregate : goal.returns-in-Aggregate
returns-in-Aggregate c = key-none _ c.node_at.ensures (has_none c.in-Aggregate.is) c.new.ensures
