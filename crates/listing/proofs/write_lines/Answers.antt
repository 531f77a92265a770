-- `listing::write_lines` meets its contract: the lines of the nodes passed were written, each at most 56 bytes long. Assumes nothing.
use Rattle.listing.proofs.Nodes.{lines_again, lines_done, no_lines}
use Rattle.writer_parts.proofs.Over.{fits}
use mathlib.Core.Path.{refl}
use native.Mathlib.Omega.{arith}
use Rattle.listing.proofs.write_lines.Goals as goal

pub loop-k-init : goal.loop-k-init
loop-k-init c = (omega arith, refl, no_lines _)

pub node_at-node-requires : goal.node_at-node-requires
node_at-node-requires c =
    c.requires.0.each c.loop-k.k c.loop-k-test.true

pub slice_bounds-write_line-count : goal.slice_bounds-write_line-count
slice_bounds-write_line-count c =
    omega (arith, c.requires.1, c.loop-k.invariant.0, c.loop-k.invariant.1, c.loop-k-test.true)

pub slice_bounds-write_line-start : goal.slice_bounds-write_line-start
slice_bounds-write_line-start c =
    omega (arith, c.requires.1, c.loop-k.invariant.0, c.loop-k.invariant.1, c.loop-k-test.true)

pub bounds-widths-k : goal.bounds-widths-k
bounds-widths-k c =
    omega (arith, c.requires.0.wide, c.loop-k-test.true)

pub write_line-at-requires : goal.write_line-at-requires
write_line-at-requires c =
    fits c.loop-k.out c.loop-k.at 56 (omega (arith, c.requires.1, c.loop-k.invariant.0, c.loop-k.invariant.1, c.loop-k-test.true))

pub overflow_add-at : goal.overflow_add-at
overflow_add-at c =
    let h = lines_again c.args.nodes.now c.args.widths.now c.loop-k.k c.args.count c.loop-k-test.true c.requires.1 c.loop-k.invariant.0 c.loop-k.invariant.2
    c.node_at-node.ensures.is (omega (arith, c.loop-k-test.true, c.well_formed.1.1.1.0)) (omega (arith, c.shared_slice_known-2-1.given c.loop-k.k))
    c.write_line-at.ensures in omega (arith, h.0, h.1, c.requires.1, c.well_formed.0.0)

pub loop-k-preserved : goal.loop-k-preserved
loop-k-preserved c =
    let h = lines_again c.args.nodes.now c.args.widths.now c.loop-k.k c.args.count c.loop-k-test.true c.requires.1 c.loop-k.invariant.0 c.loop-k.invariant.2
    c.node_at-node.ensures.is (omega (arith, c.loop-k-test.true, c.well_formed.1.1.1.0)) (omega (arith, c.shared_slice_known-2-1.given c.loop-k.k)) c.write_line-at.ensures in
    (h.1, h.2, h.3)

pub shape_of-out : goal.shape_of-out
shape_of-out c =
    c.loop-k.invariant.1

pub returns : goal.returns
returns c =
    lines_done _ (omega arith) c.loop-k.invariant.2
