-- `parts::resolve_ons` meets its contract: each pair is that of its row. Assumes nothing.
use Rattle.std.proofs.Common.{rules}
use Prim.Native.Nat.{◌+◌}
use mathlib.Core.Path.{◌∙◌}
use Rattle.cpl.specs.Accept.{Test, on_passes}
use Rattle.cpl.specs.Plan.{On}
use Rattle.lookup.specs.Fields.{left_row, right_row}
use Rattle.parts.proofs.Strides.{seen-from}
use Rattle.tree.specs.Rows.{on_at}
use Rattle.parts.proofs.resolve_ons.Goals as goal

pub returns : goal.returns
returns c =
    let fl = left_row c.args.fields.now c.args.sides in
    let fr = right_row c.args.fields.now c.args.sides in
    let read = on_at c.args.rows.now c.args.cells.now in
    let seen = λ (o : On) (test : Test). on_passes fl fr test o in
    c.resolve_each.ensures (λ i. seen (read (c.args.first + i))) (λ i h r p. search rules)
    ∙ seen-from seen read c.args.first c.args.count
