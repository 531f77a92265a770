-- `parts::resolve_aggs` meets its contract: each aggregate is that of its row. Assumes nothing.
use Rattle.std.proofs.Common.{rules}
use Prim.Native.Nat.{◌+◌}
use mathlib.Core.Path.{◌∙◌}
use Rattle.cpl.specs.Accept.{each_passes}
use Rattle.cpl.specs.Exprs.{agg_exprs}
use Rattle.cpl.specs.Plan.{Agg}
use Rattle.lookup.specs.Fields.{fields_of}
use Rattle.parts.proofs.Exprs.{agg_seen, seen_concat}
use Rattle.parts.proofs.Strides.{seen-from}
use Rattle.tree.specs.Rows.{agg_at}
use Rattle.parts.proofs.resolve_aggs.Goals as goal

pub returns : goal.returns
returns c =
    let fs = fields_of c.args.schema.now in
    let read = agg_at c.args.rows.now c.args.cells.now in
    let seen = λ (g : Agg). each_passes (agg_exprs g) fs in
    c.resolve_each.ensures (λ i. seen (read (c.args.first + i))) (λ i h r p. search (rules, agg_seen))
    ∙ seen-from seen read c.args.first c.args.count ∙ seen_concat fs agg_exprs _
