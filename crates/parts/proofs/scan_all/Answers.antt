-- `parts::scan_all` meets its contract: each field is that of its column. Assumes nothing.
use Rattle.std.proofs.Common.{rules}
use mathlib.Core.Path.{◌∙◌}
use Rattle.cpl.specs.Fields.{scan_field}
use Rattle.parts.specs.Catalogue.{table_at}
use Rattle.parts.proofs.Tables.{iota-list}
use Rattle.parts.proofs.scan_all.Goals as goal

pub returns : goal.returns
unfolding scan_field
returns c =
    let f = c.fill.ensures (scan_field (table_at c.args.names.now c.args.t) c.args.qualifier) (λ i h f p. search rules) in
    rw (← c.columns-n.ensures) (record { row = f.row ∙ iota-list _ _ _; kept = f.kept })
