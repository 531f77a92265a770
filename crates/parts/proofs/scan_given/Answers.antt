-- `parts::scan_given` meets its contract: each field is that of the column in its row. Assumes nothing.
use Rattle.std.proofs.Common.{rules}
use Prim.Native.Nat.{ℕ, ◌+◌}
use mathlib.Core.Path.{◌∙◌, sym}
use Rattle.cpl.specs.Fields.{scan_field}
use Rattle.lookup.proofs.Lists.{list-map}
use Rattle.parts.specs.Catalogue.{table_at}
use Rattle.parts.proofs.Strides.{list-from}
use Rattle.tree.specs.Rows.{number_at, one}
use Rattle.parts.proofs.scan_given.Goals as goal

pub returns : goal.returns
unfolding scan_field
returns c =
    let column = scan_field (table_at c.args.names.now c.args.t) c.args.qualifier in
    let f = c.fill.ensures (λ i. column (number_at c.args.rows.now (c.args.first + i))) (λ i h f p. search rules) in
    record {
      row = f.row ∙ list-from (λ (j : ℕ). column (number_at c.args.rows.now j)) c.args.first c.args.n ∙ sym (list-map column (number_at c.args.rows.now) one c.args.first c.args.n);
      kept = f.kept;
    }
