-- `parts::take_pairs` meets its contract: each field is the pair of its row. Assumes nothing.
use Rattle.std.proofs.Common.{rules}
use Prim.Native.Nat.{◌+◌}
use mathlib.Core.Path.{◌∙◌}
use Rattle.arena.specs.Rows.{pair_at}
use Rattle.parts.proofs.Strides.{list-from}
use Rattle.parts.proofs.take_pairs.Goals as goal

pub returns : goal.returns
returns c =
    let f = c.fill.ensures (λ i. pair_at c.args.rows.now (c.args.first + i)) (λ i h f p. search rules) in
    record { row = f.row ∙ list-from (pair_at c.args.rows.now) c.args.first c.args.n; kept = f.kept }
