-- `parts::resolve_roots` meets its contract: each expression is that of its row. Assumes nothing.
use Rattle.std.proofs.Common.{rules}
use Prim.Native.Nat.{ℕ, ◌+◌}
use mathlib.Core.Path.{◌∙◌}
use Rattle.arena.specs.Cells.{expr_at}
use Rattle.arena.specs.Rows.{root_at}
use Rattle.cpl.specs.Plan.{Expr}
use Rattle.cpl.specs.Accept.{Test}
use Rattle.lookup.specs.Fields.{fields_of}
use Rattle.parts.proofs.Strides.{seen-from}
use Rattle.parts.proofs.resolve_roots.Goals as goal

pub returns : goal.returns
returns c =
    let read = λ (j : ℕ). expr_at c.args.cells.now (root_at c.args.rows.now j) in
    let seen = λ (e : Expr) (test : Test). test (fields_of c.args.schema.now) e in
    c.resolve_each.ensures (λ i. seen (read (c.args.first + i))) (λ i h r p. search rules) ∙ seen-from seen read c.args.first c.args.count
