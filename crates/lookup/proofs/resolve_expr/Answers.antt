-- `lookup::resolve_expr` meets its contract: nothing is found in no fields. Assumes nothing.
use Rattle.arena.specs.Cells.{expr_at}
use Rattle.cpl.specs.Accept.{clash}
use Rattle.cpl.specs.Plan.{Pair}
use Rattle.lookup.proofs.Resolving.{seen}
use Rattle.lookup.specs.Fields.{fields_of}
use Rattle.tree.specs.Rows.{list_at}
use mathlib.Core.List.{List, append-nil}
use mathlib.Core.Path.{refl, ◌∙◌, ap}
use native.Mathlib.Omega.{arith}
use Rattle.lookup.proofs.resolve_expr.Goals as goal

pub resolve_both-requires : goal.resolve_both-requires
unfolding clash list_at
resolve_both-requires c = record { wf = c.requires.wf; sides_clear = record { left_clear = c.requires.row_clear; right_clear = record { inside = omega (arith, c.requires.row_clear.inside); clear = λ e. refl } } }

pub returns : goal.returns
unfolding list_at
returns c =
    c.resolve_both.ensures ∙ ap (λ (fs : List Pair). seen fs (expr_at c.args.cells.now c.args.i)) (append-nil (fields_of c.args.schema.now))
