-- `arena::Items::uses_no_column` meets its contract: the rows' numbers are gone through, and the answers are those of the items. Assumes nothing.
use mathlib.Core.Path.{refl, sym, ap, ◌∙◌}
use Prim.Native.Nat.{◌+◌}
use mathlib.Core.Bool.{not}
use Rattle.std.proofs.Common.{rules}
use borrow.Author.Tests.{tests}
use Rattle.std.proofs.lemmas.Iterator.{YieldsList-from_range}
use Rattle.std.proofs.lemmas.Iterator.Search.{all_from_yields_List}
use native.Mathlib.Omega.{arith}
use Rattle.cpl.specs.Exprs.{columns?}
use Rattle.cpl.specs.Plan.{item_expr}
use Rattle.rules.specs.Merge.{uses_none}
use Rattle.arena.specs.Cells.{expr_at}
use Rattle.arena.specs.Rows.{root_at}
use Rattle.arena.proofs.Rows.{all_rows, item_expr_lem}
use Rattle.arena.proofs.Items.uses_no_column.Goals as goal

pub returns : goal.returns
unfolding uses_none
returns c =
    all_from_yields_List (λ i. not (columns? (expr_at c.args.self.now.cells.now (root_at c.args.self.now.rows.now i)))) _ _ _ c.all.ensures.ran
    (YieldsList-from_range c.args.self.now.first (c.args.self.now.first + c.args.self.now.count) c.args.self.now.count refl (omega arith)) (λ x b q k. search (rules, tests))
    ∙ all_rows _ _ (λ j. not (columns? (item_expr j))) _ _ _ (λ i l u. ap (λ e. not (columns? e)) (sym (item_expr_lem _ _ i (c.requires.each i l u))))
