-- `arena::Items::same` meets its contract: the rows' numbers are gone through, and the answers are those of the items. Assumes nothing.
use mathlib.Core.Path.{refl, ◌∙◌}
use Prim.Native.Nat.{◌+◌}
use mathlib.Core.Bool.{decide}
use borrow.Author.Tests.{ne_eqb}
use Rattle.std.proofs.Common.{rules}
use borrow.Author.Tests.{tests}
use Rattle.std.proofs.lemmas.Iterator.{YieldsList-from_range}
use Rattle.std.proofs.lemmas.Iterator.Search.{all_from_yields_List}
use native.Mathlib.Omega.{arith}
use Rattle.rules.specs.Merge.{item_d}
use Rattle.arena.specs.Rows.{item_at}
use Rattle.arena.proofs.Same.{same_rows, unlike}
use Rattle.arena.proofs.Items.same.Goals as goal

pub returns-then-self-other : goal.returns-then-self-other
returns-then-self-other c =
    rw (← c.if-self-other.true) (all_from_yields_List (λ i. decide (item_d (item_at c.args.self.now.rows.now c.args.self.now.cells.now (c.args.self.now.first + i)) (item_at c.args.other.now.rows.now c.args.other.now.cells.now (c.args.other.now.first + i)))) _ _ _ c.all.ensures.ran
    (YieldsList-from_range 0 c.args.self.now.count c.args.self.now.count refl (omega arith)) (λ x b q k. search (rules, tests))
    ∙ same_rows _ _ _ _ _ _ _)

pub returns-else-self-other : goal.returns-else-self-other
returns-else-self-other c =
    ne_eqb _ _ c.if-self-other.false ∙ unlike _ _ _ _ _ _ _ _ c.if-self-other.false
