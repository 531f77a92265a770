-- `arena::Items::all_plain` meets its contract: the rows' numbers are gone through, and the answers are those of the items. Assumes nothing.
use mathlib.Core.Path.{refl, ◌∙◌}
use Rattle.std.proofs.Common.{rules}
use Prim.Native.Nat.{◌+◌}
use borrow.Author.Tests.{tests}
use Rattle.std.proofs.lemmas.Iterator.{YieldsList-from_range}
use Rattle.std.proofs.lemmas.Iterator.Search.{all_from_yields_List}
use native.Mathlib.Omega.{arith}
use Rattle.rules.specs.Merge.{plain}
use Rattle.arena.specs.Rows.{item_at}
use Rattle.arena.proofs.Rows.{all_rows}
use Rattle.arena.proofs.Items.all_plain.Goals as goal

pub returns : goal.returns
returns c =
    all_from_yields_List (λ i. plain (item_at c.args.self.now.rows.now c.args.self.now.cells.now i)) _ _ _ c.all.ensures.ran
    (YieldsList-from_range c.args.self.now.first (c.args.self.now.first + c.args.self.now.count) c.args.self.now.count refl (omega arith)) (λ x b q k. search (rules, tests))
    ∙ all_rows _ _ plain _ _ _ (λ i l u. refl)
