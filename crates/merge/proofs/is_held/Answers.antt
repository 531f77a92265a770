-- `merge::is_held` meets its contract: the rows' numbers are gone through, and the answers are those of the items. Assumes nothing.
use mathlib.Core.Path.{refl, ◌∙◌}
use Prim.Native.Nat.{◌+◌}
use native.Mathlib.Omega.{arith}
use borrow.Author.Tests.{tests}
use Rattle.std.proofs.Common.{rules}
use Rattle.std.proofs.lemmas.Iterator.{YieldsList-from_range}
use Rattle.std.proofs.lemmas.Iterator.Search.{any_from_yields_List}
use Rattle.rules.specs.Merge.{stops}
use Rattle.arena.specs.Lists.{listed}
use Rattle.arena.specs.Rows.{item_at}
use Rattle.merge.proofs.Steps.{any_held}
use Rattle.merge.proofs.is_held.Goals as goal

pub returns : goal.returns
returns c =
    any_from_yields_List (λ i. stops c.args.mask (listed c.args.upper.now) (item_at c.args.lower.now.rows.now c.args.lower.now.cells.now i)) _ _ _ c.any.ensures.ran
    (YieldsList-from_range c.args.lower.now.first (c.args.lower.now.first + c.args.lower.now.count) c.args.lower.now.count refl (omega arith)) (λ x b q k. search (rules, tests))
    ∙ any_held _ _ _ _ _ _ c.requires.reads
