-- `arena::is_plain` meets its contract. Assumes nothing.
use mathlib.Core.Path.{sym, ap, ◌∙◌}
use borrow.Author.Tests.{eq-eqb}
use mathlib.Core.Bool.{not}
use Rattle.rules.specs.Merge.{plain}
use Rattle.arena.proofs.Rows.{read_bare_lem, read_named}
use Rattle.arena.proofs.is_plain.Goals as goal

pub returns-then-row-eq0 : goal.returns-then-row-eq0
unfolding plain
returns-then-row-eq0 c =
    eq-eqb _ 0 c.if-row-eq0.true ∙ sym (ap plain (read_bare_lem _ c.row_at-row.ensures c.if-row-eq0.true))

pub returns-else-row-eq0 : goal.returns-else-row-eq0
unfolding plain
returns-else-row-eq0 c =
    ap not c.has_column.ensures ∙ sym (ap plain (read_named _ c.row_at-row.ensures c.if-row-eq0.false))
