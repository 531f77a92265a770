-- `arena::same_item` meets its contract: each way is a law of `Same`. Assumes nothing.
use mathlib.Core.Path.{refl, ◌∙◌}
use Rattle.arena.proofs.Rows.{read_bare_lem, read_named, read_row}
use Rattle.arena.proofs.Same.{other_mark, same-bare, same-named}
use Rattle.arena.proofs.same_item.Goals as goal

pub returns-then-v-eq0 : goal.returns-then-v-eq0
returns-then-v-eq0 c =
    same-bare _ _ _ _ (read_bare_lem _ c.row_at-v.ensures c.if-v-eq0.true) (read_row _ c.row_at-w.ensures)

pub returns-then-w-eq0 : goal.returns-then-w-eq0
returns-then-w-eq0 c =
    other_mark (read_named _ c.row_at-v.ensures c.if-v-eq0.false) (read_bare_lem _ c.row_at-w.ensures c.if-w-eq0.true)

pub returns-then-pairs : goal.returns-then-pairs
returns-then-pairs c =
    same-named (read_named _ c.row_at-v.ensures c.if-v-eq0.false) (read_named _ c.row_at-w.ensures c.if-w-eq0.false) c.if-pairs.true c.same_expr.ensures

pub returns-else-pairs : goal.returns-else-pairs
returns-else-pairs c =
    c.if-pairs.false ∙ same-named (read_named _ c.row_at-v.ensures c.if-v-eq0.false) (read_named _ c.row_at-w.ensures c.if-w-eq0.false) c.if-pairs.false refl
