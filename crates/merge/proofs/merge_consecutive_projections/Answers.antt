-- `merge::merge_consecutive_projections` meets its contract: each way is a law of `Steps`. Assumes nothing.
use mathlib.Core.Path.{sym, ap, ◌∙◌}
use mathlib.Core.Option.{some}
use native.Mathlib.Omega.{arith}
use Rattle.arena.proofs.Laws.{wf-none}
use Rattle.std.proofs.lemmas.Result.{err_from_is_err_and}
use Rattle.merge.proofs.Steps.{listed_small, over-nodes, step-held, step-none, step_put, step_same, too_long_lem}
use Rattle.merge.proofs.merge_consecutive_projections.Goals as goal

pub returns-then-drops_child : goal.returns-then-drops_child
returns-then-drops_child c =
    step_same _ _ _ _ (sym c.drops_child.ensures ∙ c.if-drops_child.true)

pub returns-then-is_held : goal.returns-then-is_held
returns-then-is_held c =
    step-held _ _ _ _ (sym c.drops_child.ensures ∙ c.if-drops_child.false) (sym c.is_held.ensures ∙ c.if-is_held.true)

pub returns-then-uses_no_column : goal.returns-then-uses_no_column
returns-then-uses_no_column c =
    step-none _ _ _ _ (sym c.drops_child.ensures ∙ c.if-drops_child.false) (sym c.is_held.ensures ∙ c.if-is_held.false) (sym c.uses_no_column.ensures ∙ c.if-uses_no_column.true)

pub replace_items-requires-clause-dst_len_bound : goal.replace_items-requires-clause-dst_len_bound
replace_items-requires-clause-dst_len_bound c =
    (c.requires.room.cells_short, wf-none _)

pub returns-in_err-replace_items : goal.returns-in_err-replace_items
returns-in_err-replace_items c =
    let p = err_from_is_err_and c.from_residual.result c.from_residual.ensures.1 in
    rw p.1
    (record {
      list = _;
      step = step_put _ _ _ _ (sym c.drops_child.ensures ∙ c.if-drops_child.false) (sym c.is_held.ensures ∙ c.if-is_held.false) (sym c.uses_no_column.ensures ∙ c.if-uses_no_column.false);
      long = too_long_lem _ (over-nodes c.requires.room.cells_long c.in_err-replace_items.ensures);
    })

pub tags-requires-clause-count_bound : goal.tags-requires-clause-count_bound
tags-requires-clause-count_bound c =
    listed_small c.requires.room.cells_short c.requires.room.few c.in_ok-replace_items.ensures

pub returns-then-tags-gt-TAGS : goal.returns-then-tags-gt-TAGS
returns-then-tags-gt-TAGS c =
    record {
      list = _;
      step = step_put _ _ _ _ (sym c.drops_child.ensures ∙ c.if-drops_child.false) (sym c.is_held.ensures ∙ c.if-is_held.false) (sym c.uses_no_column.ensures ∙ c.if-uses_no_column.false) ∙ ap some (sym c.in_ok-replace_items.ensures.means);
      long = too_long_lem _ (omega (arith, c.tags.ensures, c.if-tags-gt-TAGS.true));
    }

pub returns : goal.returns
returns c = (
  step_put _ _ _ _ (sym c.drops_child.ensures ∙ c.if-drops_child.false) (sym c.is_held.ensures ∙ c.if-is_held.false) (sym c.uses_no_column.ensures ∙ c.if-uses_no_column.false) ∙ ap some (sym c.in_ok-replace_items.ensures.means),
  record { rows_ok = c.in_ok-replace_items.ensures.ok; few = omega (arith, c.tags.ensures, c.if-tags-gt-TAGS.false) },
)
