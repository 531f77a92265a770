-- `jobs::window_job` meets its contract: laws of `Windows`. Assumes nothing.
use mathlib.Core.Path.{sym, ◌∙◌}
use Rattle.tree.specs.Rows.{wins_at}
use Rattle.jobs.proofs.Plain.{row-long, wins_long}
use Rattle.jobs.proofs.Windows.{same-is, window-is}
use Rattle.jobs.proofs.window_job.Goals as goal

pub returns-then-is_empty : goal.returns-then-is_empty
returns-then-is_empty c =
    λ key. record {
      is = λ C R p.
          same-is (wins_at c.args.rows.now c.args.cells.now c.args.first c.args.n) (row-long c.args.input.now.fields.now c.args.input.now.first c.args.input.now.width) c.split_off-split.ensures.holds c.split_off-split.ensures.holds_2 p C key _
          (sym c.is_empty.ensures ∙ c.if-is_empty.true);
    }

pub returns : goal.returns
returns c =
    λ key. record {
      is = λ C R p.
          window-is (wins_at c.args.rows.now c.args.cells.now c.args.first c.args.n) (row-long c.args.input.now.fields.now c.args.input.now.first c.args.input.now.width) c.split_off-split.ensures.holds c.split_off-split.ensures.holds_2 p C key _
          (wins_long c.args.rows.now c.args.cells.now c.args.first c.args.n) (sym c.is_empty.ensures ∙ c.if-is_empty.false) c.with_windows-ask.ensures;
    }
