-- `jobs::aggregate_job` meets its contract: laws of `Aggregates`. Assumes nothing.
use mathlib.Core.Path.{sym, ◌∙◌}
use Prim.Native.Nat.{◌+◌}
use Rattle.arena.specs.Rows.{items_at}
use Rattle.tree.specs.Rows.{aggs_at}
use Rattle.jobs.proofs.Plain.{aggs_long, items-long}
use Rattle.jobs.proofs.Aggregates.{aggregate-is, groups_few, kept-fits, nothing_is}
use Rattle.jobs.proofs.aggregate_job.Goals as goal

pub kept_groups-own-requires : goal.kept_groups-own-requires
kept_groups-own-requires c =
    let few = groups_few (items_at c.args.rows.now c.args.cells.now c.args.first c.args.groups) (aggs_at c.args.rows.now c.args.cells.now (c.args.first + c.args.groups) c.args.aggregates)
    (items-long c.args.rows.now c.args.cells.now c.args.first c.args.groups) c.split_off-split.ensures.holds_2 c.requires.posed.1 in record { rows_ok = (c.requires.rows_ok, few); row_in = (c.requires.below.inside, c.requires.below.few) }

pub followed_by-kept-requires : goal.followed_by-kept-requires
followed_by-kept-requires c =
    kept-fits (items_at c.args.rows.now c.args.cells.now c.args.first c.args.groups) (aggs_at c.args.rows.now c.args.cells.now (c.args.first + c.args.groups) c.args.aggregates)
    (items-long c.args.rows.now c.args.cells.now c.args.first c.args.groups) c.split_off-split.ensures.holds_2 c.requires.posed.1

pub returns-then-is_empty : goal.returns-then-is_empty
returns-then-is_empty c =
    λ ks k.
    record {
      is = λ C R p.
          nothing_is (items_at c.args.rows.now c.args.cells.now c.args.first c.args.groups) (aggs_at c.args.rows.now c.args.cells.now (c.args.first + c.args.groups) c.args.aggregates)
          (items-long c.args.rows.now c.args.cells.now c.args.first c.args.groups)
          (record { asked_is = c.split_off-split.ensures.holds; set_is = c.split_off-split.ensures.holds_2; own_are = c.kept_groups-own.ensures; kept_is = c.followed_by-kept.ensures }) p ks k C _ (sym c.is_empty.ensures ∙ c.if-is_empty.true);
    }

pub returns : goal.returns
returns c =
    λ ks k.
    record {
      is = λ C R p.
          aggregate-is (items_at c.args.rows.now c.args.cells.now c.args.first c.args.groups) (aggs_at c.args.rows.now c.args.cells.now (c.args.first + c.args.groups) c.args.aggregates)
          (items-long c.args.rows.now c.args.cells.now c.args.first c.args.groups)
          (record { asked_is = c.split_off-split.ensures.holds; set_is = c.split_off-split.ensures.holds_2; own_are = c.kept_groups-own.ensures; kept_is = c.followed_by-kept.ensures }) p ks k C
          (aggs_long c.args.rows.now c.args.cells.now (c.args.first + c.args.groups) c.args.aggregates) (sym c.is_empty.ensures ∙ c.if-is_empty.false) c.new-none.ensures c.with_items-by.ensures c.with_aggregates-ask.ensures;
    }
