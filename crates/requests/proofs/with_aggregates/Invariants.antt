-- `requests::with_aggregates` meets its contract. The invariant: what is left to be added are the picked aggregates of the rest. Assumes nothing.
use Rattle.cpl.specs.Exprs.{agg_exprs}
use Rattle.cpl.specs.Tests.{concat_map}
use Rattle.rules.specs.Mask.{select}
use Rattle.required_indices.specs.Request.{request_mask, set_of}
use Rattle.tree.specs.Rows.{agg_at, aggs_at}
use Rattle.lookup.specs.Fields.{fields_of}
use Rattle.lookup.proofs.Lists.{rest}
use Rattle.requests.proofs.Lists.{Picked}
use Rattle.requests.proofs.with_aggregates.Given as goal

abbrev pub invariant-loop-i : goal.invariant-loop-i
invariant-loop-i l =
    Picked (concat_map agg_exprs (select (request_mask l.count l.kept) (aggs_at l.rows l.cells l.first l.count))) agg_exprs l.count (set_of l.kept) (fields_of l.schema) l.initial.out l.i (rest (agg_at l.rows l.cells) l.first l.count l.i) l.out
