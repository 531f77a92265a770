-- `requests::with_aggregates` meets its contract. The invariant: what is left to be added are the picked aggregates of the rest. Assumes nothing.
use mathlib.Core.Path.{sym, ◌∙◌}
use Rattle.cpl.specs.Exprs.{agg_exprs}
use Rattle.lookup.proofs.Lists.{rest-next, rest-none}
use Rattle.requests.proofs.Lists.{picked_all, picked_no, picked_yes}
use Rattle.requests.proofs.with_aggregates.Goals as goal
use Rattle.requests.proofs.with_aggregates.Goals.{then-contains, else-contains}

pub loop-i-preserved : goal.loop-i-preserved
unfolding agg_exprs
loop-i-preserved c =
    let next = rest-next _ _ _ _ c.loop-i-test.true in
    elim c.if-contains.branch [
      | then-contains w ↦ rw w.out-is (picked_yes c.loop-i.invariant _ _ next c.loop-i-test.true (sym c.contains.ensures ∙ w.if-contains.true) (rw (w.agg_at-a.ensures.means c.args.cells.now) w.with_call-out.ensures))
      | else-contains w ↦ rw w.out-is (picked_no c.loop-i.invariant _ _ next c.loop-i-test.true (sym c.contains.ensures ∙ w.if-contains.false))
    ]

pub returns : goal.returns
returns c =
    picked_all c.loop-i.invariant (rest-none _ _ _ _ c.loop-i-test.false)
