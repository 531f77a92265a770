-- `calls::run` meets its contract: the entry that the input names. Assumes nothing.
use Rattle.calls.proofs.Texts.{check-named, join-keys-named, list-named, list-plan-named, named, no_bytes, none_named, prune_all_named, prune_named, without-keys-named}
use Rattle.listing.proofs.Puts.{counts}
use mathlib.Core.Path.{refl}
use Rattle.calls.proofs.run.Goals as goal

pub returns-in-0 : goal.returns-in-0
returns-in-0 c = record { wrote = named (prune_named c.args.input.now c.byte.ensures c.in-0.is) c.prune.ensures.wrote; counts = c.prune.ensures.counts }

pub returns-in-1 : goal.returns-in-1
returns-in-1 c = record { wrote = named (prune_all_named c.args.input.now c.byte.ensures c.in-1.is) c.prune_all.ensures.wrote; counts = c.prune_all.ensures.counts }

pub returns-in-2 : goal.returns-in-2
returns-in-2 c = record { wrote = named (check-named c.args.input.now c.byte.ensures c.in-2.is) c.check.ensures.wrote; counts = c.check.ensures.counts }

pub returns-in-3 : goal.returns-in-3
returns-in-3 c = record { wrote = named (join-keys-named c.args.input.now c.byte.ensures c.in-3.is) c.join_keys.ensures.wrote; counts = c.join_keys.ensures.counts }

pub returns-in-4 : goal.returns-in-4
returns-in-4 c = record { wrote = named (without-keys-named c.args.input.now c.byte.ensures c.in-4.is) c.without_keys.ensures.wrote; counts = c.without_keys.ensures.counts }

pub returns-in-5 : goal.returns-in-5
returns-in-5 c = record { wrote = named (list-named c.args.input.now c.byte.ensures c.in-5.is) c.list.ensures.wrote; counts = c.list.ensures.counts }

pub returns-in-6 : goal.returns-in-6
returns-in-6 c = record { wrote = named (list-plan-named c.args.input.now c.byte.ensures c.in-6.is) c.list_plan.ensures.wrote; counts = c.list_plan.ensures.counts }

pub returns-in_default : goal.returns-in_default
returns-in_default c =
    let w = no_bytes (none_named c.args.input.now c.byte.ensures c.in_default.in_default-own.rest.0.0.0.0.0.0.1 c.in_default.in_default-own.rest.0.0.0.0.0.1 c.in_default.in_default-own.rest.0.0.0.0.1 c.in_default.in_default-own.rest.0.0.0.1 c.in_default.in_default-own.rest.0.0.1 c.in_default.in_default-own.rest.0.1 c.in_default.in_default-own.rest.1) in record { wrote = w; counts = counts w refl }
