-- The proof of the cycle of calls {resolve_both}. The measure is the node's number. Assumes nothing.
use mathlib.Core.Logic.{inl, inr}
use Rattle.arena.proofs.Laws.{operand}
use Rattle.lookup.proofs.Resolving.{seen_bin, seen_is, seen_lit, seen_miss, seen_un}
use Rattle.lookup.proofs.+resolve_both.Goals as goal

pub resolve_both-requires : goal.resolve_both-requires
resolve_both-requires t c =
    let o = operand _ _ _ c.decreases c.requires.wf _ (rw c.in-One.is at c.node_at-v.ensures).below in
    (o.0, (o.1, c.requires.sides_clear))

pub resolve_both-first-requires : goal.resolve_both-first-requires
resolve_both-first-requires t c =
    let o = operand _ _ _ c.decreases c.requires.wf _ (rw c.in-Two.is at c.node_at-v.ensures).first in
    (o.0, (o.1, c.requires.sides_clear))

pub resolve_both-second-requires : goal.resolve_both-second-requires
resolve_both-second-requires t c =
    let o = operand _ _ _ c.decreases c.requires.wf _ (rw c.in-Two.is at c.node_at-v.ensures).second in
    (o.0, (o.1, c.requires.sides_clear))

pub returns-in-Col : goal.returns-in-Col
returns-in-Col t c =
    seen_is _ (rw c.in-Col.is at c.node_at-v.ensures) c.resolve_column.ensures

pub returns-in-Lit : goal.returns-in-Lit
returns-in-Lit t c =
    elim c.in-Lit.is [ inl p ↦ seen_lit _ (rw p.1 at c.node_at-v.ensures) | inr e ↦ seen_miss _ (rw e at c.node_at-v.ensures) ]

pub returns-in-One : goal.returns-in-One
returns-in-One t c =
    seen_un _ (rw c.in-One.is at c.node_at-v.ensures).means c.resolve_both.ensures

pub returns-in-Two : goal.returns-in-Two
returns-in-Two t c =
    seen_bin _ (rw c.in-Two.is at c.node_at-v.ensures).means c.resolve_both-first.ensures c.resolve_both-second.ensures c.both_resolved.ensures
