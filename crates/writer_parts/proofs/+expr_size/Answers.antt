-- The proof of the cycle of calls {expr_size}. The measure is the node's number. Assumes nothing.
use native.Mathlib.Omega.{arith}
use Rattle.arena.proofs.Laws.{lower}
use Rattle.writer_parts.proofs.Exprs.{col-length, lit-length, miss-length, one-length, two-length, col-tags, lit-tags, miss-tags, one-tags, two-tags}
use Rattle.writer_parts.proofs.+expr_size.Goals as goal

pub node_at-v-requires : goal.node_at-v-requires
node_at-v-requires t c =
    c.requires.wf

pub expr_size-requires : goal.expr_size-requires
expr_size-requires t c =
    let h = rw c.in-One.is at c.node_at-v.ensures in
    (omega (arith, c.decreases, h.below), (lower _ _ _ c.requires.wf h.below, omega (arith, c.requires.countable, one-length _ _ _ _ h, one-tags _ _ _ _ h)))

pub add-requires : goal.add-requires
add-requires t c =
    let h = rw c.in-One.is at c.node_at-v.ensures in
    omega (arith, c.requires.countable, one-length _ _ _ _ h, one-tags _ _ _ _ h, c.expr_size.ensures)

pub expr_size-a-requires : goal.expr_size-a-requires
expr_size-a-requires t c =
    let h = rw c.in-Two.is at c.node_at-v.ensures in
    (omega (arith, c.decreases, h.first), (lower _ _ _ c.requires.wf h.first, omega (arith, c.requires.countable, two-length _ _ _ _ _ h, two-tags _ _ _ _ _ h)))

pub expr_size-b-requires : goal.expr_size-b-requires
expr_size-b-requires t c =
    let h = rw c.in-Two.is at c.node_at-v.ensures in
    (omega (arith, c.decreases, h.second), (lower _ _ _ c.requires.wf h.second, omega (arith, c.requires.countable, two-length _ _ _ _ _ h, two-tags _ _ _ _ _ h)))

pub add-requires-in-Two : goal.add-requires-in-Two
add-requires-in-Two t c =
    let h = rw c.in-Two.is at c.node_at-v.ensures in
    omega (arith, c.requires.countable, two-length _ _ _ _ _ h, two-tags _ _ _ _ _ h, c.expr_size-a.ensures, c.expr_size-b.ensures)

pub add-requires-in-Two-2 : goal.add-requires-in-Two-2
add-requires-in-Two-2 t c =
    let h = rw c.in-Two.is at c.node_at-v.ensures in
    omega (arith, c.requires.countable, two-length _ _ _ _ _ h, two-tags _ _ _ _ _ h, c.expr_size-a.ensures, c.expr_size-b.ensures, c.add-in-Two.ensures)

pub returns-in-Col : goal.returns-in-Col
returns-in-Col t c =
    let h = rw c.in-Col.is at c.node_at-v.ensures in omega (arith, col-length _ _ _ _ h, col-tags _ _ _ _ h)

pub returns-in-Lit : goal.returns-in-Lit
returns-in-Lit t c =
    let h = rw c.in-Lit.is at c.node_at-v.ensures in omega (arith, lit-length _ _ _ h, lit-tags _ _ _ h)

pub returns-in-Miss : goal.returns-in-Miss
returns-in-Miss t c =
    let h = rw c.in-Miss.is at c.node_at-v.ensures in omega (arith, miss-length _ _ h, miss-tags _ _ h)

pub returns-in-One : goal.returns-in-One
returns-in-One t c =
    let h = rw c.in-One.is at c.node_at-v.ensures in omega (arith, one-length _ _ _ _ h, one-tags _ _ _ _ h, c.add.ensures, c.expr_size.ensures)

pub returns-in-Two : goal.returns-in-Two
returns-in-Two t c =
    let h = rw c.in-Two.is at c.node_at-v.ensures in
    omega (arith, two-length _ _ _ _ _ h, two-tags _ _ _ _ _ h, c.add-in-Two-2.ensures, c.add-in-Two.ensures, c.expr_size-a.ensures, c.expr_size-b.ensures)
