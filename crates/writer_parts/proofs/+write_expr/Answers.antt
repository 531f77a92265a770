-- The proof of the cycle of calls {write_expr}. The measure is the node's number. Each arm is a law of `Exprs`. Assumes nothing.
use borrow.Author.Rules.{rules}
use mathlib.Core.Path.{refl}
use native.Mathlib.Omega.{arith}
use Rattle.arena.proofs.Laws.{lower}
use Rattle.writer_parts.proofs.Exprs.{col-length, lit-length, miss-length, one-length, two-length, col-wrote, lit-wrote, miss-wrote, one-wrote, two-wrote}
use Rattle.writer_parts.proofs.+write_expr.Goals as goal

pub node_at-v-requires : goal.node_at-v-requires
node_at-v-requires t c =
    c.requires.wf

pub put_at-a-requires : goal.put_at-a-requires
put_at-a-requires t c =
    omega (arith, c.requires.i_in_bounds, col-length _ _ _ _ (rw c.in-Col.is at c.node_at-v.ensures))

pub put_pair-requires : goal.put_pair-requires
put_pair-requires t c =
    omega (arith, c.requires.i_in_bounds, col-length _ _ _ _ (rw c.in-Col.is at c.node_at-v.ensures))

pub put_at-a-requires-in-Lit : goal.put_at-a-requires-in-Lit
put_at-a-requires-in-Lit t c =
    omega (arith, c.requires.i_in_bounds, lit-length _ _ _ (rw c.in-Lit.is at c.node_at-v.ensures))

pub put_at-requires : goal.put_at-requires
put_at-requires t c =
    omega (arith, c.requires.i_in_bounds, lit-length _ _ _ (rw c.in-Lit.is at c.node_at-v.ensures))

pub put_at-requires-in-Miss : goal.put_at-requires-in-Miss
put_at-requires-in-Miss t c =
    omega (arith, c.requires.i_in_bounds, miss-length _ _ (rw c.in-Miss.is at c.node_at-v.ensures))

pub put_at-a-requires-in-One : goal.put_at-a-requires-in-One
put_at-a-requires-in-One t c =
    omega (arith, c.requires.i_in_bounds, one-length _ _ _ _ (rw c.in-One.is at c.node_at-v.ensures))

pub slice_bounds-write_expr-count : goal.slice_bounds-write_expr-count
slice_bounds-write_expr-count t c =
    omega (arith, c.requires.i_in_bounds, one-length _ _ _ _ (rw c.in-One.is at c.node_at-v.ensures))

pub slice_bounds-write_expr-start : goal.slice_bounds-write_expr-start
slice_bounds-write_expr-start t c =
    omega (arith, c.requires.i_in_bounds, one-length _ _ _ _ (rw c.in-One.is at c.node_at-v.ensures))

pub write_expr-n-requires : goal.write_expr-n-requires
write_expr-n-requires t c =
    let h = rw c.in-One.is at c.node_at-v.ensures in
    (omega (arith, c.decreases, h.below), (lower _ _ _ c.requires.wf h.below, omega (arith, c.requires.i_in_bounds, one-length _ _ _ _ h)))

pub overflow_add-result : goal.overflow_add-result
overflow_add-result t c =
    let h = rw c.in-One.is at c.node_at-v.ensures in
    omega (arith, c.requires.i_in_bounds, one-length _ _ _ _ h, c.write_expr-n.ensures.long, c.well_formed.1.1.0.0)

pub put_at-a-requires-in-Two : goal.put_at-a-requires-in-Two
put_at-a-requires-in-Two t c =
    omega (arith, c.requires.i_in_bounds, two-length _ _ _ _ _ (rw c.in-Two.is at c.node_at-v.ensures))

pub slice_bounds-write_expr-count-in-Two : goal.slice_bounds-write_expr-count-in-Two
slice_bounds-write_expr-count-in-Two t c =
    omega (arith, c.requires.i_in_bounds, two-length _ _ _ _ _ (rw c.in-Two.is at c.node_at-v.ensures))

pub slice_bounds-write_expr-start-in-Two : goal.slice_bounds-write_expr-start-in-Two
slice_bounds-write_expr-start-in-Two t c =
    omega (arith, c.requires.i_in_bounds, two-length _ _ _ _ _ (rw c.in-Two.is at c.node_at-v.ensures))

pub write_expr-m-requires : goal.write_expr-m-requires
write_expr-m-requires t c =
    let h = rw c.in-Two.is at c.node_at-v.ensures in
    (omega (arith, c.decreases, h.first), (lower _ _ _ c.requires.wf h.first, omega (arith, c.requires.i_in_bounds, two-length _ _ _ _ _ h)))

pub overflow_add-b : goal.overflow_add-b
overflow_add-b t c =
    let h = rw c.in-Two.is at c.node_at-v.ensures in
    omega (arith, c.requires.i_in_bounds, two-length _ _ _ _ _ h, c.write_expr-m.ensures.long)

pub slice_bounds-write_expr-count-in-Two-2 : goal.slice_bounds-write_expr-count-in-Two-2
slice_bounds-write_expr-count-in-Two-2 t c =
    let h = rw c.in-Two.is at c.node_at-v.ensures in
    omega (arith, c.requires.i_in_bounds, two-length _ _ _ _ _ h, c.write_expr-m.ensures.long)

pub slice_bounds-write_expr-start-in-Two-2 : goal.slice_bounds-write_expr-start-in-Two-2
slice_bounds-write_expr-start-in-Two-2 t c =
    let h = rw c.in-Two.is at c.node_at-v.ensures in
    omega (arith, c.requires.i_in_bounds, two-length _ _ _ _ _ h, c.write_expr-m.ensures.long)

pub write_expr-n-requires-in-Two : goal.write_expr-n-requires-in-Two
write_expr-n-requires-in-Two t c =
    let h = rw c.in-Two.is at c.node_at-v.ensures in
    (omega (arith, c.decreases, h.second), (lower _ _ _ c.requires.wf h.second, omega (arith, c.requires.i_in_bounds, two-length _ _ _ _ _ h, c.write_expr-m.ensures.long)))

pub overflow_add-result-in-Two : goal.overflow_add-result-in-Two
overflow_add-result-in-Two t c =
    let h = rw c.in-Two.is at c.node_at-v.ensures in
    omega (arith, c.requires.i_in_bounds, two-length _ _ _ _ _ h, c.write_expr-m.ensures.long, c.write_expr-n-in-Two.ensures.long, c.well_formed.1.1.0.0)

pub returns-in-Col : goal.returns-in-Col
returns-in-Col t c =
    col-wrote _ _ _ _ (rw c.in-Col.is at c.node_at-v.ensures) c.put_at-a.ensures c.put_pair.ensures

pub returns-in-Lit : goal.returns-in-Lit
returns-in-Lit t c =
    lit-wrote _ _ _ (search rules) (rw c.in-Lit.is at c.node_at-v.ensures) c.put_at-a-in-Lit.ensures c.put_at.ensures

pub returns-in-Miss : goal.returns-in-Miss
returns-in-Miss t c =
    miss-wrote _ _ (rw c.in-Miss.is at c.node_at-v.ensures) c.put_at-in-Miss.ensures

pub returns-in-One : goal.returns-in-One
returns-in-One t c =
    one-wrote _ _ _ _ (rw c.in-One.is at c.node_at-v.ensures) c.put_at-a-in-One.ensures c.write_expr-n.ensures

pub returns-in-Two : goal.returns-in-Two
returns-in-Two t c =
    two-wrote _ _ _ _ _ (rw c.in-Two.is at c.node_at-v.ensures) c.put_at-a-in-Two.ensures c.write_expr-m.ensures refl c.write_expr-n-in-Two.ensures
