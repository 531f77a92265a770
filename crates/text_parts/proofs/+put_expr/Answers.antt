-- `text_parts::put_expr` meets its contract; the measure is the node's number. Assumes nothing.
use Rattle.arena.proofs.Laws.{lower}
use Rattle.text_parts.proofs.Parts.{expr_col, expr_lit, expr_miss, expr_one, expr_two}
use native.Mathlib.Omega.{arith}
use Rattle.text_parts.proofs.+put_expr.Goals as goal

pub node_at-v-requires : goal.node_at-v-requires
node_at-v-requires t c =
    c.requires

pub put_one-a-requires : goal.put_one-a-requires
put_one-a-requires t c =
    let h = rw c.in-One.is at c.node_at-v.ensures in
    (h.least, h.most)

pub put_expr-b-requires : goal.put_expr-b-requires
put_expr-b-requires t c =
    let h = rw c.in-One.is at c.node_at-v.ensures in
    (omega (arith, c.decreases, h.below), lower _ _ _ c.requires h.below)

pub put_expr-b-requires-in-Two : goal.put_expr-b-requires-in-Two
put_expr-b-requires-in-Two t c =
    let h = rw c.in-Two.is at c.node_at-v.ensures in
    (omega (arith, c.decreases, h.first), lower _ _ _ c.requires h.first)

pub put_two-c-requires : goal.put_two-c-requires
put_two-c-requires t c =
    let h = rw c.in-Two.is at c.node_at-v.ensures in
    (h.least, h.most)

pub put_expr-d-requires : goal.put_expr-d-requires
put_expr-d-requires t c =
    let h = rw c.in-Two.is at c.node_at-v.ensures in
    (omega (arith, c.decreases, h.second), lower _ _ _ c.requires h.second)

pub returns-in-Col : goal.returns-in-Col
returns-in-Col t c =
    expr_col _ _ _ _ (rw c.in-Col.is at c.node_at-v.ensures) c.put_pair.ensures

pub returns-in-Lit : goal.returns-in-Lit
returns-in-Lit t c =
    expr_lit _ _ _ (rw c.in-Lit.is at c.node_at-v.ensures) c.put_integer.ensures

pub returns-in-Miss : goal.returns-in-Miss
returns-in-Miss t c =
    expr_miss _ _ (rw c.in-Miss.is at c.node_at-v.ensures) c.put_text.ensures

pub returns-in-One : goal.returns-in-One
returns-in-One t c =
    expr_one _ _ _ _ (rw c.in-One.is at c.node_at-v.ensures) c.put_one-a.ensures c.put_expr-b.ensures c.put_text-in-One.ensures

pub returns-in-Two : goal.returns-in-Two
returns-in-Two t c =
    expr_two _ _ _ _ _ (rw c.in-Two.is at c.node_at-v.ensures) c.put_text-a.ensures c.put_expr-b-in-Two.ensures c.put_two-c.ensures c.put_expr-d.ensures c.put_text-in-Two.ensures
