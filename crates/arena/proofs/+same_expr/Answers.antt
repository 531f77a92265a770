-- The proof of the cycle of calls {same_expr}. The measure is the first node's number. Each case is a law of `Same`. Assumes nothing.
use mathlib.Core.Path.{refl, sym, ◌∙◌}
use native.Mathlib.Omega.{arith}
use Rattle.arena.proofs.Laws.{here, lower}
use Rattle.arena.proofs.Same.{and-else, and-then, other-col, other-lit, other-miss, other-one, other-two, same_cols, same_lits, same-miss, same-one, same-two, tags_differ}
use Rattle.arena.proofs.+same_expr.Goals as goal

pub words_at-v-requires : goal.words_at-v-requires
words_at-v-requires t c =
    (here _ _ c.requires.wf).inside

pub words_at-w-requires : goal.words_at-w-requires
words_at-w-requires t c =
    (here _ _ c.requires.wf_2).inside

pub returns-then-v-w : goal.returns-then-v-w
returns-then-v-w t c =
    tags_differ (here _ _ c.requires.wf) (here _ _ c.requires.wf_2) c.words_at-v.ensures c.words_at-w.ensures c.if-v-w.true

pub same_expr-requires : goal.same_expr-requires
same_expr-requires t c =
    let q = rw c.in-One.is at c.node_at.ensures in
    (omega (arith, c.decreases, q.below), (lower _ _ _ c.requires.wf q.below, lower _ _ _ c.requires.wf_2 (other-one (here _ _ c.requires.wf) (here _ _ c.requires.wf_2) c.words_at-v.ensures c.words_at-w.ensures c.if-v-w.false q).0))

pub same_expr-requires-in-Two : goal.same_expr-requires-in-Two
same_expr-requires-in-Two t c =
    let q = rw c.in-Two.is at c.node_at.ensures in
    (omega (arith, c.decreases, q.first), (lower _ _ _ c.requires.wf q.first, lower _ _ _ c.requires.wf_2 (other-two (here _ _ c.requires.wf) (here _ _ c.requires.wf_2) c.words_at-v.ensures c.words_at-w.ensures c.if-v-w.false q).0))

pub same_expr-requires-then-same_expr : goal.same_expr-requires-then-same_expr
same_expr-requires-then-same_expr t c =
    let q = rw c.in-Two.is at c.node_at.ensures in
    (omega (arith, c.decreases, q.second), (lower _ _ _ c.requires.wf q.second, lower _ _ _ c.requires.wf_2 (other-two (here _ _ c.requires.wf) (here _ _ c.requires.wf_2) c.words_at-v.ensures c.words_at-w.ensures c.if-v-w.false q).1))

pub returns-then-same_expr : goal.returns-then-same_expr
returns-then-same_expr t c =
    let q = rw c.in-Two.is at c.node_at.ensures in
    same-two q.means (other-two (here _ _ c.requires.wf) (here _ _ c.requires.wf_2) c.words_at-v.ensures c.words_at-w.ensures c.if-v-w.false q).2 (sym c.if-same_expr.true ∙ c.same_expr-in-Two.ensures) c.same_expr-then-same_expr.ensures

pub returns-in-Lit : goal.returns-in-Lit
returns-in-Lit t c =
    let g = other-lit (here _ _ c.requires.wf) (here _ _ c.requires.wf_2) c.words_at-v.ensures c.words_at-w.ensures c.if-v-w.false (rw c.in-Lit.is at c.node_at.ensures) in
    same_lits g.0 g.1 (omega arith) (omega arith)

pub returns-in-Miss : goal.returns-in-Miss
returns-in-Miss t c =
    let q = rw c.in-Miss.is at c.node_at.ensures in
    same-miss q (other-miss (here _ _ c.requires.wf) (here _ _ c.requires.wf_2) c.words_at-v.ensures c.words_at-w.ensures c.if-v-w.false q)

pub returns-in-One : goal.returns-in-One
returns-in-One t c =
    let q = rw c.in-One.is at c.node_at.ensures in
    same-one q.means (other-one (here _ _ c.requires.wf) (here _ _ c.requires.wf_2) c.words_at-v.ensures c.words_at-w.ensures c.if-v-w.false q).1 c.same_expr.ensures

pub returns-else-same_expr : goal.returns-else-same_expr
returns-else-same_expr t c =
    let q = rw c.in-Two.is at c.node_at.ensures in
    c.if-same_expr.false ∙ same-two q.means (other-two (here _ _ c.requires.wf) (here _ _ c.requires.wf_2) c.words_at-v.ensures c.words_at-w.ensures c.if-v-w.false q).2 (sym c.if-same_expr.false ∙ c.same_expr-in-Two.ensures) refl

pub returns-then-v-w-2 : goal.returns-then-v-w-2
returns-then-v-w-2 t c =
    let g = other-col (here _ _ c.requires.wf) (here _ _ c.requires.wf_2) c.words_at-v.ensures c.words_at-w.ensures c.if-v-w.false (rw c.in-Col.is at c.node_at.ensures) in
    and-then _ (same_cols g.0 g.1) c.if-v-w-2.true

pub returns-else-v-w-2 : goal.returns-else-v-w-2
returns-else-v-w-2 t c =
    let g = other-col (here _ _ c.requires.wf) (here _ _ c.requires.wf_2) c.words_at-v.ensures c.words_at-w.ensures c.if-v-w.false (rw c.in-Col.is at c.node_at.ensures) in
    and-else _ (same_cols g.0 g.1) c.if-v-w-2.false
