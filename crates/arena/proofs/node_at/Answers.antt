-- `arena::node_at` meets its contract: each case is a law of `expr_at`. Assumes nothing.
use mathlib.Core.Path.{◌≡◌, refl, sym, ap, ap₂, ◌∙◌}
use mathlib.Core.List.{List}
use Prim.Native.Nat.{ℕ, ◌<◌, ◌≤◌}
use native.Mathlib.Omega.{arith}
use Rattle.cpl.specs.Codes.{signed}
use Rattle.cpl.specs.Plan.{col, lit, pair}
use Rattle.arena.specs.Cells.{NodeIs, NodeOk, tag_at, x_at, y_at}
use Rattle.arena.specs.View.{Shows}
use Rattle.arena.specs.declared.View.TheVariants.{Col, Lit, Miss, One, Two}
use Rattle.arena.proofs.Laws.{at_col, at_lit, at_miss, at_one, at_two, here}
use Rattle.arena.proofs.node_at.Goals as goal

-- once the three numbers are read
module _ {s : List ℕ} {i : ℕ} (o : NodeOk s i) {t x y : ℕ} (e : NodeIs s i t x y) where
  same : NodeIs s i (tag_at s i) (x_at s i) (y_at s i)
  same = record { tag_is = refl; x_is = refl; y_is = refl }

  as-col : t ≡ 0 → Shows s i (Col x y)
  as-col h = at_col s i (sym e.tag_is ∙ h) ∙ sym (ap₂ (λ a b. col (pair a b)) e.x_is e.y_is)

  as-lit : t ≡ 1 → Shows s i (Lit x)
  as-lit h = at_lit s i (sym e.tag_is ∙ h) ∙ sym (ap (λ a. lit (signed a)) e.x_is)

  as-miss : t ≡ 2 → Shows s i Miss
  as-miss h = at_miss s i (sym e.tag_is ∙ h)

  as_one : 3 ≤ t → t < 5 → Shows s i (One t x)
  as_one h k =
      let three : 3 ≤ tag_at s i = omega (arith, e.tag_is) in
      let f = o.first three in
      rw (e.tag_is, e.x_is) (record { means = at_one s i three (omega (arith, e.tag_is)) f; below = f; least = three; most = omega (arith, e.tag_is); reads = same })

  as-two : 5 ≤ t → Shows s i (Two t x y)
  as-two h =
      let five : 5 ≤ tag_at s i = omega (arith, e.tag_is) in
      let f = o.first (omega arith) in
      let g = o.second five in
      rw (e.tag_is, e.x_is, e.y_is) (record { means = at_two s i five f g; first = f; second = g; least = five; most = o.known; reads = same })

pub words_at-w-requires : goal.words_at-w-requires
words_at-w-requires c =
    (here _ _ c.requires).inside

pub overflow_cast-result : goal.overflow_cast-result
overflow_cast-result c =
    record { fits = omega (arith, ((here _ _ c.requires).column (sym c.words_at-w.ensures.tag_is ∙ c.in-0.is)).0, c.words_at-w.ensures.x_is) }

pub overflow_cast-result-in-0 : goal.overflow_cast-result-in-0
overflow_cast-result-in-0 c =
    record { fits = omega (arith, ((here _ _ c.requires).column (sym c.words_at-w.ensures.tag_is ∙ c.in-0.is)).1, c.words_at-w.ensures.y_is) }

pub returns-in-0 : goal.returns-in-0
returns-in-0 c =
    as-col (here _ _ c.requires) c.words_at-w.ensures c.in-0.is

pub returns-in-1 : goal.returns-in-1
returns-in-1 c =
    as-lit (here _ _ c.requires) c.words_at-w.ensures c.in-1.is

pub returns-in-2 : goal.returns-in-2
returns-in-2 c =
    as-miss (here _ _ c.requires) c.words_at-w.ensures c.in-2.is

pub returns-in-3 : goal.returns-in-3
returns-in-3 c =
    as_one (here _ _ c.requires) c.words_at-w.ensures (omega arith) (omega arith)

pub returns-in_default : goal.returns-in_default
returns-in_default c =
    as-two (here _ _ c.requires) c.words_at-w.ensures (omega arith)
