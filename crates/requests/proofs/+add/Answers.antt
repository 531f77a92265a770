-- The proof of the cycle of calls {add}. The measure is the node's number. Each case is a law of `Adding`. Assumes nothing.
use mathlib.Core.Path.{◌≡◌, sym}
use mathlib.Core.Logic.{⊎_elim}
use mathlib.Core.Option.{some}
use mathlib.Core.List.{List}
use Prim.Native.Nat.{ℕ, ◌<◌}
use native.Mathlib.Omega.{arith}
use Rattle.arena.proofs.Laws.{operand}
use Rattle.cpl.specs.Exprs.{find}
use Rattle.cpl.specs.Plan.{Pair}
use Rattle.cpl.proofs.Lookup.{found_below}
use Rattle.lookup.proofs.Lists.{list_length}
use Rattle.lookup.specs.Fields.{field_at, row_at}
use Rattle.tree.specs.Rows.{one}
use Rattle.requests.specs.Asked.{Below}
use Rattle.requests.proofs.Adding.{adds_absent, adds_bin, adds_found, adds_lit, adds_miss, adds_un}
use Rattle.requests.proofs.+add.Goals as goal

-- a field's index is one of a set
place-fits : {fields : List ℕ} {start width : ℕ} (c : Pair) (i : ℕ) → Below fields start width → some i ≡ find c (row_at fields start width) → i < 512
place-fits {fields} {start} {width} c i b e = omega (arith, b.few, found_below c (row_at fields start width) i (sym e), list_length (field_at fields) one start width)

pub insert-requires : goal.insert-requires
insert-requires t c = place-fits _ _ c.requires.below (rw c.in-Some.is at c.first_fit.ensures)

pub add-requires : goal.add-requires
add-requires t c =
    let o = operand _ _ _ c.decreases c.requires.wf _ (rw c.in-One.is at c.node_at.ensures).below in
    (o.0, (o.1, c.requires.below))

pub add-requires-in-Two : goal.add-requires-in-Two
add-requires-in-Two t c =
    let o = operand _ _ _ c.decreases c.requires.wf _ (rw c.in-Two.is at c.node_at.ensures).first in
    (o.0, (o.1, c.requires.below))

pub add-requires-in-Two-2 : goal.add-requires-in-Two-2
add-requires-in-Two-2 t c =
    let o = operand _ _ _ c.decreases c.requires.wf _ (rw c.in-Two.is at c.node_at.ensures).second in
    (o.0, (o.1, c.requires.below))

pub returns-in-Some : goal.returns-in-Some
returns-in-Some t c = adds_found _ (rw c.in-Col.is at c.node_at.ensures) _ (sym (rw c.in-Some.is at c.first_fit.ensures)) c.insert.ensures.holds

pub returns-in_default : goal.returns-in_default
returns-in_default t c = adds_absent _ (rw c.in-Col.is at c.node_at.ensures) (sym (rw c.in_default.is at c.first_fit.ensures))

pub returns-in-Lit : goal.returns-in-Lit
returns-in-Lit t c = ⊎_elim (λ h. adds_lit (rw h.1 at c.node_at.ensures)) (λ h. adds_miss (rw h at c.node_at.ensures)) c.in-Lit.is

pub returns-in-One : goal.returns-in-One
returns-in-One t c = adds_un (rw c.in-One.is at c.node_at.ensures).means c.add.ensures

pub returns-in-Two : goal.returns-in-Two
returns-in-Two t c = adds_bin (rw c.in-Two.is at c.node_at.ensures).means c.add-in-Two.ensures c.add-in-Two-2.ensures
