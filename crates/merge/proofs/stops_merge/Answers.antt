-- `merge::stops_merge` meets its contract. Assumes nothing.
use mathlib.Core.Path.{◌∙◌}
use Rattle.arena.proofs.Laws.{here, tag}
use Rattle.arena.proofs.Rows.{read_wf}
use Rattle.merge.proofs.Steps.{stops_free, stops-is}
use borrow.Author.Tests.{lt-ltb, le-ltb}
use native.Mathlib.Omega.{arith}
use Rattle.merge.proofs.stops_merge.Goals as goal

pub pushes-requires : goal.pushes-requires
pushes-requires c =
    let w = here _ _ (read_wf _ c.row_at-row.ensures c.requires.row_ok) in
    omega (arith, c.tag_at.ensures, tag _ _ w, w.known)

pub returns-then-pushes : goal.returns-then-pushes
returns-then-pushes c =
    stops_free _ _ c.row_at-row.ensures c.requires.row_ok c.tag_at.ensures c.pushes.ensures c.if-pushes.true

pub returns-then-own-gt1 : goal.returns-then-own-gt1
returns-then-own-gt1 c =
    let h = stops-is _ _ c.row_at-row.ensures c.requires.row_ok c.tag_at.ensures c.pushes.ensures c.if-pushes.false c.uses-own.ensures c.uses-name.ensures in
    lt-ltb _ _ c.if-own-gt1.true ∙ (rw (lt-ltb _ _ c.if-own-gt1.true) at h)

pub returns-else-own-gt1 : goal.returns-else-own-gt1
returns-else-own-gt1 c =
    let h = stops-is _ _ c.row_at-row.ensures c.requires.row_ok c.tag_at.ensures c.pushes.ensures c.if-pushes.false c.uses-own.ensures c.uses-name.ensures in
    rw (le-ltb _ _ c.if-own-gt1.false) at h
