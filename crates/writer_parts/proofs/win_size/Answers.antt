-- `writer_parts::win_size` meets its contract. Assumes nothing.
use native.Mathlib.Omega.{arith}
use Rattle.writer_parts.specs.Lists.{which}
use mathlib.Core.Bool.{true}
use mathlib.Core.Path.{refl}
use Rattle.writer_parts.proofs.Wins.{win-keys, win-length, win-parts, win-tags}
use Rattle.writer_parts.proofs.win_size.Goals as goal

pub counted_size-p-requires : goal.counted_size-p-requires
counted_size-p-requires c = record { parts_ok = win-parts c.args.cells.now c.win_at-w.ensures c.requires.win_ok (which true 0) refl (omega (arith)); countable = omega (arith, c.requires.countable, win-length c.args.cells.now c.win_at-w.ensures c.requires.win_ok (which true 0) refl, win-tags c.args.cells.now c.win_at-w.ensures c.requires.win_ok (which true 0) refl) }

pub counted_size-k-requires : goal.counted_size-k-requires
counted_size-k-requires c = record { parts_ok = win-keys c.args.cells.now c.win_at-w.ensures c.requires.win_ok (which true 0) refl (omega (arith)); countable = omega (arith, c.requires.countable, win-length c.args.cells.now c.win_at-w.ensures c.requires.win_ok (which true 0) refl, win-tags c.args.cells.now c.win_at-w.ensures c.requires.win_ok (which true 0) refl) }

pub call_size-m-requires : goal.call_size-m-requires
call_size-m-requires c = record { wf = c.win_at-w.ensures.node _ c.requires.win_ok; countable = omega (arith, c.requires.countable, win-length c.args.cells.now c.win_at-w.ensures c.requires.win_ok (which true 0) refl, win-tags c.args.cells.now c.win_at-w.ensures c.requires.win_ok (which true 0) refl) }

pub add-requires : goal.add-requires
add-requires c =
    omega (arith, c.requires.countable, win-length c.args.cells.now c.win_at-w.ensures c.requires.win_ok (which true 0) refl, win-tags c.args.cells.now c.win_at-w.ensures c.requires.win_ok (which true 0) refl, c.counted_size-p.ensures, c.counted_size-k.ensures, c.call_size-m.ensures)

pub add-requires-2 : goal.add-requires-2
add-requires-2 c =
    omega (arith, c.requires.countable, win-length c.args.cells.now c.win_at-w.ensures c.requires.win_ok (which true 0) refl, win-tags c.args.cells.now c.win_at-w.ensures c.requires.win_ok (which true 0) refl, c.counted_size-p.ensures, c.counted_size-k.ensures, c.call_size-m.ensures, c.add.ensures)

pub add-requires-3 : goal.add-requires-3
add-requires-3 c =
    omega (arith, c.requires.countable, win-length c.args.cells.now c.win_at-w.ensures c.requires.win_ok (which true 0) refl, win-tags c.args.cells.now c.win_at-w.ensures c.requires.win_ok (which true 0) refl, c.counted_size-p.ensures, c.counted_size-k.ensures, c.call_size-m.ensures, c.add.ensures, c.add-2.ensures)

pub returns : goal.returns
returns c =
    omega (arith, c.requires.countable, win-length c.args.cells.now c.win_at-w.ensures c.requires.win_ok (which true 0) refl, win-tags c.args.cells.now c.win_at-w.ensures c.requires.win_ok (which true 0) refl, c.counted_size-p.ensures, c.counted_size-k.ensures, c.call_size-m.ensures, c.add.ensures, c.add-2.ensures, c.add-3.ensures)
