-- `writer_parts::write_win` meets its contract. Assumes nothing.
use native.Mathlib.Omega.{arith}
use Rattle.writer_parts.specs.Lists.{which}
use mathlib.Core.Bool.{true}
use Rattle.writer_parts.proofs.Wins.{win-keys, win-length, win-parts, win-wrote}
use Rattle.writer_parts.proofs.Over.{kept, part, start, then}
use mathlib.Core.Path.{refl}
use Rattle.writer_parts.proofs.write_win.Goals as goal

pub put_pair-a-requires : goal.put_pair-a-requires
put_pair-a-requires c =
    omega (arith, c.requires.i_in_bounds, win-length c.args.cells.now c.win_at-w.ensures c.requires.win_ok (which true 0) refl)

pub put_at-b-requires : goal.put_at-b-requires
put_at-b-requires c =
    omega (arith, c.requires.i_in_bounds, win-length c.args.cells.now c.win_at-w.ensures c.requires.win_ok (which true 0) refl, c.put_pair-a.ensures.long)

pub slice_bounds-write_counted-count : goal.slice_bounds-write_counted-count
slice_bounds-write_counted-count c =
    omega (arith, c.requires.i_in_bounds, win-length c.args.cells.now c.win_at-w.ensures c.requires.win_ok (which true 0) refl, c.put_pair-a.ensures.long, c.put_at-b.ensures.long)

pub slice_bounds-write_counted-start : goal.slice_bounds-write_counted-start
slice_bounds-write_counted-start c =
    omega (arith, c.requires.i_in_bounds, win-length c.args.cells.now c.win_at-w.ensures c.requires.win_ok (which true 0) refl, c.put_pair-a.ensures.long, c.put_at-b.ensures.long)

pub write_counted-p-requires : goal.write_counted-p-requires
write_counted-p-requires c = record { parts_ok = win-parts c.args.cells.now c.win_at-w.ensures c.requires.win_ok (which true 0) refl (omega (arith)); used_in_bounds = omega (arith, c.requires.i_in_bounds, win-length c.args.cells.now c.win_at-w.ensures c.requires.win_ok (which true 0) refl) }

pub overflow_add-c : goal.overflow_add-c
overflow_add-c c =
    omega (arith, c.requires.i_in_bounds, win-length c.args.cells.now c.win_at-w.ensures c.requires.win_ok (which true 0) refl, c.put_pair-a.ensures.long, c.put_at-b.ensures.long, c.write_counted-p.ensures.long)

pub slice_bounds-write_counted-count-2 : goal.slice_bounds-write_counted-count-2
slice_bounds-write_counted-count-2 c =
    omega (arith, c.requires.i_in_bounds, win-length c.args.cells.now c.win_at-w.ensures c.requires.win_ok (which true 0) refl, c.put_pair-a.ensures.long, c.put_at-b.ensures.long, c.write_counted-p.ensures.long)

pub slice_bounds-write_counted-start-2 : goal.slice_bounds-write_counted-start-2
slice_bounds-write_counted-start-2 c =
    omega (arith, c.requires.i_in_bounds, win-length c.args.cells.now c.win_at-w.ensures c.requires.win_ok (which true 0) refl, c.put_pair-a.ensures.long, c.put_at-b.ensures.long, c.write_counted-p.ensures.long)

pub write_counted-k-requires : goal.write_counted-k-requires
write_counted-k-requires c = record { parts_ok = win-keys c.args.cells.now c.win_at-w.ensures c.requires.win_ok (which true 0) refl (omega (arith)); used_in_bounds = let k = kept (part (then (then start c.put_pair-a.ensures) c.put_at-b.ensures) c.write_counted-p.ensures) (omega (arith, c.requires.i_in_bounds, win-length c.args.cells.now c.win_at-w.ensures c.requires.win_ok (which true 0) refl, c.put_pair-a.ensures.long, c.put_at-b.ensures.long, c.write_counted-p.ensures.long)) in omega (arith, c.requires.i_in_bounds, win-length c.args.cells.now c.win_at-w.ensures c.requires.win_ok (which true 0) refl, c.put_pair-a.ensures.long, c.put_at-b.ensures.long, c.write_counted-p.ensures.long, k) }

pub overflow_add-d : goal.overflow_add-d
overflow_add-d c =
    omega (arith, c.requires.i_in_bounds, win-length c.args.cells.now c.win_at-w.ensures c.requires.win_ok (which true 0) refl, c.put_pair-a.ensures.long, c.put_at-b.ensures.long, c.write_counted-p.ensures.long, c.write_counted-k.ensures.long)

pub slice_bounds-write_call-count : goal.slice_bounds-write_call-count
slice_bounds-write_call-count c =
    let k = kept (part (part (then (then start c.put_pair-a.ensures) c.put_at-b.ensures) c.write_counted-p.ensures) c.write_counted-k.ensures) (omega (arith, c.requires.i_in_bounds, win-length c.args.cells.now c.win_at-w.ensures c.requires.win_ok (which true 0) refl, c.put_pair-a.ensures.long, c.put_at-b.ensures.long, c.write_counted-p.ensures.long, c.write_counted-k.ensures.long)) in omega (arith, c.requires.i_in_bounds, win-length c.args.cells.now c.win_at-w.ensures c.requires.win_ok (which true 0) refl, c.put_pair-a.ensures.long, c.put_at-b.ensures.long, c.write_counted-p.ensures.long, c.write_counted-k.ensures.long, k)

pub slice_bounds-write_call-start : goal.slice_bounds-write_call-start
slice_bounds-write_call-start c =
    let k = kept (part (part (then (then start c.put_pair-a.ensures) c.put_at-b.ensures) c.write_counted-p.ensures) c.write_counted-k.ensures) (omega (arith, c.requires.i_in_bounds, win-length c.args.cells.now c.win_at-w.ensures c.requires.win_ok (which true 0) refl, c.put_pair-a.ensures.long, c.put_at-b.ensures.long, c.write_counted-p.ensures.long, c.write_counted-k.ensures.long)) in omega (arith, c.requires.i_in_bounds, win-length c.args.cells.now c.win_at-w.ensures c.requires.win_ok (which true 0) refl, c.put_pair-a.ensures.long, c.put_at-b.ensures.long, c.write_counted-p.ensures.long, c.write_counted-k.ensures.long, k)

pub write_call-m-requires : goal.write_call-m-requires
write_call-m-requires c =
    let k = kept (part (part (then (then start c.put_pair-a.ensures) c.put_at-b.ensures) c.write_counted-p.ensures) c.write_counted-k.ensures) (omega (arith, c.requires.i_in_bounds, win-length c.args.cells.now c.win_at-w.ensures c.requires.win_ok (which true 0) refl, c.put_pair-a.ensures.long, c.put_at-b.ensures.long, c.write_counted-p.ensures.long, c.write_counted-k.ensures.long)) in record { wf = c.win_at-w.ensures.node _ c.requires.win_ok; root_in_bounds = omega (arith, c.requires.i_in_bounds, win-length c.args.cells.now c.win_at-w.ensures c.requires.win_ok (which true 0) refl, c.put_pair-a.ensures.long, c.put_at-b.ensures.long, c.write_counted-p.ensures.long, c.write_counted-k.ensures.long, k) }

pub overflow_add-result : goal.overflow_add-result
overflow_add-result c =
    omega (arith, c.requires.i_in_bounds, win-length c.args.cells.now c.win_at-w.ensures c.requires.win_ok (which true 0) refl, c.put_pair-a.ensures.long, c.put_at-b.ensures.long, c.write_counted-p.ensures.long, c.write_counted-k.ensures.long, c.write_call-m.ensures.long)

pub returns : goal.returns
returns c =
    win-wrote c.args.cells.now c.win_at-w.ensures c.requires.win_ok (which true 0) refl c.from.ensures c.put_pair-a.ensures c.put_at-b.ensures c.write_counted-p.ensures refl c.write_counted-k.ensures refl c.write_call-m.ensures
