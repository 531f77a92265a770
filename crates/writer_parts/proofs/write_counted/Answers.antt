-- `writer_parts::write_counted` meets its contract. Assumes nothing.
use native.Mathlib.Omega.{arith}
use Rattle.std.proofs.Common.{option_copied}
use Rattle.writer_parts.specs.Lists.{list_bytes, taken_count, which_of}
use Rattle.writer_parts.proofs.Lists.{after-count, counted-length}
use Rattle.writer_parts.proofs.write_counted.Goals as goal

pub put_at-a-requires : goal.put_at-a-requires
put_at-a-requires c =
    let l = counted-length c.args.k (taken_count (which_of (option_copied c.args.taken)) c.args.n) (list_bytes c.args.part c.args.rows.now c.args.cells.now c.args.first c.args.n (which_of (option_copied c.args.taken))) in
    omega (arith, c.requires.used_in_bounds, l)

pub slice_bounds-write_list-count : goal.slice_bounds-write_list-count
slice_bounds-write_list-count c =
    let l = counted-length c.args.k (taken_count (which_of (option_copied c.args.taken)) c.args.n) (list_bytes c.args.part c.args.rows.now c.args.cells.now c.args.first c.args.n (which_of (option_copied c.args.taken))) in
    omega (arith, c.requires.used_in_bounds, l, c.put_at-a.ensures.long)

pub slice_bounds-write_list-start : goal.slice_bounds-write_list-start
slice_bounds-write_list-start c =
    let l = counted-length c.args.k (taken_count (which_of (option_copied c.args.taken)) c.args.n) (list_bytes c.args.part c.args.rows.now c.args.cells.now c.args.first c.args.n (which_of (option_copied c.args.taken))) in
    omega (arith, c.requires.used_in_bounds, l, c.put_at-a.ensures.long)

pub write_list-m-requires : goal.write_list-m-requires
write_list-m-requires c =
    let l = counted-length c.args.k (taken_count (which_of (option_copied c.args.taken)) c.args.n) (list_bytes c.args.part c.args.rows.now c.args.cells.now c.args.first c.args.n (which_of (option_copied c.args.taken))) in record { parts_ok = c.requires.parts_ok; used_in_bounds = omega (arith, c.requires.used_in_bounds, l, c.put_at-a.ensures.long) }

pub overflow_add-result : goal.overflow_add-result
overflow_add-result c =
    let l = counted-length c.args.k (taken_count (which_of (option_copied c.args.taken)) c.args.n) (list_bytes c.args.part c.args.rows.now c.args.cells.now c.args.first c.args.n (which_of (option_copied c.args.taken))) in
    omega (arith, c.requires.used_in_bounds, l, c.put_at-a.ensures.long, c.write_list-m.ensures.long)

pub returns : goal.returns
returns c =
    after-count c.taken_count.ensures c.put_at-a.ensures c.write_list-m.ensures
