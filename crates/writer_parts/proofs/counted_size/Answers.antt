-- `writer_parts::counted_size` meets its contract. Assumes nothing.
use native.Mathlib.Omega.{arith}
use Rattle.std.proofs.Common.{option_copied}
use Rattle.writer_parts.specs.Lists.{list_bytes, taken_count, which_of}
use Rattle.writer_parts.proofs.Lists.{counted-length}
use Rattle.writer_parts.proofs.counted_size.Goals as goal

pub list_size-requires : goal.list_size-requires
list_size-requires c =
    let l = counted-length c.args.k (taken_count (which_of (option_copied c.args.taken)) c.args.n) (list_bytes c.args.part c.args.rows.now c.args.cells.now c.args.first c.args.n (which_of (option_copied c.args.taken))) in record { parts_ok = c.requires.parts_ok; countable = omega (arith, c.requires.countable, l) }

pub add-requires : goal.add-requires
add-requires c =
    let l = counted-length c.args.k (taken_count (which_of (option_copied c.args.taken)) c.args.n) (list_bytes c.args.part c.args.rows.now c.args.cells.now c.args.first c.args.n (which_of (option_copied c.args.taken))) in
    omega (arith, c.requires.countable, l, c.list_size.ensures)

pub returns : goal.returns
returns c =
    let l = counted-length c.args.k (taken_count (which_of (option_copied c.args.taken)) c.args.n) (list_bytes c.args.part c.args.rows.now c.args.cells.now c.args.first c.args.n (which_of (option_copied c.args.taken))) in
    omega (arith, l, c.list_size.ensures, c.add.ensures)
