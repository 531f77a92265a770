-- `writer_parts::put_three` meets its contract: the first byte, and then the others. Assumes nothing.
use native.Mathlib.Omega.{arith}
use Prim.Native.Nat.{◌%◌}
use lib.ListN.{length-set, set}
use Rattle.writer_parts.proofs.Over.{fits, kept, put_more}
use Rattle.writer_parts.proofs.put_three.Goals as goal

pub slice_bounds-put_two-count : goal.slice_bounds-put_two-count
slice_bounds-put_two-count c = simp length-set (omega arith)

pub slice_bounds-put_two-start : goal.slice_bounds-put_two-start
slice_bounds-put_two-start c = simp length-set (omega arith)

pub put_two-requires : goal.put_two-requires
put_two-requires c =
    fits (set c.args.out.now 0 (c.args.x % 256)) 1 2 (simp length-set (omega (arith, c.requires)))

pub shape_of-out : goal.shape_of-out
shape_of-out c =
    kept {xs = c.args.out.now} (put_more c.args.x (omega arith) c.requires c.put_two.ensures) c.requires

pub returns : goal.returns
returns c =
    put_more c.args.x (omega arith) c.requires c.put_two.ensures
