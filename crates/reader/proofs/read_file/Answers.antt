-- `read_file` meets its contract. Assumes nothing.
use Rattle.reader.proofs.Files.{file_mark}
use native.Mathlib.Omega.{arith}
use Rattle.reader.proofs.read_file.Goals as goal

pub read_marked-requires : goal.read_marked-requires
read_marked-requires c =
    let h = rw c.in-Some.is at c.read_mark.ensures in record { in_bounds = (omega (arith, c.requires.in_bounds), c.requires.v_in_bounds _ (h.0 0 0), omega (arith, c.requires.in_bounds), omega (arith, c.requires.in_bounds), omega (arith, c.requires.in_bounds)); known = h.1 }

pub returns-in_default : goal.returns-in_default
returns-in_default c =
    rw (c.new.ensures.0, c.new.ensures.1) (file_mark _ (rw c.in_default.is at c.read_mark.ensures))

pub returns : goal.returns
returns c =
    let h = rw c.in-Some.is at c.read_mark.ensures in
    c.read_marked.ensures h.0
