-- `read_member` meets its contract. Assumes nothing.
use native.Mathlib.Omega.{arith}
use Rattle.reader_fields.proofs.Exprs.{reads-grown}
use Rattle.reader_parts.proofs.Parts.{member-took}
use Rattle.reader_parts.proofs.read_member.Goals as goal

pub overflow_sub-t : goal.overflow_sub-t
overflow_sub-t c =
    let g = reads-grown _ _ _ _ _ c.in_ok-t.ensures in
    omega (arith, g)

pub put_row-requires : goal.put_row-requires
put_row-requires c =
    let g = reads-grown _ _ _ _ _ c.in_ok-t.ensures in
    omega (arith, g, c.requires)

pub overflow_add-result : goal.overflow_add-result
overflow_add-result c =
    let g = reads-grown _ _ _ _ _ c.in_ok-t.ensures in
    omega (arith, g, c.requires, c.well_formed)

pub returns : goal.returns
returns c =
    member-took _ _ _ _ _ _ _ _ c.in_ok-t.ensures c.put_row.ensures
