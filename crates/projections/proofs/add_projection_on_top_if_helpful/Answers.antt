-- `projections::add_projection_on_top_if_helpful` meets its contract. Assumes nothing.
use Rattle.projections.proofs.Tops.{topped_put, topped_stays}
use native.Mathlib.Omega.{arith}
use Rattle.projections.proofs.add_projection_on_top_if_helpful.Goals as goal

pub returns-then-len : goal.returns-then-len
returns-then-len c =
    topped_put c.put.result c.requires (omega (arith, c.if-len.true, c.len.ensures, c.len-2.ensures)) c.put.ensures

pub returns : goal.returns
returns c =
    topped_stays (omega (arith, c.if-len.false, c.len.ensures, c.len-2.ensures))
