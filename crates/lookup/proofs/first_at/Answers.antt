-- `lookup::first_at` meets its contract. Assumes nothing.
use mathlib.Core.Path.{sym}
use native.Mathlib.Omega.{arith}
use lib.ListN.{get_or-eq_default}
use Rattle.lookup.proofs.first_at.Goals as goal

pub returns : goal.returns
returns c =
    sym (get_or-eq_default c.args.widths.now 0 (omega (arith, c.if-k-widths.false)))
