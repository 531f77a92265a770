-- The proof of the cycle of calls {read_expr}. The measure is the number of tags left. Assumes nothing.
use Prim.Native.Nat.{◌-◌}
use Rattle.reader_fields.proofs.+read_expr.Given as goal

abbrev pub decreases-read_expr : goal.decreases-read_expr
decreases-read_expr l = 4096 - l.s.tags
