-- `text_put::put_number` meets its contract: a digit, or the digits before the last one and then that. Assumes nothing.
use Rattle.text_put.proofs.Laws.{digit, digit_more}
use native.Mathlib.Omega.{arith}
use Rattle.text_put.proofs.+put_number.Goals as goal

pub returns-then-n-lt10 : goal.returns-then-n-lt10
returns-then-n-lt10 t c =
    digit c.args.n c.if-n-lt10.true c.put_byte.ensures

pub put_number-end-requires : goal.put_number-end-requires
put_number-end-requires t c =
    (omega (arith, c.decreases, c.if-n-lt10.false), c.requires)

pub returns : goal.returns
returns t c =
    digit_more c.args.n (omega (arith, c.if-n-lt10.false)) c.put_number-end.ensures c.put_byte-2.ensures
