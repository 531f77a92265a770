-- `text_put::put_integer` meets its contract. Assumes nothing.
use Rattle.text_put.proofs.Laws.{integer_neg, integer-pos}
use native.Mathlib.Omega.{arith}
use Rattle.text_put.proofs.put_integer.Goals as goal

pub returns-then-x-lt9223372036854775808 : goal.returns-then-x-lt9223372036854775808
returns-then-x-lt9223372036854775808 c =
    integer-pos c.args.x c.if-x-lt9223372036854775808.true c.put_number.ensures

pub returns : goal.returns
returns c =
    let a = c.wrapping_neg.ensures in let b = c.wrapping_neg.type_inv in
    integer_neg c.args.x _ (omega (arith, c.if-x-lt9223372036854775808.false)) (omega (arith, a, b)) c.put_text-a.ensures c.put_number-2.ensures
