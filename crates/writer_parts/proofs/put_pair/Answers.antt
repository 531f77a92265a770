-- `writer_parts::put_pair` meets its contract. Assumes nothing.
use borrow.Author.Rules.{rules}
use native.Mathlib.Omega.{arith}
use Rattle.writer_parts.proofs.Exprs.{pair_laid}
use Rattle.writer_parts.proofs.put_pair.Goals as goal

pub returns : goal.returns
returns c =
    pair_laid c.args.q c.args.n (omega (arith, c.from.ensures, c.from-2.ensures)) (search rules) c.put_at.ensures
