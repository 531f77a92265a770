-- `read_item` meets its contract. Assumes nothing.
use native.Mathlib.Omega.{arith}
use Rattle.std.proofs.lemmas.Result.{err_from_is_err_and}
use Rattle.reader_parts.proofs.Parts.{item-bad, item-value, item-is-bare, item-is-alias}
use Rattle.reader_parts.proofs.read_item.Goals as goal

pub returns-in_err-tag : goal.returns-in_err-tag
returns-in_err-tag c =
    let p = err_from_is_err_and c.from_residual.result c.from_residual.ensures.1 in
    rw (p.1, p.2) (item-bad _ _ _ c.in_err-tag.ensures)

pub returns-in-0 : goal.returns-in-0
returns-in-0 c =
    item-is-bare _ _ c.in_ok-tag.ensures.0 _ _ _ _ c.read_bare.result c.in-0.is c.read_bare.ensures

pub returns-in-12 : goal.returns-in-12
returns-in-12 c =
    item-is-alias _ _ c.in_ok-tag.ensures.0 _ _ _ _ c.read_alias.result c.in-12.is c.read_alias.ensures

pub returns-in_default : goal.returns-in_default
returns-in_default c =
    rw (c.new.ensures.0, c.new.ensures.1) (item-value _ _ _ c.in_ok-tag.ensures.0 (omega arith) (omega arith))
