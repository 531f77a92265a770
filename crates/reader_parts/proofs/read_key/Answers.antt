-- `read_key` meets its contract. Assumes nothing.
use Rattle.std.proofs.lemmas.Result.{err_from_is_err_and}
use Rattle.reader_parts.proofs.Parts.{key-bad, key_right}
use Rattle.reader_parts.proofs.read_key.Goals as goal

pub returns-in_err-flags : goal.returns-in_err-flags
returns-in_err-flags c =
    let p = err_from_is_err_and c.from_residual.result c.from_residual.ensures.1 in
    rw (p.1, p.2) (key-bad _ _ _ c.in_err-flags.ensures.0)

pub returns : goal.returns
returns c =
    key_right _ _ c.in_ok-flags.ensures.0.0 c.in_ok-flags.ensures.0.1 _ _ _ _ c.read_member.result c.read_member.ensures
