-- `predicate_reader::read_keys` meets its contract. Assumes nothing.
use Rattle.std.proofs.lemmas.Result.{err_from_is_err_and}
use Rattle.cpl.specs.Read.{any}
use Rattle.predicate_reader.proofs.Reading.{are_bytes, keys_bad, keys_listed, keys_read}
use Rattle.reader_parts.proofs.Counts.{from-any}
use native.Mathlib.Omega.{arith}
use Rattle.predicate_reader.proofs.read_keys.Goals as goal

pub returns-in_err-list : goal.returns-in_err-list
returns-in_err-list c =
    let p = err_from_is_err_and c.from_residual.result c.from_residual.ensures.1 in
    rw (p.1, p.2) (keys_bad _ (c.in_err-list.ensures any from-any))

pub returns-in_err-read : goal.returns-in_err-read
returns-in_err-read c =
    let p = err_from_is_err_and c.from_residual-in_err-read.result c.from_residual-in_err-read.ensures.1 in
    rw (p.1, p.2) (rw (← c.in_err-read.ensures) at (keys_listed _ _ _ _ _ _ (are_bytes _ (λ i. omega (arith, c.type_inv.bytes i))) c.requires.wf c.requires.made_bound.1 c.requires.made_bound.2 _ (c.in_ok-list.ensures any from-any)))

pub pairs_of-requires : goal.pairs_of-requires
pairs_of-requires c =
    let k = rw (← c.in_ok-read.ensures) at (keys_listed _ _ _ _ _ _ (are_bytes _ (λ i. omega (arith, c.type_inv.bytes i))) c.requires.wf c.requires.made_bound.1 c.requires.made_bound.2 _ (c.in_ok-list.ensures any from-any)) in
    omega (arith, k.few_rows, c.requires.made_bound)

pub returns : goal.returns
returns c =
    let k = rw (← c.in_ok-read.ensures) at (keys_listed _ _ _ _ _ _ (are_bytes _ (λ i. omega (arith, c.type_inv.bytes i))) c.requires.wf c.requires.made_bound.1 c.requires.made_bound.2 _ (c.in_ok-list.ensures any from-any)) in
    keys_read k (omega (arith, c.requires.made_bound)) c.pairs_of.ensures
