-- `read_list` meets its contract. Assumes nothing.
use native.Mathlib.Omega.{arith}
use Rattle.std.proofs.lemmas.Result.{err_from_is_err_and}
use lib.Dec.{leb}
use mathlib.Core.Path.{refl}
use Rattle.reader_parts.specs.Parts.{store_of, reader_of}
use Rattle.reader_parts.proofs.Parts.{list-bad, list_right}
use Rattle.reader_parts.proofs.read_list.Goals as goal

pub returns-in_err-count : goal.returns-in_err-count
returns-in_err-count c =
    let p = err_from_is_err_and c.from_residual.result c.from_residual.ensures.1 in
    λ allowed from. rw (p.1, p.2) (list-bad _ allowed _ (reader_of c.args.kind) _ _ _ (c.in_err-count.ensures allowed from))

pub read_parts-requires : goal.read_parts-requires
read_parts-requires c =
    let e = c.in_ok-count.ensures (leb c.args.least) (λ x. refl) in
    omega (arith, e.1, c.requires)

pub returns : goal.returns
returns c =
    λ allowed from. let e = c.in_ok-count.ensures allowed from in
    list_right _ allowed _ (reader_of c.args.kind) _ (store_of c.args.kind) _ e.0 _ _ _ _ c.read_parts.result c.read_parts.ensures
