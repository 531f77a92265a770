-- `read_join` meets its contract. Assumes nothing.
use Rattle.std.proofs.lemmas.Result.{err_from_is_err_and}
use native.Mathlib.Omega.{arith}
use mathlib.Core.Path.{refl}
use Rattle.cpl.specs.Read.{any}
use Rattle.reader_parts.proofs.Counts.{from-any}
use Rattle.tree.specs.Layout.{on_store, list_store}
use Rattle.reader_parts.proofs.Compose.{took-rows}
use Rattle.reader_heads.proofs.Heads.{moved, join-bad, join-bad-pairs, join-bad-cond, join-took}
use Rattle.reader_heads.proofs.read_join.Goals as goal

pub read_cond-requires : goal.read_cond-requires
read_cond-requires c =
    let a = rw c.in_ok-pairs.was at (c.read_list.ensures any from-any) in
    let g = a 0 in
    omega (arith, g.made_is, g.grown, g.few, c.requires)

pub root-requires : goal.root-requires
root-requires c =
    let b = rw c.in_ok-cond.was at c.read_cond.ensures in
    let h = b 0 in
    omega (arith, h.made_is)

pub overflow_sub-result : goal.overflow_sub-result
overflow_sub-result c =
    let a = rw c.in_ok-pairs.was at (c.read_list.ensures any from-any) in
    let g = a 0 in
    omega (arith, g.row_is)

pub returns-in_err-kind : goal.returns-in_err-kind
returns-in_err-kind c =
    let p = err_from_is_err_and c.from_residual.result c.from_residual.ensures.1 in
    λ C place n. rw (p.1, p.2) (join-bad _ _ _ _ _ n ((rw c.in_err-kind.was at c.read_below.ensures).0 _ n))

pub returns-in_err-pairs : goal.returns-in_err-pairs
returns-in_err-pairs c =
    let p = err_from_is_err_and c.from_residual-in_err-pairs.result c.from_residual-in_err-pairs.ensures.1 in
    λ C place n. let e = rw c.in_ok-kind.was at c.read_below.ensures in
    rw (p.1, p.2) (join-bad-pairs _ _ _ _ _ n (e.0.0 _ n) (rw c.in_err-pairs.was at (c.read_list.ensures any from-any) n))

pub returns-in_err-cond : goal.returns-in_err-cond
returns-in_err-cond c =
    let p = err_from_is_err_and c.from_residual-in_err-cond.result c.from_residual-in_err-cond.ensures.1 in
    λ C place n. let e = rw c.in_ok-kind.was at c.read_below.ensures in
    rw (p.1, p.2) (join-bad-cond _ _ _ _ _ n (e.0.0 _ n) (rw c.in_ok-pairs.was at (c.read_list.ensures any from-any) n).is (rw c.in_err-cond.was at c.read_cond.ensures n))

pub returns : goal.returns
returns c =
    λ C place n. let e = rw c.in_ok-kind.was at c.read_below.ensures in (
      _,
      join-took _ _ _ _ _ _ _ _ _ n _ _ _ _ _ (e.0.0 _ n) e.0.1 refl c.flag.ensures.0 c.flag.ensures.1 c.root.ensures.0 c.root.ensures.1
          (moved (list_store on_store) c.args.s _ _ _ _ _ n _ (rw c.in_ok-pairs.was at (c.read_list.ensures any from-any) n)) (took-rows _ (λ made x. refl) (rw c.in_ok-cond.was at c.read_cond.ensures n)),
    )
