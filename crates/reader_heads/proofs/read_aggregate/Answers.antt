-- `read_aggregate` meets its contract. Assumes nothing.
use Rattle.std.proofs.lemmas.Result.{err_from_is_err_and}
use native.Mathlib.Omega.{arith}
use mathlib.Core.Path.{refl}
use Rattle.cpl.specs.Read.{any}
use Rattle.reader_parts.proofs.Counts.{from-any}
use Prim.Native.Nat.{◌-◌}
use lib.ListN.{length}
use lib.Dec.{leb}
use Rattle.reader_parts.proofs.Compose.{all_one}
use Rattle.reader_parts.proofs.Counts.{counted-few}
use Rattle.tree.specs.Layout.{item_store}
use Rattle.reader_heads.proofs.Heads.{NotBoth, from_groups, aggregate-bad, aggregate-bad_values, aggregate-took}
use Rattle.reader_heads.proofs.read_aggregate.Goals as goal

pub read_list-requires-2 : goal.read_list-requires-2
read_list-requires-2 c =
    let a = rw c.in_ok-groups.was at (c.read_list.ensures any from-any) in
    let g = a 0 in
    omega (arith, g.made_is, g.row_is, g.grown, g.few, all_one item_store (λ x. refl) g.value, counted-few _ _ _ _ _ _ _ _ g.is, c.requires)

pub overflow_sub-result : goal.overflow_sub-result
overflow_sub-result c =
    let a = rw c.in_ok-groups.was at (c.read_list.ensures any from-any) in
    let g = a 0 in
    omega (arith, g.row_is)

pub overflow_sub-result-2 : goal.overflow_sub-result-2
overflow_sub-result-2 c =
    let b = rw c.in_ok-values.was at (c.read_list-2.ensures (leb (1 - c.flag-least.result)) (λ x. refl)) 0 in
    omega (arith, b.row_is)

pub returns-in_err-groups : goal.returns-in_err-groups
returns-in_err-groups c =
    let p = err_from_is_err_and c.from_residual.result c.from_residual.ensures.1 in
    λ C place n. rw (p.1, p.2) (aggregate-bad _ _ _ _ _ n (rw c.in_err-groups.was at (c.read_list.ensures any from-any) n))

pub returns-in_err-values : goal.returns-in_err-values
returns-in_err-values c =
    let p = err_from_is_err_and c.from_residual-in_err-values.result c.from_residual-in_err-values.ensures.1 in
    λ C place n. let a = rw c.in_ok-groups.was at (c.read_list.ensures any from-any) n in
    let from = from_groups a.value _ _ _ _ a.row_is c.flag-least.ensures.0 c.flag-least.ensures.1 refl in
    rw (p.1, p.2) (aggregate-bad_values _ _ _ _ _ n a.is (rw c.in_err-values.was at (c.read_list-2.ensures (NotBoth (length a.value)) from) n))

pub returns : goal.returns
returns c =
    λ C place n. let a = rw c.in_ok-groups.was at (c.read_list.ensures any from-any) n in
    let from = from_groups a.value _ _ _ _ a.row_is c.flag-least.ensures.0 c.flag-least.ensures.1 refl in
    (_, aggregate-took _ _ _ _ _ _ _ _ _ _ n _ _ _ _ refl refl a (rw c.in_ok-values.was at (c.read_list-2.ensures (NotBoth (length a.value)) from) n))
